-- Each step, a split and a join keep the views in step with the run. Events are listed with the newest first.
use Rattle.std.proofs.Common.{◌≡◌, ◌≢◌, ◌⊎◌, ℕ, zero, suc, ◌<◌, ◌≤◌, ◌==◌, List, [], ◌∷◌, ◌++◌, length, set, Bool, true, false, cond, refl, sym, ap, ◌∙◌, subst, inl, inr, ⊎_elim, arith, le_refl, ne_eqb, eq-eqb, length-append, length-set, nat_lt}
use Rattle.std.proofs.lemmas.List.{append-nil, append_assoc}
use Rattle.std.proofs.lemmas.Bool.{ltb-true, ltb-false}
use Rattle.std.specs.Prelude.{slice_index}
use mathlib.Core.Option.{some, some-injective, some-ne-none}
use mathlib.Core.Logic.{dite}
use native.Mathlib.Decide.{ℕ_discrete}
use lib.ListN.{get_elem?}
use Rattle.atomic_table.proofs.Lists.{set_else, at_longer}
use Rattle.cas_history.specs.declared.event.Event.{Event}
use Rattle.cas_history.specs.History.{events_of}
use Rattle.cas_history.specs.Laws.{AreOfOtherSessions}
use Rattle.region_words.specs.Laws.{AreOf}
use Rattle.region_words.specs.Numbers.{ViewsGo, IsHeard, Has, IsFree, AreOthers, Begins, own_number}
use Rattle.region_words.specs.Rule.{splitting, next_view, joining, spent_view, longer}
use Rattle.region_words.specs.declared.view.Heard.{Heard}
use Rattle.region_words.specs.declared.view.SeatView.{SeatView}
use Rattle.region_words.proofs.Lists.{at-here, each-set, each-snoc, at-snoc-where, no-items, back-nil, first-in, has-left, has-right, has-either}

-- ---- the events of a session

pub events-append : (n : ℕ) (xs ys : List Event) → events_of n (xs ++ ys) ≡ events_of n xs ++ events_of n ys
events-append n [] ys = refl
events-append n (e ∷ xs) ys = step (e.note.who.session == n) (events-append n xs ys)
  where
    step : (b : Bool) → events_of n (xs ++ ys) ≡ events_of n xs ++ events_of n ys → cond b (e ∷ events_of n (xs ++ ys)) (events_of n (xs ++ ys)) ≡ cond b (e ∷ events_of n xs) (events_of n xs) ++ events_of n ys
    step true rest = ap (λ l. e ∷ l) rest
    step false rest = rest

-- a list without events of a session is one of others
pub others-of : (n : ℕ) (es : List Event) → events_of n es ≡ [] → AreOfOtherSessions n es
others-of n [] none = tt
others-of n (e ∷ es) none = step (e.note.who.session == n) refl none (others-of n es)
  where
    step : (b : Bool) → (e.note.who.session == n) ≡ b → cond b (e ∷ events_of n es) (events_of n es) ≡ [] → (events_of n es ≡ [] → AreOfOtherSessions n es) → AreOfOtherSessions n (e ∷ es)
    step true test h rest = absurd (cc h)
    step false test h rest = ((λ is. let t = eq-eqb e.note.who.session n is in cc (t, test)), rest h)

other-cond : (b : Bool) (e : Event) → b ≡ false → cond b (e ∷ []) [] ≡ []
other-cond b e is = rw is refl

pub one-of : (ns : List ℕ) (e : Event) → Has e.note.who.session ns → AreOf ns (e ∷ [])
one-of ns e has n not = other-cond (e.note.who.session == n) e (ne_eqb e.note.who.session n (λ (is : e.note.who.session ≡ n). not (subst (λ (z : ℕ). Has z ns) is has)))

pub none-of : (ns : List ℕ) → AreOf ns []
none-of ns n not = refl

-- ---- beginnings

pub begins-more : (more seen log : List Event) → Begins seen log → Begins seen (more ++ log)
begins-more more seen log p = (more ++ p.0, ap (λ l. more ++ l) p.1 ∙ sym (append_assoc more p.0 seen))

-- of two ends of one list, the shorter is an end of the longer
ends-both : (ps qs xs ys : List Event) → ps ++ xs ≡ qs ++ ys → length xs ≤ length ys → Begins xs ys
ends-both ps [] xs ys e h = (ps, sym e)
ends-both [] (q ∷ qs) xs ys e h = let l : length xs ≡ suc (length (qs ++ ys)) = ap length e in let s = length-append qs ys in absurd (omega arith)
ends-both (p ∷ ps) (q ∷ qs) xs ys e h = let rest : ps ++ xs ≡ qs ++ ys = cc e in ends-both ps qs xs ys rest h

pub begins-both : (xs ys log : List Event) → Begins xs log → Begins ys log → length xs ≤ length ys → Begins xs ys
begins-both xs ys log p q h = ends-both p.0 q.0 xs ys (sym p.1 ∙ q.1) h

pub longer-facts : (xs ys log : List Event) → Begins xs log → Begins ys log → Begins xs (longer xs ys) × Begins ys (longer xs ys) × Begins (longer xs ys) log
longer-facts xs ys log p q = at (nat_lt (length xs) (length ys)) refl
  where
    at : (b : Bool) → nat_lt (length xs) (length ys) ≡ b → Begins xs (cond b ys xs) × Begins ys (cond b ys xs) × Begins (cond b ys xs) log
    at true e = (begins-both xs ys log p q (omega (arith, ltb-true (length xs) (length ys) e)), ([], refl), q)
    at false e = (([], refl), begins-both ys xs log q p (omega (arith, ltb-false (length xs) (length ys) e)), p)

same-whole : (xs log : List Event) → Begins log xs → Begins xs log → xs ≡ log
same-whole xs log p q =
    let a : length xs ≡ length (p.0 ++ log) = ap length p.1 in
    let b : length log ≡ length (q.0 ++ xs) = ap length q.1 in
    let la = length-append p.0 log in
    let lb = length-append q.0 xs in
    let none : p.0 ≡ [] = no-items p.0 (omega arith) in
    p.1 ∙ ap (λ l. l ++ log) none

-- what stands between a beginning and the whole has as many events of a session as both, where these have as many
squeezed : (n : ℕ) (xs ys log : List Event) → Begins xs ys → Begins ys log → events_of n log ≡ events_of n xs → events_of n log ≡ events_of n ys
squeezed n xs ys log p q same =
    let a : events_of n ys ≡ events_of n p.0 ++ events_of n xs = ap (events_of n) p.1 ∙ events-append n p.0 xs in
    let b : events_of n log ≡ events_of n q.0 ++ events_of n ys = ap (events_of n) q.1 ∙ events-append n q.0 ys in
    let la : length (events_of n ys) ≡ length (events_of n p.0 ++ events_of n xs) = ap length a in
    let lb : length (events_of n log) ≡ length (events_of n q.0 ++ events_of n ys) = ap length b in
    let ls : length (events_of n log) ≡ length (events_of n xs) = ap length same in
    let sa = length-append (events_of n p.0) (events_of n xs) in
    let sb = length-append (events_of n q.0) (events_of n ys) in
    b ∙ ap (λ l. l ++ events_of n ys) (no-items (events_of n q.0) (omega arith))

module _ (log : List Event) (views : List SeatView) (go : ViewsGo log views) where
  -- what a seat that steps had not seen is of others
  pub no-own : (id : ℕ) (v : SeatView) (at : get_elem? views id ≡ some v) (between : List Event) → log ≡ between ++ v.seen → (n : ℕ) → Has n v.numbers → events_of n between ≡ []
  no-own id v at between is n has =
      let e : events_of n between ++ events_of n v.seen ≡ events_of n v.seen = sym (events-append n between v.seen) ∙ ap (events_of n) (sym is) ∙ go.own id v at n has in
      let l : length (events_of n between ++ events_of n v.seen) ≡ length (events_of n v.seen) = ap length e in
      no-items (events_of n between) (omega (arith, length-append (events_of n between) (events_of n v.seen)))

  pub strangers : (id : ℕ) (v : SeatView) (at : get_elem? views id ≡ some v) (between : List Event) → log ≡ between ++ v.seen → AreOthers v.numbers between
  strangers id v at between is n has = others-of n between (no-own id v at between is n has)

  -- a step that adds no event, or one of the seat's own, and after which the seat has seen all
  pub go-step : (id : ℕ) (v w : SeatView) (more : List Event) → get_elem? views id ≡ some v → w.seen ≡ more ++ log → w.numbers ≡ v.numbers → w.given ≡ v.given → w.heard ≡ [] → AreOf v.numbers more → ViewsGo (more ++ log) (set views id w)
  go-step id v w more at sees numbers given deaf mine = record {
    begins = each-set (λ j u. Begins u.seen (more ++ log)) views id w ([], sym sees) (λ j u _ e. begins-more more u.seen log (go.begins j u e));
    top = (id, w, at-here views id v w at, sees);
    own = each-set (λ j u. (n : ℕ) → Has n u.numbers → events_of n (more ++ log) ≡ events_of n u.seen) views id w
        (λ n _. ap (events_of n) (sym sees))
        (λ j u apart e n has. events-append n more log ∙ (ap (λ l. l ++ events_of n log) (mine n (λ mine'. apart (go.once j id u v e at n has mine'))) ∙ go.own j u e n has));
    most = each-set (λ j u. (n : ℕ) → Has n u.numbers → n ≤ 64) views id w (λ n has. go.most id v at n (back n has)) (λ j u _ e. go.most j u e);
    once = λ j k u x eu ex n hu hx. let a = was j u eu in let b = was k x ex in go.once j k a.0 b.0 a.1 b.1 n (a.2 n hu) (b.2 n hx);
    others = λ n free. events-append n more log ∙ (ap (λ l. l ++ events_of n log) (mine n (λ has. freed n free id v at has)) ∙ go.others n (freed n free));
    heard = each-set (λ j u. (p : ℕ) (h : Heard) → get_elem? u.heard p ≡ some h → IsHeard (more ++ log) u.numbers h) views id w
        (λ p h e. absurd (some-ne-none h (sym e ∙ ap (λ (l : List Heard). get_elem? l p) deaf)))
        (λ j u apart e p h d. let old = go.heard j u e p h d in record {
          begins = begins-more more h.seen log old.begins;
          own = λ n has. let a = old.own n has in (a.0, events-append n more log ∙ (ap (λ l. l ++ events_of n log) (mine n (λ mine'. apart (go.once j id u v e at n a.0 mine'))) ∙ a.1));
        });
    left = each-set (λ j u. own_number u ≡ 64 → (n : ℕ) → u.given ≤ n → n < 64 → IsFree (set views id w) n) views id w
        (λ own n low high. frees n (go.left id v at (ap (λ (l : List ℕ). slice_index l 0) (sym numbers) ∙ own) n (subst (λ (z : ℕ). z ≤ n) given low) high))
        (λ j u _ e own n low high. frees n (go.left j u e own n low high));
  }
    where
      back : (n : ℕ) → Has n w.numbers → Has n v.numbers
      back n has = subst (Has n) numbers has

      was : (j : ℕ) (u : SeatView) → get_elem? (set views id w) j ≡ some u → (u0 : SeatView) × (get_elem? views j ≡ some u0) × ((n : ℕ) → Has n u.numbers → Has n u0.numbers)
      was = each-set (λ j u. (u0 : SeatView) × (get_elem? views j ≡ some u0) × ((n : ℕ) → Has n u.numbers → Has n u0.numbers)) views id w (v, at, back) (λ j u _ e. (u, e, λ n h. h))

      frees : (n : ℕ) → IsFree views n → IsFree (set views id w) n
      frees n free j u e has = let a = was j u e in free j a.0 a.1 (a.2 n has)

      freed : (n : ℕ) → IsFree (set views id w) n → IsFree views n
      freed n free j u e has = dite (ℕ_discrete j id)
          (λ is. free id w (at-here views id v w at) (subst (Has n) (sym numbers) (subst (λ (z : SeatView). Has n z.numbers) (some-injective u v (sym e ∙ (ap (get_elem? views) is ∙ at))) has)))
          (λ other. free j u (set_else views id j w other ∙ e) has)

  -- a step after which the seat has seen what it had
  pub go-still : (id : ℕ) (v w : SeatView) → get_elem? views id ≡ some v → w.seen ≡ v.seen → w.numbers ≡ v.numbers → w.given ≡ v.given → w.heard ≡ v.heard → ViewsGo log (set views id w)
  go-still id v w at sees numbers given heard = record {
    begins = each-set (λ j u. Begins u.seen log) views id w (let p = go.begins id v at in (p.0, p.1 ∙ ap (λ l. p.0 ++ l) (sym sees))) (λ j u _ e. go.begins j u e);
    top = top-at (ℕ_discrete go.top.0 id);
    own = each-set (λ j u. (n : ℕ) → Has n u.numbers → events_of n log ≡ events_of n u.seen) views id w (λ n has. go.own id v at n (back n has) ∙ ap (events_of n) (sym sees)) (λ j u _ e. go.own j u e);
    most = each-set (λ j u. (n : ℕ) → Has n u.numbers → n ≤ 64) views id w (λ n has. go.most id v at n (back n has)) (λ j u _ e. go.most j u e);
    once = λ j k u x eu ex n hu hx. let a = was j u eu in let b = was k x ex in go.once j k a.0 b.0 a.1 b.1 n (a.2 n hu) (b.2 n hx);
    others = λ n free. go.others n (λ j u e has. dite (ℕ_discrete j id)
        (λ is. free id w (at-here views id v w at) (subst (Has n) (sym numbers) (subst (λ (z : SeatView). Has n z.numbers) (some-injective u v (sym e ∙ (ap (get_elem? views) is ∙ at))) has)))
        (λ other. free j u (set_else views id j w other ∙ e) has));
    heard = each-set (λ j u. (p : ℕ) (h : Heard) → get_elem? u.heard p ≡ some h → IsHeard log u.numbers h) views id w
        (λ p h e. let old = go.heard id v at p h (ap (λ (l : List Heard). get_elem? l p) (sym heard) ∙ e) in record { begins = old.begins; own = λ n has. let a = old.own n has in (subst (Has n) (sym numbers) a.0, a.1) })
        (λ j u _ e. go.heard j u e);
    left = each-set (λ j u. own_number u ≡ 64 → (n : ℕ) → u.given ≤ n → n < 64 → IsFree (set views id w) n) views id w
        (λ own n low high. frees n (go.left id v at (ap (λ (l : List ℕ). slice_index l 0) (sym numbers) ∙ own) n (subst (λ (z : ℕ). z ≤ n) given low) high))
        (λ j u _ e own n low high. frees n (go.left j u e own n low high));
  }
    where
      back : (n : ℕ) → Has n w.numbers → Has n v.numbers
      back n has = subst (Has n) numbers has

      was : (j : ℕ) (u : SeatView) → get_elem? (set views id w) j ≡ some u → (u0 : SeatView) × (get_elem? views j ≡ some u0) × ((n : ℕ) → Has n u.numbers → Has n u0.numbers)
      was = each-set (λ j u. (u0 : SeatView) × (get_elem? views j ≡ some u0) × ((n : ℕ) → Has n u.numbers → Has n u0.numbers)) views id w (v, at, back) (λ j u _ e. (u, e, λ n h. h))

      frees : (n : ℕ) → IsFree views n → IsFree (set views id w) n
      frees n free j u e has = let a = was j u e in free j a.0 a.1 (a.2 n has)

      top-at : Dec (go.top.0 ≡ id) → (j : ℕ) × (u : SeatView) × (get_elem? (set views id w) j ≡ some u) × (u.seen ≡ log)
      top-at (yes is) = (id, w, at-here views id v w at, sees ∙ ap (λ (z : SeatView). z.seen) (some-injective v go.top.1 (sym at ∙ (ap (get_elem? views) (sym is) ∙ go.top.2))) ∙ go.top.3)
      top-at (no other) = (go.top.0, go.top.1, set_else views id go.top.0 w other ∙ go.top.2, go.top.3)

  -- a seat of the next number has seen as much
  pub go-split : (id : ℕ) (v : SeatView) → get_elem? views id ≡ some v → own_number v ≡ 64 → v.given < 64 → ViewsGo log (set views id (splitting v) ++ next_view v ∷ [])
  go-split id v at own room = record {
    begins = each-snoc (λ j u. Begins u.seen log) ws (next_view v) (λ _. go.begins id v at) (each-set (λ j u. Begins u.seen log) views id (splitting v) (go.begins id v at) (λ j u _ e. go.begins j u e));
    top = top-at (ℕ_discrete go.top.0 id);
    own = each-snoc (λ j u. (n : ℕ) → Has n u.numbers → events_of n log ≡ events_of n u.seen) ws (next_view v)
        (λ j n has. ⊎_elim (λ (e : n ≡ v.given). subst (λ (z : ℕ). events_of z log ≡ events_of z v.seen) (sym e) given-own) (λ (h : ⊥). absurd h) has)
        (each-set (λ j u. (n : ℕ) → Has n u.numbers → events_of n log ≡ events_of n u.seen) views id (splitting v) (go.own id v at) (λ j u _ e. go.own j u e));
    most = each-snoc (λ j u. (n : ℕ) → Has n u.numbers → n ≤ 64) ws (next_view v)
        (λ j n has. ⊎_elim (λ (e : n ≡ v.given). omega arith) (λ (h : ⊥). absurd h) has)
        (each-set (λ j u. (n : ℕ) → Has n u.numbers → n ≤ 64) views id (splitting v) (go.most id v at) (λ j u _ e. go.most j u e));
    once = λ j k u x eu ex n hu hx. pair n j k (from j u eu n hu) (from k x ex n hx);
    others = λ n free. go.others n (λ j u e has. dite (ℕ_discrete j id)
        (λ is. free id (splitting v) (at_longer ws (next_view v ∷ []) id (splitting v) (at-here views id v (splitting v) at)) (subst (λ (z : SeatView). Has n z.numbers) (some-injective u v (sym e ∙ (ap (get_elem? views) is ∙ at))) has))
        (λ other. free j u (at_longer ws (next_view v ∷ []) j u (set_else views id j (splitting v) other ∙ e)) has));
    heard = each-snoc (λ j u. (p : ℕ) (h : Heard) → get_elem? u.heard p ≡ some h → IsHeard log u.numbers h) ws (next_view v)
        (λ j p h e. absurd (some-ne-none h (sym e)))
        (each-set (λ j u. (p : ℕ) (h : Heard) → get_elem? u.heard p ≡ some h → IsHeard log u.numbers h) views id (splitting v) (λ p h e. absurd (some-ne-none h (sym e))) (λ j u _ e. go.heard j u e));
    left = each-snoc (λ j u. own_number u ≡ 64 → (n : ℕ) → u.given ≤ n → n < 64 → IsFree (ws ++ next_view v ∷ []) n) ws (next_view v)
        (λ j is n low high. absurd (omega arith))
        (each-set (λ j u. own_number u ≡ 64 → (n : ℕ) → u.given ≤ n → n < 64 → IsFree (ws ++ next_view v ∷ []) n) views id (splitting v)
        (λ is n low high j u e has. ⊎_elim (λ (t : (w : SeatView) × (get_elem? views j ≡ some w) × Has n w.numbers). go.left id v at own n (omega arith) high j t.0 t.1 t.2) (λ (t : (j ≡ length views) × (n ≡ v.given)). let a = t.1 in omega arith) (from j u e n has))
        (λ j u apart e is n low high. absurd (apart (go.once j id u v e at 64 (first-in u.numbers is) (first-in v.numbers own)))));
  }
    where
      ws : List SeatView
      ws = set views id (splitting v)

      given-none : events_of v.given log ≡ []
      given-none = go.others v.given (go.left id v at own v.given (le_refl v.given) room)

      given-own : events_of v.given log ≡ events_of v.given v.seen
      given-own =
          let p = go.begins id v at in
          given-none ∙ sym (back-nil (events_of v.given p.0) (events_of v.given v.seen) (sym (events-append v.given p.0 v.seen) ∙ (ap (events_of v.given) (sym p.1) ∙ given-none)))

      from : (j : ℕ) (u : SeatView) → get_elem? (ws ++ next_view v ∷ []) j ≡ some u → (n : ℕ) → Has n u.numbers → ((w : SeatView) × (get_elem? views j ≡ some w) × Has n w.numbers) ⊎ ((j ≡ length views) × (n ≡ v.given))
      from j u e n has = ⊎_elim
          (λ (h : get_elem? ws j ≡ some u). inl (each-set (λ j u. Has n u.numbers → (w : SeatView) × (get_elem? views j ≡ some w) × Has n w.numbers) views id (splitting v) (λ m. (v, at, m)) (λ i x _ d m. (x, d, m)) j u h has))
          (λ (t : (j ≡ length ws) × (next_view v ≡ u)). inr (t.0 ∙ length-set views id (splitting v), ⊎_elim (λ (d : n ≡ v.given). d) (λ (d : ⊥). absurd d) (subst (λ (z : SeatView). Has n z.numbers) (sym t.1) has)))
          (at-snoc-where ws (next_view v) u j e)

      pair : (n j k : ℕ) → ((w : SeatView) × (get_elem? views j ≡ some w) × Has n w.numbers) ⊎ ((j ≡ length views) × (n ≡ v.given)) → ((w : SeatView) × (get_elem? views k ≡ some w) × Has n w.numbers) ⊎ ((k ≡ length views) × (n ≡ v.given)) → j ≡ k
      pair n j k (inl a) (inl b) = go.once j k a.0 b.0 a.1 b.1 n a.2 b.2
      pair n j k (inl a) (inr b) = absurd (go.left id v at own v.given (le_refl v.given) room j a.0 a.1 (subst (λ (z : ℕ). Has z a.0.numbers) b.1 a.2))
      pair n j k (inr a) (inl b) = absurd (go.left id v at own v.given (le_refl v.given) room k b.0 b.1 (subst (λ (z : ℕ). Has z b.0.numbers) a.1 b.2))
      pair n j k (inr a) (inr b) = a.0 ∙ sym b.0

      top-at : Dec (go.top.0 ≡ id) → (j : ℕ) × (u : SeatView) × (get_elem? (ws ++ next_view v ∷ []) j ≡ some u) × (u.seen ≡ log)
      top-at (yes is) = (id, splitting v, at_longer ws (next_view v ∷ []) id (splitting v) (at-here views id v (splitting v) at), ap (λ (z : SeatView). z.seen) (some-injective v go.top.1 (sym at ∙ (ap (get_elem? views) (sym is) ∙ go.top.2))) ∙ go.top.3)
      top-at (no other) = (go.top.0, go.top.1, at_longer ws (next_view v ∷ []) go.top.0 go.top.1 (set_else views id go.top.0 (splitting v) other ∙ go.top.2), go.top.3)

  -- two seats are joined, and the second is left with nothing
  pub go-join : (id other : ℕ) (v w : SeatView) → get_elem? views id ≡ some v → (other ≡ id → ⊥) → get_elem? (set views id (joining v w)) other ≡ some w → Has (own_number v) v.numbers
      → ViewsGo log (set (set views id (joining v w)) other spent_view)
  go-join id other v w at apart there mine = record {
    begins = all (λ j u. Begins u.seen log) facts.2 (log, sym (append-nil log)) (λ j u _ _ e. go.begins j u e);
    top = top-at (ℕ_discrete go.top.0 id) (ℕ_discrete go.top.0 other);
    own = all (λ j u. (n : ℕ) → Has n u.numbers → events_of n log ≡ events_of n u.seen)
        (λ n has. ⊎_elim (λ (h : Has n v.numbers). squeezed n v.seen (longer v.seen w.seen) log facts.0 facts.2 (go.own id v at n h)) (λ (h : Has n w.numbers). squeezed n w.seen (longer v.seen w.seen) log facts.1 facts.2 (go.own other w was n h)) (has-either n v.numbers w.numbers has))
        (λ n has. absurd has) (λ j u _ _ e. go.own j u e);
    most = all (λ j u. (n : ℕ) → Has n u.numbers → n ≤ 64)
        (λ n has. ⊎_elim (λ (h : Has n v.numbers). go.most id v at n h) (λ (h : Has n w.numbers). go.most other w was n h) (has-either n v.numbers w.numbers has))
        (λ n has. absurd has) (λ j u _ _ e. go.most j u e);
    once = λ j k u x eu ex n hu hx. pair n j k (from n j u eu hu) (from n k x ex hx);
    others = λ n free. go.others n (freed n free);
    heard = all (λ j u. (p : ℕ) (h : Heard) → get_elem? u.heard p ≡ some h → IsHeard log u.numbers h) told (λ p h e. absurd (some-ne-none h (sym e))) (λ j u _ _ e. go.heard j u e);
    left = all (λ j u. own_number u ≡ 64 → (n : ℕ) → u.given ≤ n → n < 64 → IsFree ws n)
        (λ own n low high. frees n (go.left id v at (sym (own-joined v.numbers w.numbers mine) ∙ own) n low high))
        (λ own n low high. absurd (omega arith))
        (λ j u _ _ e own n low high. frees n (go.left j u e own n low high));
  }
    where
      was : get_elem? views other ≡ some w
      was = sym (set_else views id other (joining v w) apart) ∙ there

      facts : Begins v.seen (longer v.seen w.seen) × Begins w.seen (longer v.seen w.seen) × Begins (longer v.seen w.seen) log
      facts = longer-facts v.seen w.seen log (go.begins id v at) (go.begins other w was)

      ws : List SeatView
      ws = set (set views id (joining v w)) other spent_view

      all : (P : ℕ → SeatView → Type 0) → P id (joining v w) → P other spent_view → ((j : ℕ) (u : SeatView) → j ≢ id → j ≢ other → get_elem? views j ≡ some u → P j u) → (j : ℕ) (u : SeatView) → get_elem? ws j ≡ some u → P j u
      all P mine left rest j u e = each-set P (set views id (joining v w)) other spent_view left
          (λ i x apart' d. each-set (λ i x. i ≢ other → P i x) views id (joining v w) (λ _. mine) (λ k y off f not. rest k y off not f) i x d apart') j u e

      own-joined : (xs ys : List ℕ) → Has (slice_index xs 0) xs → slice_index (xs ++ ys) 0 ≡ slice_index xs 0
      own-joined [] ys h = absurd h
      own-joined (x ∷ xs) ys h = refl

      told : (p : ℕ) (h : Heard) → get_elem? (joining v w).heard p ≡ some h → IsHeard log (v.numbers ++ w.numbers) h
      told zero h e = subst (IsHeard log (v.numbers ++ w.numbers)) (some-injective _ _ e) (record { begins = go.begins id v at; own = λ n has. (has-left n v.numbers w.numbers has, go.own id v at n has) })
      told (suc zero) h e = subst (IsHeard log (v.numbers ++ w.numbers)) (some-injective _ _ e) (record { begins = go.begins other w was; own = λ n has. (has-right n v.numbers w.numbers has, go.own other w was n has) })
      told (suc (suc p)) h e = absurd (some-ne-none h (sym e))

      -- who has a number had it before, or is the first of the two and the second had it
      from : (n j : ℕ) (u : SeatView) → get_elem? ws j ≡ some u → Has n u.numbers → ((x : SeatView) × (get_elem? views j ≡ some x) × Has n x.numbers × (j ≢ other)) ⊎ ((j ≡ id) × Has n w.numbers)
      from n = all (λ j u. Has n u.numbers → ((x : SeatView) × (get_elem? views j ≡ some x) × Has n x.numbers × (j ≢ other)) ⊎ ((j ≡ id) × Has n w.numbers))
          (λ has. ⊎_elim (λ (h : Has n v.numbers). inl (v, at, h, λ e. apart (sym e))) (λ (h : Has n w.numbers). inr (refl, h)) (has-either n v.numbers w.numbers has))
          (λ has. absurd has) (λ j u _ off e has. inl (u, e, has, off))

      pair : (n j k : ℕ) → ((x : SeatView) × (get_elem? views j ≡ some x) × Has n x.numbers × (j ≢ other)) ⊎ ((j ≡ id) × Has n w.numbers) → ((x : SeatView) × (get_elem? views k ≡ some x) × Has n x.numbers × (k ≢ other)) ⊎ ((k ≡ id) × Has n w.numbers) → j ≡ k
      pair n j k (inl a) (inl b) = go.once j k a.0 b.0 a.1 b.1 n a.2 b.2
      pair n j k (inl a) (inr b) = absurd (a.3 (go.once j other a.0 w a.1 was n a.2 b.1))
      pair n j k (inr a) (inl b) = absurd (b.3 (go.once k other b.0 w b.1 was n b.2 a.1))
      pair n j k (inr a) (inr b) = a.0 ∙ sym b.0

      frees : (n : ℕ) → IsFree views n → IsFree ws n
      frees n free j u e has = ⊎_elim (λ (t : (x : SeatView) × (get_elem? views j ≡ some x) × Has n x.numbers × (j ≢ other)). free j t.0 t.1 t.2) (λ (t : (j ≡ id) × Has n w.numbers). free other w was t.1) (from n j u e has)

      ours : get_elem? ws id ≡ some (joining v w)
      ours = set_else (set views id (joining v w)) other id spent_view (λ e. apart (sym e)) ∙ at-here views id v (joining v w) at

      freed : (n : ℕ) → IsFree ws n → IsFree views n
      freed n free j u e has = dite (ℕ_discrete j id)
          (λ is. free id (joining v w) ours (has-left n v.numbers w.numbers (subst (λ (z : SeatView). Has n z.numbers) (some-injective u v (sym e ∙ (ap (get_elem? views) is ∙ at))) has)))
          (λ off. dite (ℕ_discrete j other)
          (λ is. free id (joining v w) ours (has-right n v.numbers w.numbers (subst (λ (z : SeatView). Has n z.numbers) (some-injective u w (sym e ∙ (ap (get_elem? views) is ∙ was))) has)))
          (λ off'. free j u (set_else (set views id (joining v w)) other j spent_view off' ∙ (set_else views id j (joining v w) off ∙ e)) has))

      top-at : Dec (go.top.0 ≡ id) → Dec (go.top.0 ≡ other) → (j : ℕ) × (u : SeatView) × (get_elem? ws j ≡ some u) × (u.seen ≡ log)
      top-at (yes is) d = (id, joining v w, ours, same-whole (longer v.seen w.seen) log (subst (λ (l : List Event). Begins l (longer v.seen w.seen)) (ap (λ (z : SeatView). z.seen) (some-injective v go.top.1 (sym at ∙ (ap (get_elem? views) (sym is) ∙ go.top.2))) ∙ go.top.3) facts.0) facts.2)
      top-at (no off) (yes is) = (id, joining v w, ours, same-whole (longer v.seen w.seen) log (subst (λ (l : List Event). Begins l (longer v.seen w.seen)) (ap (λ (z : SeatView). z.seen) (some-injective w go.top.1 (sym was ∙ (ap (get_elem? views) (sym is) ∙ go.top.2))) ∙ go.top.3) facts.1) facts.2)
      top-at (no off) (no off') = (go.top.0, go.top.1, set_else (set views id (joining v w)) other go.top.0 spent_view off' ∙ (set_else views id go.top.0 (joining v w) off ∙ go.top.2), go.top.3)
