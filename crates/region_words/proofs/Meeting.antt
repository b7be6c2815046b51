-- A seat hears of others, is split, and takes in another, and the rule stays.
use Rattle.std.proofs.Common.{◌≡◌, ◌≢◌, ◌⊎◌, ℕ, ◌<◌, List, [], ◌∷◌, ◌++◌, set, Some, refl, sym, ap, ◌∙◌, subst, inl, inr, arith, lt_of_not-le}
use Rattle.std.proofs.lemmas.List.{set-get_or}
use mathlib.Core.Option.{some, none}
use mathlib.Core.Logic.{dite}
use native.Mathlib.Decide.{ℕ_discrete, dec_le}
use lib.ListN.{get_elem?}
use Rattle.atomic_table.specs.Table.{Me, step, keeps, Allows, Splits, Joins}
use Rattle.atomic_table.proofs.Lists.{set_else}
use Rattle.cas_history.specs.declared.event.Event.{Event}
use Rattle.cas_history.specs.History.{events_of}
use Rattle.cas_port.specs.declared.block.OpenBlock.{OpenBlock}
use Rattle.frozen_store.specs.Seen.{IsSeen}
use Rattle.region_core.specs.Heap.{Block}
use Rattle.region_words.specs.Blocks.{block_at, AreSingle, all_blocks}
use Rattle.region_words.specs.Numbers.{ViewsGo, IsHeard, Has, own_number}
use Rattle.region_words.specs.Rule.{Holds, origin, seeing, hears, splitting, next_view, joining, spent_view, HasAllNumbers, AreOwn}
use Rattle.region_words.specs.Running.{Origin, IsMine, after, AreKnown, IsRunning}
use Rattle.region_words.specs.declared.rule.Key.{Key}
use Rattle.region_words.specs.declared.view.SeatView.{SeatView}
use Rattle.region_words.proofs.Counting.{run-here, holds-seeing}
use Rattle.region_words.proofs.Holding.{both-at, both-single}
use Rattle.region_words.proofs.Keeping.{known-append}
use Rattle.region_words.proofs.Lists.{each-set, each-snoc, first-in}
use Rattle.region_words.proofs.Viewing.{strangers, go-split, go-join, others-of}

-- ---- hearing

-- a first seat that has all numbers that it gave, is alone
alone : (log : List Event) (views : List SeatView) (go : ViewsGo log views) (id : ℕ) (v : SeatView) → get_elem? views id ≡ some v → own_number v ≡ 64 → ((n : ℕ) → n < v.given → Has n v.numbers) → (n : ℕ) → (Has n v.numbers → ⊥) → events_of n log ≡ []
alone log views go id v at own all n off = go.others n (λ j u e has. dite (ℕ_discrete n 64)
    (λ is'. off (subst (λ (z : ℕ). Has z v.numbers) (sym is') (first-in v.numbers own)))
    (λ other. dite (dec_le v.given n)
    (λ low. let most = go.most j u e n has in go.left id v at own n low (omega arith) j u e has)
    (λ high. off (all n (lt_of_not-le high)))))

pub alone-others : (log : List Event) (views : List SeatView) (go : ViewsGo log views) (id : ℕ) (v : SeatView) → get_elem? views id ≡ some v → HasAllNumbers v → AreOwn v log
alone-others log views go id v at has n off = others-of n log (alone log views go id v at has.0 has.1 n off)

-- a load of any word, by which a seat sees all, and learns what its splits and joins were
pub heard : (key : Key) → IsSeen key.primary.value → (slots id i : ℕ) (me : Me (Unit {0}) SeatView) → Allows (Holds key) slots id me i (λ x. x) (hears (origin key) (step slots i 0 0 none) me)
heard key seen slots id i me s h len at fits =
    let whole = (h.3.begins id me.0 at).1 in (
      seeing me.0 ((h.3.begins id me.0 at).0 ++ me.0.seen),
      keeps,
      tt,
      subst (λ ws. Holds key record { words = ws; homes = s.homes; views = set s.views id (seeing me.0 ((h.3.begins id me.0 at).0 ++ me.0.seen)) }) (sym (set-get_or s.words i 0)) (holds-seeing key seen s h id me.0 at),
      (
        record {
          between = (h.3.begins id me.0 at).0;
          others = strangers h.0 s.views h.3 id me.0 at (h.3.begins id me.0 at).0 whole;
          run = run-here key seen s h id me.0 at;
          is = refl;
          heard = λ p x e. subst (λ (l : List Event). IsHeard l me.0.numbers x) whole (h.3.heard id me.0 at p x e);
          fresh = λ own n low high. others-of n ((h.3.begins id me.0 at).0 ++ me.0.seen) (ap (events_of n) (sym whole) ∙ h.3.others n (h.3.left id me.0 at own n low high));
          whole = λ own all n off. others-of n ((h.3.begins id me.0 at).0 ++ me.0.seen) (ap (events_of n) (sym whole) ∙ alone h.0 s.views h.3 id me.0 at own all n off);
        },
        refl,
      ),
    )

-- ---- splitting

module _ (first : List ℕ) (o : Origin) (log : List Event) (heap : ℕ → Block) (words : List ℕ) (views : List SeatView) (r : IsRunning first o log heap words views) (id : ℕ) (v : SeatView) (at : get_elem? views id ≡ some v) where
  split-from : (q j : ℕ) (u : SeatView) (b : OpenBlock) → get_elem? (set views id (splitting v) ++ next_view v ∷ []) j ≡ some u → block_at (all_blocks u) q ≡ Some b → (x : SeatView) × (get_elem? views j ≡ some x) × (block_at (all_blocks x) q ≡ Some b)
  split-from q j u b e h = each-snoc (λ j u. block_at (all_blocks u) q ≡ Some b → (x : SeatView) × (get_elem? views j ≡ some x) × (block_at (all_blocks x) q ≡ Some b)) (set views id (splitting v)) (next_view v)
      (λ j none. absurd (cc none))
      (each-set (λ j u. block_at (all_blocks u) q ≡ Some b → (x : SeatView) × (get_elem? views j ≡ some x) × (block_at (all_blocks x) q ≡ Some b)) views id (splitting v) (λ h. (v, at, h)) (λ j u _ f h. (u, f, h))) j u e h

  pub split-run : IsRunning first o log heap words (set views id (splitting v) ++ next_view v ∷ [])
  split-run = record {
    run = r.run;
    size = r.size;
    counter = r.counter;
    header = r.header;
    laid = r.laid;
    goes = r.goes;
    mine = λ j u q b e h. let x = split-from q j u b e h in r.mine j x.0 q b x.1 x.2;
    lone = λ j k u w q a b eu ew hu hw. let x = split-from q j u a eu hu in let y = split-from q k w b ew hw in r.lone j k x.0 y.0 q a b x.1 y.1 x.2 y.2;
    single = each-snoc (λ j u. AreSingle (all_blocks u)) (set views id (splitting v)) (next_view v) (λ j. tt) (each-set (λ j u. AreSingle (all_blocks u)) views id (splitting v) (r.single id v at) (λ j u _ e. r.single j u e));
    known = each-snoc (λ j u. AreKnown heap u.known) (set views id (splitting v)) (next_view v) (λ j. r.known id v at) (each-set (λ j u. AreKnown heap u.known) views id (splitting v) (r.known id v at) (λ j u _ e. r.known j u e));
    once = r.once;
    small = r.small;
  }

pub splits : (key : Key) (id : ℕ) (v : SeatView) → own_number v ≡ 64 → v.given < 64 → Splits (Holds key) id v (splitting v) (next_view v)
splits key id v own room s h at = (h.0, h.1, split-run key.primary.value.words (origin key) h.0 h.1 s.words s.views h.2 id v at, go-split h.0 s.views h.3 id v at own room)

-- ---- joining

module _ (first : List ℕ) (o : Origin) (log : List Event) (heap : ℕ → Block) (words : List ℕ) (views : List SeatView) (r : IsRunning first o log heap words views) (id other : ℕ) (v w : SeatView) (at : get_elem? views id ≡ some v) (was : get_elem? views other ≡ some w) (apart : other ≡ id → ⊥) where
  each-joined : (P : ℕ → SeatView → Type 0) → P id (joining v w) → P other spent_view → ((j : ℕ) (u : SeatView) → j ≢ id → j ≢ other → get_elem? views j ≡ some u → P j u) → (j : ℕ) (u : SeatView) → get_elem? (set (set views id (joining v w)) other spent_view) j ≡ some u → P j u
  each-joined P mine left rest j u e = each-set P (set views id (joining v w)) other spent_view left
      (λ i x apart' d. each-set (λ i x. i ≢ other → P i x) views id (joining v w) (λ _. mine) (λ k y off f not. rest k y off not f) i x d apart') j u e

  From : ℕ → ℕ → OpenBlock → Type 0
  From q j b = ((x : SeatView) × (get_elem? views j ≡ some x) × (block_at (all_blocks x) q ≡ Some b) × (j ≢ other)) ⊎ ((j ≡ id) × (block_at (all_blocks w) q ≡ Some b))

  -- whose block it is had it before, or is the first of the two and the second had it
  from : (q : ℕ) (b : OpenBlock) (j : ℕ) (u : SeatView) → get_elem? (set (set views id (joining v w)) other spent_view) j ≡ some u → block_at (all_blocks u) q ≡ Some b → From q j b
  unfolding From
  from q b = each-joined (λ j u. block_at (all_blocks u) q ≡ Some b → From q j b)
      (λ h. elim (both-at v w (r.single id v at) (r.single other w was) q b h) [ inl x ↦ inl (v, at, x, λ e. apart (sym e)) | inr x ↦ inr (refl, x) ])
      (λ h. absurd (cc h)) (λ j u _ off e h. inl (u, e, h, off))

  pair : (q : ℕ) (a b : OpenBlock) (j k : ℕ) → From q j a → From q k b → j ≡ k
  unfolding From
  pair q a b j k (inl x) (inl y) = r.lone j k x.0 y.0 q a b x.1 y.1 x.2 y.2
  pair q a b j k (inl x) (inr y) = absurd (x.3 (r.lone j other x.0 w q a b x.1 was x.2 y.1))
  pair q a b j k (inr x) (inl y) = absurd (y.3 (r.lone k other y.0 w q b a y.1 was y.2 x.1))
  pair q a b j k (inr x) (inr y) = x.0 ∙ sym y.0

  owned : (q : ℕ) (b : OpenBlock) (j : ℕ) → From q j b → IsMine heap (after o log) q b
  unfolding From
  owned q b j (inl x) = r.mine j x.0 q b x.1 x.2
  owned q b j (inr x) = r.mine other w q b was x.1

  pub join-run : IsRunning first o log heap words (set (set views id (joining v w)) other spent_view)
  join-run = record {
    run = r.run;
    size = r.size;
    counter = r.counter;
    header = r.header;
    laid = r.laid;
    goes = r.goes;
    mine = λ j u q b e h. owned q b j (from q b j u e h);
    lone = λ j k u x q a b eu ex hu hx. pair q a b j k (from q a j u eu hu) (from q b k x ex hx);
    single = each-joined (λ j u. AreSingle (all_blocks u))
        (both-single v w (r.single id v at) (r.single other w was) (λ q a b x y. apart (r.lone other id w v q b a was at y x))) tt (λ j u _ _ e. r.single j u e);
    known = each-joined (λ j u. AreKnown heap u.known) (known-append heap v.known w.known (r.known id v at) (r.known other w was)) tt (λ j u _ _ e. r.known j u e);
    once = r.once;
    small = r.small;
  }

pub joins : (key : Key) (id : ℕ) (v : SeatView) (other : ℕ) (w : SeatView) → Has (own_number v) v.numbers → Joins (Holds key) id v other w (joining v w) spent_view
joins key id v other w mine s h at apart there =
    let was = sym (set_else s.views id other (joining v w) apart) ∙ there in
    (h.0, h.1, join-run key.primary.value.words (origin key) h.0 h.1 s.words s.views h.2 id other v w at was apart, go-join h.0 s.views h.3 id other v w at apart there mine)
