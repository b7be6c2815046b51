-- The tables of a lawful run are sound: each filled cell is that of a bound record, and names what it may.
use Rattle.std.proofs.Common.{length, ◌≡◌, ℕ, zero, suc, ◌<◌, List, [], ◌∷◌, Bool, true, false, cond, ◌==◌, inl, inr, None, Some, is_some, refl, ap, sym, ◌∙◌, subst, arith}
use Rattle.std.specs.declared.option.Option.{Option}
use Rattle.std.proofs.lemmas.Bool.{eqb-true, eq-eqb}
use Rattle.cas_model.specs.declared.digest.Digest.{Digest}
use Rattle.cas_model.specs.declared.place.Place.{Place}
use Rattle.cas_model.specs.declared.place.Space.{Space}
use Rattle.cas_model.specs.declared.place.Space.TheVariants.{Objects, Actions}
use Rattle.cas_model.specs.declared.call.Who.{Who}
use Rattle.cas_model.specs.Content.{IsContent, content_words, content_places, content_bytes}
use Rattle.cas_model.specs.State.{State}
use Rattle.cas_history.specs.declared.event.Act.{Act}
use Rattle.cas_history.specs.declared.event.Act.TheVariants.{Look, Bind, Read, Claim, Room, Fill}
use Rattle.cas_model.specs.declared.tables.Content.{Content}
use Rattle.cas_history.specs.declared.event.Event.{Event}
use Rattle.cas_model.specs.declared.tables.Record.{Record}
use Rattle.cas_model.specs.Tables.{Tables, Claimed, place_of, record_at, cell_of, words_at, is_for, HasClaim}
use Rattle.cas_history.specs.Run.{tables, after_act, bound_by, filled_by, published}
use Rattle.cas_history.specs.Lawful.{IsLawfulRun, IsFreeBlock, MayHappen, MayBind, MayFill, MayFillAt}
use Rattle.cas_model.specs.Start.{IsLawfulStart, IsTied, CellNames}
use Rattle.cas_history.proofs.Grown.{Grows, grows-bind, grows-fill, grows-act, free-words, names-last, filled-lasts, content-lasts, for-is, for-self, room-grows}

pub record IsSound (s : Tables) : Type 0 where
  pub tied : IsTied s.bound
  pub rooted : (n : ℕ) → record_at s.bound n ≡ None → cell_of s.filled n ≡ 0
  pub names : (n : ℕ) (r : Record) → record_at s.bound n ≡ Some r → 0 < cell_of s.filled n → CellNames s r.space r.digest (cell_of s.filled n)
  pub placed : (n : ℕ) (r : Record) → record_at s.bound n ≡ Some r → 0 < n
  pub positive : 0 < s.counter
  pub claimed : (who : Who) (place n : ℕ) → HasClaim s.claims who place n → 0 < place

pub none-claimed : (who : Who) (place n : ℕ) (claims : List Claimed) → claims ≡ [] → HasClaim claims who place n → ⊥
none-claimed who place n [] none there = there
none-claimed who place n (x ∷ xs) none there = cc none

pub sound-start : (s : Tables) → IsLawfulStart s → IsSound s
sound-start s lawful = record {
  tied = lawful.tied;
  rooted = lawful.rooted;
  names = lawful.names;
  placed = λ n r is. let least = lawful.within n 5 (inl (ap is_some is, refl)) in omega (arith, least.0);
  positive = omega (arith, lawful.counter_least);
  claimed = λ who place n there. absurd (none-claimed who place n s.claims lawful.unclaimed there);
}

-- ---- bind

module _ (s : Tables) (who : Who) (space : Space) (digest : Digest) (own : Place) (sound : IsSound s) (none : place_of s.bound space digest ≡ None) (free : IsFreeBlock s who own.at 5) where
  new : Record
  new = record { space = space; digest = digest; place = own }

  abbrev pub wider : Tables
  wider = record s { bound = (record { space = space; digest = digest; place = own }) ∷ s.bound }

  grows : Grows s wider
  grows = grows-bind s who space digest None (Some own) none free

  bind-to : (its : Space) (d : Digest) (p : Place) → place_of wider.bound its d ≡ Some p → (r : Record) × (record_at wider.bound p.at ≡ Some r) × (r.space ≡ its) × (r.digest ≡ d)
  bind-to its d p is = step (is_for its d (record { space = space; digest = digest; place = own })) refl is where
    step : (b : Bool) → is_for its d (record { space = space; digest = digest; place = own }) ≡ b → cond b (Some own) (place_of s.bound its d) ≡ Some p
        → (r : Record) × (record_at wider.bound p.at ≡ Some r) × (r.space ≡ its) × (r.digest ≡ d)
    step true test is =
        let for = for-is its d (record { space = space; digest = digest; place = own }) test in
        let at : own.at ≡ p.at = cc in (
          record { space = space; digest = digest; place = own },
          ap (λ b. cond b (Some (record { space = space; digest = digest; place = own })) (record_at s.bound p.at)) (eq-eqb own.at p.at at),
          for.0,
          for.1,
        )
    step false test is =
        let there = sound.tied.to its d p is in
        (there.0, grows.records p.at there.0 there.1, there.2, there.3)

  bind-back : (n : ℕ) (r : Record) → record_at wider.bound n ≡ Some r → (place_of wider.bound r.space r.digest ≡ Some r.place) × (r.place.at ≡ n)
  bind-back n r is = step (own.at == n) refl is where
    own-place : (place_of wider.bound space digest ≡ Some own)
    own-place = ap (λ b. cond b (Some own) (place_of s.bound space digest)) (for-self (record { space = space; digest = digest; place = own }))

    step : (b : Bool) → (own.at == n) ≡ b → cond b (Some (record { space = space; digest = digest; place = own })) (record_at s.bound n) ≡ Some r
        → (place_of wider.bound r.space r.digest ≡ Some r.place) × (r.place.at ≡ n)
    step true test is =
        let e : record { space = space; digest = digest; place = own } ≡ r = cc in
        (subst (λ (x : Record). place_of wider.bound x.space x.digest ≡ Some x.place) e own-place, subst (λ (x : Record). x.place.at ≡ n) e (eqb-true own.at n test))
    step false test is =
        let there = sound.tied.back n r is in
        (grows.places r.space r.digest r.place there.0, there.1)

  bind-names : (n : ℕ) (r : Record) → record_at wider.bound n ≡ Some r → 0 < cell_of s.filled n → CellNames wider r.space r.digest (cell_of s.filled n)
  bind-names n r is some = step (own.at == n) refl is where
    step : (b : Bool) → (own.at == n) ≡ b → cond b (Some (record { space = space; digest = digest; place = own })) (record_at s.bound n) ≡ Some r
        → CellNames wider r.space r.digest (cell_of s.filled n)
    step true test is =
        let e : cell_of s.filled n ≡ 0 = ap (cell_of s.filled) (sym (eqb-true own.at n test)) ∙ sound.rooted own.at free.no_record in
        absurd (omega (arith, e, some))
    step false test is = names-last s wider grows r.space r.digest (cell_of s.filled n) (sound.names n r is some)

  bind-placed : (n : ℕ) (r : Record) → record_at wider.bound n ≡ Some r → 0 < n
  bind-placed n r is = step (own.at == n) refl is where
    step : (b : Bool) → (own.at == n) ≡ b → cond b (Some (record { space = space; digest = digest; place = own })) (record_at s.bound n) ≡ Some r → 0 < n
    step true test is = subst (λ m. 0 < m) (eqb-true own.at n test) (sound.claimed who own.at 5 free.claimed)
    step false test is = sound.placed n r is

  bind-rooted : (n : ℕ) → record_at wider.bound n ≡ None → cell_of s.filled n ≡ 0
  bind-rooted n is = step (own.at == n) refl is where
    step : (b : Bool) → (own.at == n) ≡ b → cond b (Some (record { space = space; digest = digest; place = own })) (record_at s.bound n) ≡ None → cell_of s.filled n ≡ 0
    step true test is = cc
    step false test is = sound.rooted n is

  pub sound-bound : IsSound wider
  sound-bound = record {
    tied = record { to = bind-to; back = bind-back };
    rooted = bind-rooted;
    names = bind-names;
    placed = bind-placed;
    positive = sound.positive;
    claimed = sound.claimed;
  }

pub sound-bind : (s : Tables) (who : Who) (space : Space) (digest : Digest) (found own : Option Place) → IsSound s → place_of s.bound space digest ≡ found → MayBind s who found own
    → IsSound (bound_by s space digest found own)
sound-bind s who space digest (Some p) own sound is may = sound
sound-bind s who space digest None None sound is may = absurd may
sound-bind s who space digest None (Some own) sound is may = sound-bound s who space digest own sound is may

-- ---- fill

-- what is published stands at its place
pub published-there : (value : ℕ) (words : List ℕ) (cs : List Content) → (words ≡ [] → ⊥) → words_at (published value words cs) value ≡ Some words
published-there value [] cs some = absurd (some refl)
published-there value (w ∷ ws) cs some = ap (λ b. cond b (Some (w ∷ ws)) (words_at cs value)) (eq-eqb value value refl)

pub content-some : (words : List ℕ) → IsContent words → words ≡ [] → ⊥
content-some words is none = let e : words ≡ content_words (content_places words) (content_bytes words) = is.is in cc

module _ (up : State) (s : Tables) (who : Who) (cell : Place) (value : ℕ) (words : List ℕ) (r : Record) (sound : IsSound s) (empty : cell_of s.filled cell.at ≡ 0)
    (at : record_at s.bound cell.at ≡ Some r) (may : MayFill up s who r.space r.digest value words) where
  abbrev pub fuller : Tables
  fuller = filled_by s zero cell value words

  pub grows-fuller : Grows s fuller
  grows-fuller = grows-fill s zero cell value words empty (free-words up s who r.space r.digest value words may)

  pub value-some : 0 < value
  value-some = step r.space r.digest may where
    step : (space : Space) (digest : Digest) → MayFill up s who space digest value words → 0 < value
    step Objects digest may = sound.claimed who value (length words) may.free.claimed
    step Actions digest may = sound.placed value may.rule.object.object.found may.rule.object.object.is

  new-names : CellNames fuller r.space r.digest value
  new-names = step r.space r.digest may where
    step : (space : Space) (digest : Digest) → MayFill up s who space digest value words → CellNames fuller space digest value
    step Objects digest may = (words, published-there value words s.blocks (content-some words may.rule.for.content), content-lasts s fuller grows-fuller digest value words may.rule.for)
    step Actions digest may = filled-lasts s fuller grows-fuller value may.rule.object

  fill-rooted : (n : ℕ) → record_at s.bound n ≡ None → cell_of fuller.filled n ≡ 0
  fill-rooted n none = step (cell.at == n) refl where
    step : (b : Bool) → (cell.at == n) ≡ b → cond b value (cell_of s.filled n) ≡ 0
    step true test = absurd (cc (ap (record_at s.bound) (eqb-true cell.at n test), at, none))
    step false test = sound.rooted n none

  fill-names : (n : ℕ) (x : Record) → record_at s.bound n ≡ Some x → 0 < cell_of fuller.filled n → CellNames fuller x.space x.digest (cell_of fuller.filled n)
  fill-names n x is some = step (cell.at == n) refl some where
    step : (b : Bool) → (cell.at == n) ≡ b → 0 < cond b value (cell_of s.filled n) → CellNames fuller x.space x.digest (cond b value (cell_of s.filled n))
    step true test some =
        let e : Some r ≡ Some x = sym at ∙ ap (record_at s.bound) (eqb-true cell.at n test) ∙ is in
        let same : r ≡ x = cc in
        subst (λ (y : Record). CellNames fuller y.space y.digest value) same new-names
    step false test some = names-last s fuller grows-fuller x.space x.digest (cell_of s.filled n) (sound.names n x is some)

  pub sound-filled : IsSound fuller
  sound-filled = record {
    tied = sound.tied;
    rooted = fill-rooted;
    names = fill-names;
    placed = sound.placed;
    positive = sound.positive;
    claimed = sound.claimed;
  }

pub sound-fill : (up : State) (s : Tables) (who : Who) (had : ℕ) (cell : Place) (value : ℕ) (words : List ℕ) (found : Option Record) → IsSound s → cell_of s.filled cell.at ≡ had
    → record_at s.bound cell.at ≡ found → MayFillAt up s who found value words → IsSound (filled_by s had cell value words)
sound-fill up s who (suc had) cell value words found sound is at may = sound
sound-fill up s who zero cell value words None sound is at may = absurd may
sound-fill up s who zero cell value words (Some r) sound is at may = sound-filled up s who cell value words r sound is at may

-- ---- every event

claims-more : (s : Tables) (who : Who) (n : ℕ) → IsSound s → (his : Who) (place m : ℕ) → HasClaim ((record { who = who; place = s.counter; length = n }) ∷ s.claims) his place m → 0 < place
claims-more s who n sound his place m (inl e) = subst (λ (x : Claimed). 0 < x.place) e sound.positive
claims-more s who n sound his place m (inr there) = sound.claimed his place m there

names-alike : (s t : Tables) → t.bound ≡ s.bound → t.filled ≡ s.filled → t.blocks ≡ s.blocks → 0 < t.counter → ((who : Who) (place n : ℕ) → HasClaim t.claims who place n → 0 < place) → Grows s t → IsSound s → IsSound t
names-alike s t bound filled blocks positive claimed grows sound = record {
  tied = subst IsTied (sym bound) sound.tied;
  rooted = λ n none. (λ i. cell_of (filled i) n) ∙ sound.rooted n ((λ i. record_at (sym bound i) n) ∙ none);
  names = λ n r is some.
      let cell : cell_of t.filled n ≡ cell_of s.filled n = λ i. cell_of (filled i) n in
      subst (λ m. CellNames t r.space r.digest m) (sym cell)
      (names-last s t grows r.space r.digest (cell_of s.filled n) (sound.names n r ((λ i. record_at (sym bound i) n) ∙ is) (subst (λ m. 0 < m) cell some)));
  placed = λ n r is. sound.placed n r ((λ i. record_at (sym bound i) n) ∙ is);
  positive = positive;
  claimed = claimed;
}

pub sound-act : (up : State) (s : Tables) (who : Who) (act : Act) → IsSound s → MayHappen up s who act → IsSound (after_act s who act)
sound-act up s who (Look space digest) sound may = sound
sound-act up s who (Bind space digest own) sound may = sound-bind s who space digest (place_of s.bound space digest) own sound refl may
sound-act up s who (Read cell) sound may = sound
sound-act up s who (Claim n) sound may =
    names-alike s (after_act s who (Claim n)) refl refl refl (omega (arith, sound.positive)) (claims-more s who n sound) (grows-act up s who (Claim n) may) sound
sound-act up s who (Room n moved) sound may =
    let grows = grows-act up s who (Room n moved) may in
    names-alike s (after_act s who (Room n moved)) refl refl refl (omega (arith, sound.positive, room-grows moved s.counter n)) sound.claimed grows sound
sound-act up s who (Fill cell value words) sound may =
    sound-fill up s who (cell_of s.filled cell.at) cell value words (record_at s.bound cell.at) sound refl refl may

-- the tables of a lawful run are sound
pub sound-run : (up : State) (start : Tables) (seen : List Event) → IsLawfulRun up start seen → IsSound (tables start seen)
sound-run up start [] lawful = sound-start start lawful
sound-run up start (e ∷ es) lawful = sound-act up (tables start es) e.note.who e.act (sound-run up start es lawful.0) lawful.1
