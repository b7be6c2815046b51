-- What stands under a digest, what an event changes of it, and that the primary state is closed.
use Rattle.std.proofs.Common.{◌++◌, ◌^◌, ◌%◌, ◌/◌, drop, take, ◌≡◌, ℕ, zero, suc, ◌<◌, ◌≤◌, List, [], ◌∷◌, length, Bool, true, false, cond, ◌==◌, ◌⊎◌, inl, inr, None, Some, is_some, refl, ap, sym, ◌∙◌, subst, arith}
use Rattle.std.specs.declared.option.Option.{Option}
use Rattle.std.specs.Option.{option_map}
use Rattle.std.proofs.lemmas.Bool.{eqb-true, eq-eqb}
use Rattle.cas_model.specs.declared.digest.Digest.{Digest}
use Rattle.cas_model.specs.declared.object.Object.{Object}
use Rattle.cas_model.specs.declared.place.Place.{Place}
use Rattle.cas_model.specs.declared.place.Space.{Space}
use Rattle.cas_model.specs.declared.place.Space.TheVariants.{Objects, Actions}
use Rattle.cas_model.specs.declared.call.Who.{Who}
use Rattle.cas_model.specs.Content.{content_bytes, bytes_of, content_places}
use Rattle.cas_model.specs.State.{State, has, HasAll, IsClosed, IsStorable, AreBytes}
use Rattle.std.specs.Int.{w64, to_le_bytes, byte_at, bytes_low_first}
use Rattle.cas_model.specs.Object.{object_digest}
use Rattle.cas_history.specs.declared.event.Act.{Act}
use Rattle.cas_history.specs.declared.event.Act.TheVariants.{Look, Bind, Read, Claim, Room, Fill}
use Rattle.cas_history.specs.declared.event.Event.{Event}
use Rattle.cas_model.specs.declared.tables.Record.{Record}
use Rattle.cas_model.specs.Tables.{Tables, place_of, record_at, cell_of, words_at, digest_at, digests_at, digest_of_record, object_of, is_for, same_digest}
use Rattle.cas_history.specs.Run.{tables, after_act, bound_by, filled_by, primary_of}
use Rattle.cas_history.specs.Lawful.{IsLawfulRun, MayHappen, MayBind, MayFill, MayFillAt}
use Rattle.cas_model.specs.Start.{IsFilled, RefsBelow, IsContentFor, CellNames}
use Rattle.cas_model.specs.Primary.{cell_at, cell_under, object_in, value_in, object_under, value_under, primary}
use Rattle.cas_history.specs.Carried.{filled_state, state_filled_by, carried_by, carried}
use Rattle.cas_model.proofs.Maps.{get-put, same-is, same-self, get-object, get-value, same-states}
use Rattle.cas_history.proofs.Grown.{Grows, grows-bind, object-lasts, digest-lasts}
use Rattle.cas_history.proofs.Sound.{IsSound, grows-fuller, value-some, published-there, content-some, sound-run}
use Rattle.std.specs.FinMap as fin

-- ---- what stands under a digest

-- a filled record names what it may
pub filled-names : (s : Tables) (space : Space) (digest : Digest) (p : Place) → IsSound s → place_of s.bound space digest ≡ Some p → 0 < cell_of s.filled p.at
    → CellNames s space digest (cell_of s.filled p.at)
filled-names s space digest p sound is some =
    let there = sound.tied.to space digest p is in
    subst (λ (d : Digest). CellNames s space d (cell_of s.filled p.at)) there.3
    (subst (λ (sp : Space). CellNames s sp there.0.digest (cell_of s.filled p.at)) there.2 (sound.names p.at there.0 there.1 some))

pub object-at : (s : Tables) (n : ℕ) (words : List ℕ) → 0 < n → words_at s.blocks n ≡ Some words → object_in s n ≡ Some (object_of s.bound words)
object-at s zero words some is = absurd (omega (arith, some))
object-at s (suc n) words some is = ap (option_map (object_of s.bound)) is

pub value-at : (s : Tables) (n : ℕ) → 0 < n → value_in s n ≡ Some (digest_at s.bound n)
value-at s zero some = absurd (omega (arith, some))
value-at s (suc n) some = refl

-- a filled object's record, and its content
pub record IsUnder (s : Tables) (digest : Digest) : Type 0 where
  pub place : Place
  pub at : place_of s.bound Objects digest ≡ Some place
  pub some : 0 < cell_of s.filled place.at
  pub words : List ℕ
  pub there : words_at s.blocks (cell_of s.filled place.at) ≡ Some words
  pub is : IsContentFor s digest (cell_of s.filled place.at) words

-- a filled action's record
pub record IsKept (s : Tables) (key : Digest) : Type 0 where
  pub place : Place
  pub at : place_of s.bound Actions key ≡ Some place
  pub some : 0 < cell_of s.filled place.at
  pub is : IsFilled s (cell_of s.filled place.at)

some-or-not : (n : ℕ) → (n ≡ 0) ⊎ (0 < n)
some-or-not zero = inl refl
some-or-not (suc n) = inr (omega arith)

pub under-cases : (s : Tables) (digest : Digest) → IsSound s → (cell_under s Objects digest ≡ 0) ⊎ IsUnder s digest
under-cases s digest sound = step (place_of s.bound Objects digest) refl where
  filled : (p : Place) → place_of s.bound Objects digest ≡ Some p → (cell_of s.filled p.at ≡ 0) ⊎ (0 < cell_of s.filled p.at) → (cell_under s Objects digest ≡ 0) ⊎ IsUnder s digest
  filled p at (inl e) = inl (ap (cell_at s.filled) at ∙ e)
  filled p at (inr some) = let names = filled-names s Objects digest p sound at some in inr (record { place = p; at = at; some = some; words = names.0; there = names.1; is = names.2 })

  step : (o : Option Place) → place_of s.bound Objects digest ≡ o → (cell_under s Objects digest ≡ 0) ⊎ IsUnder s digest
  step None at = inl (ap (cell_at s.filled) at)
  step (Some p) at = filled p at (some-or-not (cell_of s.filled p.at))

pub kept-cases : (s : Tables) (key : Digest) → IsSound s → (cell_under s Actions key ≡ 0) ⊎ IsKept s key
kept-cases s key sound = step (place_of s.bound Actions key) refl where
  filled : (p : Place) → place_of s.bound Actions key ≡ Some p → (cell_of s.filled p.at ≡ 0) ⊎ (0 < cell_of s.filled p.at) → (cell_under s Actions key ≡ 0) ⊎ IsKept s key
  filled p at (inl e) = inl (ap (cell_at s.filled) at ∙ e)
  filled p at (inr some) = inr (record { place = p; at = at; some = some; is = filled-names s Actions key p sound at some })

  step : (o : Option Place) → place_of s.bound Actions key ≡ o → (cell_under s Actions key ≡ 0) ⊎ IsKept s key
  step None at = inl (ap (cell_at s.filled) at)
  step (Some p) at = filled p at (some-or-not (cell_of s.filled p.at))

pub under-none : (s : Tables) (d : Digest) → cell_under s Objects d ≡ 0 → object_under s d ≡ None
under-none s d e = ap (object_in s) e

pub kept-none : (s : Tables) (k : Digest) → cell_under s Actions k ≡ 0 → value_under s k ≡ None
kept-none s k e = ap (value_in s) e

pub under-some : (s : Tables) (d : Digest) (u : IsUnder s d) → object_under s d ≡ Some (object_of s.bound u.words)
under-some s d u = ap (λ p. object_in s (cell_at s.filled p)) u.at ∙ object-at s (cell_of s.filled u.place.at) u.words u.some u.there

pub kept-some : (s : Tables) (k : Digest) (u : IsKept s k) → value_under s k ≡ Some (digest_at s.bound (cell_of s.filled u.place.at))
kept-some s k u = ap (λ p. value_in s (cell_at s.filled p)) u.at ∙ value-at s (cell_of s.filled u.place.at) u.some

-- ---- what stays under a digest

module _ (s t : Tables) (sound : IsSound s) (grows : Grows s t) where
  pub object-stays : (d : Digest) (u : IsUnder s d) → object_under t d ≡ Some (object_of s.bound u.words)
  object-stays d u =
      let cell = grows.cells u.place.at u.some in
      ap (λ p. object_in t (cell_at t.filled p)) (grows.places Objects d u.place u.at)
      ∙ ap (object_in t) cell
      ∙ object-at t (cell_of s.filled u.place.at) u.words u.some (grows.blocks _ u.words u.there)
      ∙ ap (λ o. Some o) (object-lasts s t grows (cell_of s.filled u.place.at) u.words u.is.refs)

  pub value-stays : (k : Digest) (u : IsKept s k) → value_under t k ≡ Some (digest_at s.bound (cell_of s.filled u.place.at))
  value-stays k u =
      ap (λ p. value_in t (cell_at t.filled p)) (grows.places Actions k u.place u.at)
      ∙ ap (value_in t) (grows.cells u.place.at u.some)
      ∙ value-at t (cell_of s.filled u.place.at) u.some
      ∙ ap (λ d. Some d) (digest-lasts s t grows (cell_of s.filled u.place.at) u.is.object.found u.is.object.is)

  pub object-same : (d : Digest) → (cell_under s Objects d ≡ 0 → cell_under t Objects d ≡ 0) → object_under t d ≡ object_under s d
  object-same d empty = step (under-cases s d sound) where
    step : (cell_under s Objects d ≡ 0) ⊎ IsUnder s d → object_under t d ≡ object_under s d
    step (inl e) = under-none t d (empty e) ∙ sym (under-none s d e)
    step (inr u) = object-stays d u ∙ sym (under-some s d u)

  pub value-same : (k : Digest) → (cell_under s Actions k ≡ 0 → cell_under t Actions k ≡ 0) → value_under t k ≡ value_under s k
  value-same k empty = step (kept-cases s k sound) where
    step : (cell_under s Actions k ≡ 0) ⊎ IsKept s k → value_under t k ≡ value_under s k
    step (inl e) = kept-none t k (empty e) ∙ sym (kept-none s k e)
    step (inr u) = value-stays k u ∙ sym (kept-some s k u)

  pub primary-same : ((space : Space) (d : Digest) → cell_under s space d ≡ 0 → cell_under t space d ≡ 0) → primary t ≡ primary s
  primary-same empty = same-states _ _ (λ d. get-object t d ∙ object-same d (empty Objects d) ∙ sym (get-object s d)) (λ k. get-value t k ∙ value-same k (empty Actions k) ∙ sym (get-value s k))

-- ---- an event that fills nothing

bind-primary : (s : Tables) (who : Who) (space : Space) (digest : Digest) (found own : Option Place) → IsSound s → place_of s.bound space digest ≡ found → MayBind s who found own
    → primary (bound_by s space digest found own) ≡ primary s
bind-primary s who space digest (Some p) own sound is may = refl
bind-primary s who space digest None None sound is may = refl
bind-primary s who space digest None (Some own) sound is may = primary-same s _ sound (grows-bind s who space digest None (Some own) is may) (λ its d h. step its d h (is_for its d (record { space = space; digest = digest; place = own }))) where
  step : (its : Space) (d : Digest) → cell_under s its d ≡ 0 → (b : Bool) → cell_at s.filled (cond b (Some own) (place_of s.bound its d)) ≡ 0
  step its d h true = sound.rooted own.at may.no_record
  step its d h false = h

-- ---- a fill that wins

module _ (up : State) (s : Tables) (who : Who) (cell : Place) (value : ℕ) (words : List ℕ) (r : Record) (sound : IsSound s) (empty : cell_of s.filled cell.at ≡ 0)
    (at : record_at s.bound cell.at ≡ Some r) (may : MayFill up s who r.space r.digest value words) where
  abbrev pub full : Tables
  full = filled_by s zero cell value words

  grows : Grows s full
  grows = grows-fuller up s who cell value words r sound empty at may

  -- the cell of another digest is as before
  pub other-cell : (space : Space) (d : Digest) → ((r.space ≡ space) × (r.digest ≡ d)) ⊎ (cell_under full space d ≡ cell_under s space d)
  other-cell space d = step (place_of s.bound space d) refl where
    at-place : (p : Place) → place_of s.bound space d ≡ Some p → (b : Bool) → (cell.at == p.at) ≡ b → ((r.space ≡ space) × (r.digest ≡ d)) ⊎ (cond b value (cell_of s.filled p.at) ≡ cell_of s.filled p.at)
    at-place p is true test =
        let there = sound.tied.to space d p is in
        let same : Some r ≡ Some there.0 = sym at ∙ ap (record_at s.bound) (eqb-true cell.at p.at test) ∙ there.1 in
        let e : r ≡ there.0 = cc in
        inl (ap (λ (x : Record). x.space) e ∙ there.2, ap (λ (x : Record). x.digest) e ∙ there.3)
    at-place p is false test = inr refl

    step : (o : Option Place) → place_of s.bound space d ≡ o → ((r.space ≡ space) × (r.digest ≡ d)) ⊎ (cell_at full.filled o ≡ cell_at s.filled o)
    step None is = inr refl
    step (Some p) is = at-place p is (cell.at == p.at) refl

  -- the cell of the filled digest has the value
  pub own-cell : cell_under full r.space r.digest ≡ value
  own-cell =
      let there = sound.tied.back cell.at r at in
      ap (cell_at full.filled) there.0 ∙ ap (λ b. cond b value (cell_of s.filled r.place.at)) (eq-eqb cell.at r.place.at (sym there.1))

  other-object : (d : Digest) → (r.space ≡ Objects → r.digest ≡ d → ⊥) → object_under full d ≡ object_under s d
  other-object d other = object-same s full sound grows d (λ h. step (other-cell Objects d) h) where
    step : ((r.space ≡ Objects) × (r.digest ≡ d)) ⊎ (cell_under full Objects d ≡ cell_under s Objects d) → cell_under s Objects d ≡ 0 → cell_under full Objects d ≡ 0
    step (inl e) h = absurd (other e.0 e.1)
    step (inr e) h = e ∙ h

  other-value : (k : Digest) → (r.space ≡ Actions → r.digest ≡ k → ⊥) → value_under full k ≡ value_under s k
  other-value k other = value-same s full sound grows k (λ h. step (other-cell Actions k) h) where
    step : ((r.space ≡ Actions) × (r.digest ≡ k)) ⊎ (cell_under full Actions k ≡ cell_under s Actions k) → cell_under s Actions k ≡ 0 → cell_under full Actions k ≡ 0
    step (inl e) h = absurd (other e.0 e.1)
    step (inr e) h = e ∙ h

  differs : (d : Digest) → same_digest d r.digest ≡ false → r.digest ≡ d → ⊥
  differs d test e = let t : same_digest d d ≡ false = ap (same_digest d) (sym e) ∙ test in cc (t, same-self d)

  filled-object : (is : r.space ≡ Objects) → (some : words ≡ [] → ⊥) → primary full ≡ filled_state (primary s) Objects r.digest (object_of s.bound words) (digest_at s.bound value)
  filled-object is some = same-states _ _
      (λ d. get-object full d ∙ step d (same_digest d r.digest) refl ∙ sym (get-put (primary s).objects r.digest (object_of s.bound words) d ∙ ap (cond (same_digest d r.digest) (Some (object_of s.bound words))) (get-object s d)))
      (λ k. get-value full k ∙ other-value k (λ e _. cc (e, is)) ∙ sym (get-value s k)) where
        step : (d : Digest) (b : Bool) → same_digest d r.digest ≡ b → object_under full d ≡ cond b (Some (object_of s.bound words)) (object_under s d)
        step d true test =
            let mine : cell_under full Objects d ≡ value = (λ i. cell_under full (sym is i) (same-is d r.digest test i)) ∙ own-cell in
            ap (object_in full) mine ∙ object-at full value words (value-some up s who cell value words r sound empty at may) (published-there value words s.blocks some)
        step d false test = other-object d (λ _ e. differs d test e)

  filled-action : (is : r.space ≡ Actions) → primary full ≡ filled_state (primary s) Actions r.digest (object_of s.bound words) (digest_at s.bound value)
  filled-action is = same-states _ _
      (λ d. get-object full d ∙ other-object d (λ e _. cc (e, is)) ∙ sym (get-object s d))
      (λ k. get-value full k ∙ step k (same_digest k r.digest) refl ∙ sym (get-put (primary s).cache r.digest (digest_at s.bound value) k ∙ ap (cond (same_digest k r.digest) (Some (digest_at s.bound value))) (get-value s k))) where
        step : (k : Digest) (b : Bool) → same_digest k r.digest ≡ b → value_under full k ≡ cond b (Some (digest_at s.bound value)) (value_under s k)
        step k true test =
            let mine : cell_under full Actions k ≡ value = (λ i. cell_under full (sym is i) (same-is k r.digest test i)) ∙ own-cell in
            ap (value_in full) mine ∙ value-at full value (value-some up s who cell value words r sound empty at may)
        step k false test = other-value k (λ _ e. differs k test e)

  pub primary-filled : primary full ≡ filled_state (primary s) r.space r.digest (object_of s.bound words) (digest_at s.bound value)
  primary-filled = step r.space refl may where
    step : (space : Space) → r.space ≡ space → MayFill up s who space r.digest value words → primary full ≡ filled_state (primary s) space r.digest (object_of s.bound words) (digest_at s.bound value)
    step Objects is may = filled-object is (content-some words may.rule.for.content)
    step Actions is may = filled-action is

-- ---- the state carried along is the primary state

fill-primary : (up : State) (s : Tables) (who : Who) (had : ℕ) (cell : Place) (value : ℕ) (words : List ℕ) (found : Option Record) → IsSound s → cell_of s.filled cell.at ≡ had
    → record_at s.bound cell.at ≡ found → MayFillAt up s who found value words → primary (filled_by s had cell value words) ≡ state_filled_by (primary s) s had found value words
fill-primary up s who (suc had) cell value words found sound is at may = refl
fill-primary up s who zero cell value words None sound is at may = absurd may
fill-primary up s who zero cell value words (Some r) sound is at may = primary-filled up s who cell value words r sound is at may

-- what an event makes of the primary state
pub primary-act : (up : State) (s : Tables) (who : Who) (act : Act) → IsSound s → MayHappen up s who act → primary (after_act s who act) ≡ carried_by (primary s) s act
primary-act up s who (Look space digest) sound may = refl
primary-act up s who (Bind space digest own) sound may = bind-primary s who space digest (place_of s.bound space digest) own sound refl may
primary-act up s who (Read cell) sound may = refl
primary-act up s who (Claim n) sound may = refl
primary-act up s who (Room n moved) sound may = refl
primary-act up s who (Fill cell value words) sound may = fill-primary up s who (cell_of s.filled cell.at) cell value words (record_at s.bound cell.at) sound refl refl may

pub carried-is : (up : State) (start : Tables) (seen : List Event) → IsLawfulRun up start seen → carried start seen ≡ primary_of start seen
carried-is up start [] lawful = refl
carried-is up start (e ∷ es) lawful =
    ap (λ p. carried_by p (tables start es) e.act) (carried-is up start es lawful.0) ∙ sym (primary-act up (tables start es) e.note.who e.act (sound-run up start es lawful.0) lawful.1)

-- ---- the primary state is closed

-- a filled object's record is in the primary state
pub filled-has : (s : Tables) (n : ℕ) → IsSound s → IsFilled s n → has (primary s) (digest_at s.bound n) ≡ true
filled-has s n sound is =
    let r = is.object.found in
    let there = sound.tied.back n r is.object.is in
    let named : digest_at s.bound n ≡ r.digest = ap digest_of_record is.object.is in
    let at : place_of s.bound Objects r.digest ≡ Some r.place = (λ i. place_of s.bound (sym is.object.in_space i) r.digest) ∙ there.0 in
    let cell : cell_under s Objects r.digest ≡ cell_of s.filled n = ap (cell_at s.filled) at ∙ ap (cell_of s.filled) there.1 in
    ap (has (primary s)) named ∙ ap is_some (get-object s r.digest) ∙ step r.digest (cell_of s.filled n) cell is.filled (under-cases s r.digest sound) where
      step : (d : Digest) (m : ℕ) → cell_under s Objects d ≡ m → 0 < m → (cell_under s Objects d ≡ 0) ⊎ IsUnder s d → is_some (object_under s d) ≡ true
      step d m e some (inl none) = absurd (omega (arith, e, some, none))
      step d m e some (inr u) = ap is_some (under-some s d u)

refs-there : (s : Tables) (value : ℕ) (ns : List ℕ) → IsSound s → RefsBelow s value ns → HasAll (primary s) (digests_at s.bound ns)
refs-there s value [] sound refs = tt
refs-there s value (n ∷ ns) sound refs = (filled-has s n sound refs.0, refs-there s value ns sound refs.2)

closed-objects : (s : Tables) → IsSound s → (d : Digest) (o : Object) → object_under s d ≡ Some o → HasAll (primary s) o.refs
closed-objects s sound d o is = step (under-cases s d sound) where
  step : (cell_under s Objects d ≡ 0) ⊎ IsUnder s d → HasAll (primary s) o.refs
  step (inl none) = absurd (cc (under-none s d none, is))
  step (inr u) =
      let e : Some (object_of s.bound u.words) ≡ Some o = sym (under-some s d u) ∙ is in
      let same : object_of s.bound u.words ≡ o = cc in
      subst (λ (x : Object). HasAll (primary s) x.refs) same (refs-there s (cell_of s.filled u.place.at) (content_places u.words) sound u.is.refs)

closed-cache : (s : Tables) → IsSound s → (k d : Digest) → value_under s k ≡ Some d → has (primary s) d ≡ true
closed-cache s sound k d is = step (kept-cases s k sound) where
  step : (cell_under s Actions k ≡ 0) ⊎ IsKept s k → has (primary s) d ≡ true
  step (inl none) = absurd (cc (kept-none s k none, is))
  step (inr u) =
      let e : Some (digest_at s.bound (cell_of s.filled u.place.at)) ≡ Some d = sym (kept-some s k u) ∙ is in
      let same : digest_at s.bound (cell_of s.filled u.place.at) ≡ d = cc in
      subst (λ (x : Digest). has (primary s) x ≡ true) same (filled-has s (cell_of s.filled u.place.at) sound u.is)

pub closed : (s : Tables) → IsSound s → IsClosed (primary s)
closed s sound = record {
  objects = λ d o is. closed-objects s sound d o (sym (get-object s d) ∙ is);
  cache = λ k d is. closed-cache s sound k d (sym (get-value s k) ∙ is);
}

-- what holds of the object of each filled record holds of each object
each-object : (P : Digest → Object → Type 0) (s : Tables) → IsSound s → ((d : Digest) (u : IsUnder s d) → P d (object_of s.bound u.words)) → (d : Digest) (o : Object) → fin.get (primary s).objects d ≡ Some o → P d o
each-object P s sound holds d o is = step (under-cases s d sound) where
  shown : object_under s d ≡ Some o
  shown = sym (get-object s d) ∙ is

  step : (cell_under s Objects d ≡ 0) ⊎ IsUnder s d → P d o
  step (inl none) = absurd (cc (under-none s d none, shown))
  step (inr u) =
      let e : Some (object_of s.bound u.words) ≡ Some o = sym (under-some s d u) ∙ shown in
      let same : object_of s.bound u.words ≡ o = cc in
      subst (λ (x : Object). P d x) same (holds d u)

length-digests : (bound : List Record) (ns : List ℕ) → length (digests_at bound ns) ≡ length ns
length-digests bound [] = refl
length-digests bound (n ∷ ns) = let e = length-digests bound ns in omega (arith, e)

bytes-both : (xs ys : List ℕ) → AreBytes xs → AreBytes ys → AreBytes (xs ++ ys)
bytes-both [] ys one two = two
bytes-both (x ∷ xs) ys one two = (one.0, bytes-both xs ys one.1 two)

bytes-first : (n : ℕ) (xs : List ℕ) → AreBytes xs → AreBytes (take n xs)
bytes-first zero xs h = tt
bytes-first (suc n) [] h = tt
bytes-first (suc n) (x ∷ xs) h = (h.0, bytes-first n xs h.1)

one-byte : (i n : ℕ) → byte_at i n < 256
one-byte zero n = omega arith
one-byte (suc i) n = omega arith

low-bytes : (i k n : ℕ) → AreBytes (bytes_low_first i k n)
low-bytes i zero n = tt
low-bytes i (suc k) n = (one-byte i n, low-bytes (suc i) k n)

word-bytes : (words : List ℕ) → AreBytes (bytes_of words)
word-bytes [] = tt
word-bytes (w ∷ ws) = bytes-both (to_le_bytes w64 w) (bytes_of ws) (low-bytes 0 8 w) (word-bytes ws)

content-are-bytes : (words : List ℕ) → AreBytes (content_bytes words)
content-are-bytes [] = tt
content-are-bytes (head ∷ words) = bytes-first (head % 2 ^ 32) (bytes_of (drop (head / 2 ^ 32) words)) (word-bytes (drop (head / 2 ^ 32) words))

pub storable : (s : Tables) → IsSound s → IsStorable (primary s)
storable s sound = record {
  named = each-object (λ d o. object_digest o ≡ d) s sound (λ d u. u.is.named);
  few_refs = each-object (λ d o. length o.refs ≤ 65535) s sound (λ d u. let e = length-digests s.bound (content_places u.words) in omega (arith, e, u.is.content.few_refs));
  short = each-object (λ d o. length o.data ≤ 16777215) s sound (λ d u. u.is.content.short);
  bytes = each-object (λ d o. AreBytes o.data) s sound (λ d u. content-are-bytes u.words);
}
