-- What a run leaves is what it began with, or more.
use Rattle.std.proofs.Common.{◌≡◌, ◌≢◌, ℕ, zero, suc, ◌+◌, ◌<◌, inl, inr, List, [], ◌∷◌, length, Bool, true, false, cond, ◌&&◌, ◌==◌, Some, None, is_some, refl, ap, sym, subst, ◌∙◌, arith}
use Rattle.std.proofs.lemmas.Bool.{eq-eqb, eqb-true}
use Rattle.std.specs.declared.alloc.Global.{Global}
use Rattle.std.specs.declared.option.Option.{Option}
use Rattle.std.specs.declared.vec.Vec.{Vec}
use Rattle.std.specs.FinMap as fin
use Rattle.cas_model.specs.declared.contents.Pair.{Pair}
use Rattle.cas_model.specs.declared.digest.Digest.{Digest}
use Rattle.cas_model.specs.declared.object.Object.{Object}
use Rattle.cas_model.specs.declared.place.Place.{Place}
use Rattle.cas_model.specs.declared.place.Space.{Space}
use Rattle.cas_model.specs.declared.place.Space.TheVariants.{Objects, Actions}
use Rattle.cas_model.specs.declared.tables.Record.{Record}
use Rattle.cas_model.specs.Contents.{AreLawfulContents, AreStorable, ArePuttable, contents_state, object_digests, objects_map, actions_map, pair_keys}
use Rattle.cas_model.specs.Object.{object_digest}
use Rattle.cas_model.specs.Primary.{cell_at, cell_under, primary}
use Rattle.cas_model.specs.State.{State, Member, digest_cmp}
use Rattle.cas_model.specs.Tables.{Tables, cell_of, digest_at, object_of, record_at, same_digest}
use Rattle.cas_model.proofs.Maps.{digest_total, get-object, get-put, get-value, same-is}
use Rattle.cas_history.specs.declared.event.Act.{Act}
use Rattle.cas_history.specs.declared.event.Act.TheVariants.{Look, Bind, Read, Claim, Room, Fill}
use Rattle.cas_history.specs.declared.event.Event.{Event}
use Rattle.cas_history.specs.Carried.{carried_by, filled_state, state_filled_by}
use Rattle.cas_history.specs.Lawful.{IsLawfulRun}
use Rattle.cas_history.specs.Run.{primary_of, tables}
use Rattle.cas_history.proofs.Sound.{IsSound, sound-run}
use Rattle.cas_history.proofs.Under.{kept-none, primary-act, under-none}
use Rattle.frozen_store.specs.declared.frozen.Counts.{Counts}
use Rattle.generations.specs.Rotation.{NeedsRotation}
use Rattle.cas_command.specs.declared.closing.Images.{Images}
use Rattle.cas_command.specs.declared.rotation.Rotation.{Rotation}
use Rattle.cas_command.specs.Closing.{AreDue, Grows, IsImageDue, MayGrow}
use Rattle.cas_command.specs.Rotation.{IsNextDue}

-- ---- maps

may-then : {X : Type 0} (a b c : fin.FinMap digest_cmp X) → MayGrow a b → MayGrow b c → MayGrow a c
may-then a b c ab bc = elim ab [
  | inl same ↦ subst (λ m. MayGrow m c) same bc
  | inr less ↦ elim bc [ inl same ↦ inr (subst (λ m. fin.len a < fin.len m) (sym same) less) | inr more ↦ inr (omega (arith, less, more)) ]
]

-- a map with a new key has one key more
len-new : {X : Type 0} (m : fin.FinMap digest_cmp X) (k : Digest) (v : X) → fin.get m k ≡ None → fin.len (fin.insert m k v) ≡ suc (fin.len m)
len-new m k v none =
    fin.len-insert digest_total m k v ∙ ap (λ b. cond b (fin.len m) (fin.len m + 1)) (ap is_some none) ∙ one (fin.len m) where
      one : (n : ℕ) → n + 1 ≡ suc n
      one n = omega arith

may-put : {X : Type 0} (m : fin.FinMap digest_cmp X) (k : Digest) (v : X) → fin.get m k ≡ None → MayGrow m (fin.insert m k v)
may-put m k v none = let more = len-new m k v none in inr (omega (arith, more))

-- ---- states

pub grows-same : (s new : State) → new ≡ s → Grows s new
grows-same s new same = record { objects = inl (ap (λ (x : State). x.objects) same); cache = inl (ap (λ (x : State). x.cache) same) }

grows-then : (a b c : State) → Grows a b → Grows b c → Grows a c
grows-then a b c ab bc = record { objects = may-then a.objects b.objects c.objects ab.objects bc.objects; cache = may-then a.cache b.cache c.cache ab.cache bc.cache }

-- ---- runs

-- where a fill wins, nothing stood under the record's digest
cell-empty : (s : Tables) (cell : Place) (r : Record) → IsSound s → cell_of s.filled cell.at ≡ 0 → record_at s.bound cell.at ≡ Some r → cell_under s r.space r.digest ≡ 0
cell-empty s cell r sound empty at =
    let there = sound.tied.back cell.at r at in
    ap (cell_at s.filled) there.0 ∙ ap (cell_of s.filled) there.1 ∙ empty

grows-filled : (s : Tables) (space : Space) (d : Digest) (o : Object) (value : Digest) → cell_under s space d ≡ 0 → Grows (primary s) (filled_state (primary s) space d o value)
grows-filled s Objects d o value empty = record { objects = may-put (primary s).objects d o (get-object s d ∙ under-none s d empty); cache = inl refl }
grows-filled s Actions d o value empty = record { objects = inl refl; cache = may-put (primary s).cache d value (get-value s d ∙ kept-none s d empty) }

grows-fill : (s : Tables) (cell : Place) (had : ℕ) (found : Option Record) (value : ℕ) (words : List ℕ) → IsSound s → cell_of s.filled cell.at ≡ had → record_at s.bound cell.at ≡ found
    → Grows (primary s) (state_filled_by (primary s) s had found value words)
grows-fill s cell (suc had) found value words sound is at = grows-same (primary s) (primary s) refl
grows-fill s cell zero None value words sound is at = grows-same (primary s) (primary s) refl
grows-fill s cell zero (Some r) value words sound is at =
    grows-filled s r.space r.digest (object_of s.bound words) (digest_at s.bound value) (cell-empty s cell r sound is at)

grows-act : (s : Tables) (act : Act) → IsSound s → Grows (primary s) (carried_by (primary s) s act)
grows-act s (Look space digest) sound = grows-same (primary s) (primary s) refl
grows-act s (Bind space digest own) sound = grows-same (primary s) (primary s) refl
grows-act s (Read cell) sound = grows-same (primary s) (primary s) refl
grows-act s (Claim n) sound = grows-same (primary s) (primary s) refl
grows-act s (Room n moved) sound = grows-same (primary s) (primary s) refl
grows-act s (Fill cell value words) sound = grows-fill s cell (cell_of s.filled cell.at) (record_at s.bound cell.at) value words sound refl refl

-- what a lawful run leaves is what it began with, or more
pub grows-run : (up : State) (start : Tables) (seen : List Event) → IsLawfulRun up start seen → Grows (primary start) (primary_of start seen)
grows-run up start [] lawful = grows-same (primary start) (primary start) refl
grows-run up start (e ∷ es) lawful =
    let sound = sound-run up start es lawful.0 in
    grows-then (primary start) (primary_of start es) (primary_of start (e ∷ es)) (grows-run up start es lawful.0)
    (subst (Grows (primary_of start es)) (sym (primary-act up (tables start es) e.note.who e.act sound lawful.1)) (grows-act (tables start es) e.act sound))

-- ---- how many objects and keys contents hold

-- a digest that is known is not that of a later object
not-later : (known : List Digest) (os : List Object) (d : Digest) → AreStorable known os → Member d known → Member d (object_digests os) → ⊥
not-later known [] d storable in_known later = later
not-later known (o ∷ os) d storable in_known later = elim later [
  | inl same ↦ storable.3 (subst (λ x. Member x known) (sym same) in_known)
  | inr after ↦ not-later (object_digest o ∷ known) os d storable.4 (inr in_known) after
]

none-under : (os : List Object) (d : Digest) → (Member d (object_digests os) → ⊥) → fin.get (objects_map os) d ≡ None
none-under [] d none = fin.get-empty digest_cmp d
none-under (o ∷ os) d none = get-put (objects_map os) (object_digest o) o d ∙ step (none-under os d (λ m. none (inr m))) (same_digest d (object_digest o)) refl where
  step : fin.get (objects_map os) d ≡ None → (b : Bool) → same_digest d (object_digest o) ≡ b → cond b (Some o) (fin.get (objects_map os) d) ≡ None
  step later true test = absurd (none (inl (sym (same-is d (object_digest o) test))))
  step later false test = later

count-objects : (known : List Digest) (os : List Object) → AreStorable known os → fin.len (objects_map os) ≡ length os
count-objects known [] storable = fin.len-empty digest_cmp Object
count-objects known (o ∷ os) storable =
    len-new (objects_map os) (object_digest o) o (none-under os (object_digest o) (not-later (object_digest o ∷ known) os (object_digest o) storable.4 (inl refl)))
    ∙ ap suc (count-objects (object_digest o ∷ known) os storable.4)

not-put : (digests known : List Digest) (ps : List Pair) (d : Digest) → ArePuttable digests known ps → Member d known → Member d (pair_keys ps) → ⊥
not-put digests known [] d puttable in_known later = later
not-put digests known (p ∷ ps) d puttable in_known later = elim later [
  | inl same ↦ puttable.1 (subst (λ x. Member x known) (sym same) in_known)
  | inr after ↦ not-put digests (p.key ∷ known) ps d puttable.2 (inr in_known) after
]

none-kept : (ps : List Pair) (d : Digest) → (Member d (pair_keys ps) → ⊥) → fin.get (actions_map ps) d ≡ None
none-kept [] d none = fin.get-empty digest_cmp d
none-kept (p ∷ ps) d none = get-put (actions_map ps) p.key p.value d ∙ step (none-kept ps d (λ m. none (inr m))) (same_digest d p.key) refl where
  step : fin.get (actions_map ps) d ≡ None → (b : Bool) → same_digest d p.key ≡ b → cond b (Some p.value) (fin.get (actions_map ps) d) ≡ None
  step later true test = absurd (none (inl (sym (same-is d p.key test))))
  step later false test = later

count-actions : (digests known : List Digest) (ps : List Pair) → ArePuttable digests known ps → fin.len (actions_map ps) ≡ length ps
count-actions digests known [] puttable = fin.len-empty digest_cmp Digest
count-actions digests known (p ∷ ps) puttable =
    len-new (actions_map ps) p.key p.value (none-kept ps p.key (not-put digests (p.key ∷ known) ps p.key puttable.2 (inl refl)))
    ∙ ap suc (count-actions digests (p.key ∷ known) ps puttable.2)

-- how many objects and keys the state of contents has
pub objects-counted : (objects : List Object) (actions : List Pair) → AreLawfulContents objects actions → fin.len (contents_state objects actions).objects ≡ length objects
objects-counted objects actions lawful = count-objects [] objects lawful.storable

pub actions-counted : (objects : List Object) (actions : List Pair) → AreLawfulContents objects actions → fin.len (contents_state objects actions).cache ≡ length actions
actions-counted objects actions lawful = count-actions (object_digests objects) [] actions lawful.puttable

-- ---- whether a state has grown

-- a state that has not more keys is the same
pub same-counts : (s new : State) → Grows s new → fin.len new.objects ≡ fin.len s.objects → fin.len new.cache ≡ fin.len s.cache → new ≡ s
same-counts s new grows one two =
    let objects : new.objects ≡ s.objects = elim grows.objects [ inl same ↦ same | inr more ↦ absurd (omega (arith, more, one)) ] in
    let cache : new.cache ≡ s.cache = elim grows.cache [ inl same ↦ same | inr more ↦ absurd (omega (arith, more, two)) ] in
    λ i. record { objects = objects i; cache = cache i }

-- ---- as counted

both-true : (a b : Bool) → true ≡ (a && b) → (a ≡ true) × (b ≡ true)
both-true true b h = (refl, sym h)
both-true false b h = cc h

-- counts are equal where a test says so, and are not where it says that
pub counts-same : (now before : Counts) → true ≡ ((now.objects == before.objects) && (now.actions == before.actions)) → now ≡ before
counts-same now before h =
    let both = both-true (now.objects == before.objects) (now.actions == before.actions) h in
    let one : now.objects ≡ before.objects = eqb-true now.objects before.objects both.0 in
    let two : now.actions ≡ before.actions = eqb-true now.actions before.actions both.1 in
    λ i. record { objects = one i; actions = two i }

pub counts-other : (now before : Counts) → false ≡ ((now.objects == before.objects) && (now.actions == before.actions)) → now ≢ before
counts-other now before h same =
    let one = eq-eqb now.objects before.objects (ap (λ (c : Counts). c.objects) same) in
    let two = eq-eqb now.actions before.actions (ap (λ (c : Counts). c.actions) same) in
    let clash : false ≡ true = h ∙ ap (λ b. b && (now.actions == before.actions)) one ∙ two in cc clash

pub nothing-new :
    (opened : State) (objects : List Object) (actions : List Pair) (now before : Counts) → AreLawfulContents objects actions → Grows opened (contents_state objects actions)
    → now.objects ≡ length objects → now.actions ≡ length actions → before.objects ≡ fin.len opened.objects → before.actions ≡ fin.len opened.cache → now ≡ before
    → contents_state objects actions ≡ opened
nothing-new opened objects actions now before lawful grows many-objects many-actions had-objects had-actions same =
    same-counts opened (contents_state objects actions) grows
    (objects-counted objects actions lawful ∙ sym many-objects ∙ ap (λ (c : Counts). c.objects) same ∙ had-objects)
    (actions-counted objects actions lawful ∙ sym many-actions ∙ ap (λ (c : Counts). c.actions) same ∙ had-actions)

pub something-new :
    (opened : State) (objects : List Object) (actions : List Pair) (now before : Counts) → AreLawfulContents objects actions → now.objects ≡ length objects → now.actions ≡ length actions
    → before.objects ≡ fin.len opened.objects → before.actions ≡ fin.len opened.cache → now ≢ before → contents_state objects actions ≢ opened
something-new opened objects actions now before lawful many-objects many-actions had-objects had-actions other same =
    let one : now.objects ≡ before.objects = many-objects ∙ sym (objects-counted objects actions lawful) ∙ ap (λ (s : State). fin.len s.objects) same ∙ sym had-objects in
    let two : now.actions ≡ before.actions = many-actions ∙ sym (actions-counted objects actions lawful) ∙ ap (λ (s : State). fin.len s.cache) same ∙ sym had-actions in
    other (λ i. record { objects = one i; actions = two i })

-- ---- the images that are due

none-due : (size used : ℕ) (opened closed : State) (rotation : Rotation) (full : Bool) (images : Images) → images.image ≡ None → images.next ≡ None → closed ≡ opened
    → (NeedsRotation used rotation.limit full → ⊥) → AreDue size opened closed rotation used full images
none-due size used opened closed rotation full images no_image no_next same off = record {
  image = subst (λ (o : Option (Vec ℕ Global)). IsImageDue size opened closed used o) (sym no_image) same;
  next = subst (λ (o : Option (Vec ℕ Global)). IsNextDue rotation size closed used full o) (sym no_next) (λ due. off due.needed);
}

pub nothing-due : (size used : ℕ) (opened closed : State) (rotation : Rotation) (full : Bool) → closed ≡ opened → (NeedsRotation used rotation.limit full → ⊥)
    → AreDue size opened closed rotation used full (record { image = None; next = None })
nothing-due size used opened closed rotation full same off = none-due size used opened closed rotation full (record { image = None; next = None }) refl refl same off
