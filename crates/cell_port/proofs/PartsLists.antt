-- Contents in their order and the other way round.
use Rattle.std.proofs.Common.{◌≡◌, ◌⊎◌, ◌++◌, List, [], ◌∷◌, Bool, true, false, cond, inl, inr, Some, reverse, refl, ap, sym, ◌∙◌, subst}
use Rattle.std.specs.Prelude.{◌↔◌}
use Rattle.std.specs.FinMap as fin
use Rattle.std.proofs.lemmas.List.{reverse-append, reverse-reverse}
use Rattle.cas_model.specs.declared.contents.Pair.{Pair}
use Rattle.cas_model.specs.declared.digest.Digest.{Digest}
use Rattle.cas_model.specs.declared.object.Object.{Object}
use Rattle.cas_model.specs.Contents.{objects_map, actions_map, object_digests, pair_keys, AreStorable, ArePuttable}
use Rattle.cas_model.specs.Object.{object_digest}
use Rattle.cas_model.specs.State.{digest_cmp, Member}
use Rattle.cas_model.specs.Tables.{same_digest}
use Rattle.cas_model.proofs.Maps.{get-put, same-maps, same-is}

pub reverse-cons : {A : Type 0} (x : A) (xs : List A) → reverse (x ∷ xs) ≡ reverse xs ++ x ∷ []
reverse-cons {A} x xs = reverse-append (x ∷ []) xs

-- two values under keys that differ may be put in in either order
swap : {X : Type 0} (m : fin.FinMap digest_cmp X) (a b : Digest) (x y : X) → (a ≡ b → ⊥) → fin.insert (fin.insert m a x) b y ≡ fin.insert (fin.insert m b y) a x
swap {X} m a b x y differ = same-maps _ _ (λ q.
    get-put (fin.insert m a x) b y q ∙ ap (cond (same_digest q b) (Some y)) (get-put m a x q)
    ∙ step q (same_digest q b) (same_digest q a) refl refl
    ∙ sym (get-put (fin.insert m b y) a x q ∙ ap (cond (same_digest q a) (Some x)) (get-put m b y q))) where
      step : (q : Digest) (s t : Bool) → same_digest q b ≡ s → same_digest q a ≡ t → cond s (Some y) (cond t (Some x) (fin.get m q)) ≡ cond t (Some x) (cond s (Some y) (fin.get m q))
      step q true true one two = absurd (differ (sym (same-is q a two) ∙ same-is q b one))
      step q true false one two = refl
      step q false true one two = refl
      step q false false one two = refl

module _ {A X : Type 0} (key : A → Digest) (val : A → X) where
  abbrev pub keys : List A → List Digest
  keys [] = []
  keys (a ∷ as_) = key a ∷ keys as_

  abbrev pub map_of : List A → fin.FinMap digest_cmp X
  map_of [] = fin.empty
  map_of (a ∷ as_) = fin.insert (map_of as_) (key a) (val a)

  -- no key is there twice
  abbrev pub Distinct : List A → Type 0
  Distinct [] = Unit {0}
  Distinct (a ∷ as_) = (Member (key a) (keys as_) → ⊥) × Distinct as_

  member-last : (xs : List A) (y : A) (d : Digest) → Member d (keys (xs ++ y ∷ [])) → Member d (keys xs) ⊎ (key y ≡ d)
  member-last [] y d (inl same) = inr same
  member-last [] y d (inr none) = absurd none
  member-last (x ∷ xs) y d (inl same) = inl (inl same)
  member-last (x ∷ xs) y d (inr m) = step (member-last xs y d m) where
    step : Member d (keys xs) ⊎ (key y ≡ d) → Member d (keys (x ∷ xs)) ⊎ (key y ≡ d)
    step (inl h) = inl (inr h)
    step (inr h) = inr h

  member-reverse : (xs : List A) (d : Digest) → Member d (keys (reverse xs)) → Member d (keys xs)
  member-reverse [] d m = m
  member-reverse (x ∷ xs) d m = step (member-last (reverse xs) x d (subst (λ (ys : List A). Member d (keys ys)) (reverse-cons x xs) m)) (λ h. member-reverse xs d h) where
    step : Member d (keys (reverse xs)) ⊎ (key x ≡ d) → (Member d (keys (reverse xs)) → Member d (keys xs)) → Member d (keys (x ∷ xs))
    step (inl h) again = inr (again h)
    step (inr h) again = inl h

  keys-reverse : (xs : List A) (d : Digest) → Member d (keys (reverse xs)) ↔ Member d (keys xs)
  keys-reverse xs d = (member-reverse xs d, λ m. member-reverse (reverse xs) d (subst (λ (ys : List A). Member d (keys ys)) (sym (reverse-reverse xs)) m))

  map-last : (xs : List A) (y : A) → (Member (key y) (keys xs) → ⊥) → map_of (xs ++ y ∷ []) ≡ fin.insert (map_of xs) (key y) (val y)
  map-last [] y fresh = refl
  map-last (x ∷ xs) y fresh =
      ap (λ m. fin.insert m (key x) (val x)) (map-last xs y (λ m. fresh (inr m))) ∙ swap (map_of xs) (key y) (key x) (val y) (val x) (λ same. fresh (inl (sym same)))

  pub map-reverse : (xs : List A) → Distinct xs → map_of (reverse xs) ≡ map_of xs
  map-reverse [] distinct = refl
  map-reverse (x ∷ xs) distinct =
      ap map_of (reverse-cons x xs) ∙ map-last (reverse xs) x (λ m. distinct.0 (member-reverse xs (key x) m)) ∙ ap (λ m. fin.insert m (key x) (val x)) (map-reverse xs distinct.1)

-- ---- of objects and pairs

objects-map : (os : List Object) → objects_map os ≡ map_of object_digest (λ (o : Object). o) os
objects-map [] = refl
objects-map (o ∷ os) = ap (λ m. fin.insert m (object_digest o) o) (objects-map os)

actions-map : (ps : List Pair) → actions_map ps ≡ map_of (λ (p : Pair). p.key) (λ (p : Pair). p.value) ps
actions-map [] = refl
actions-map (p ∷ ps) = ap (λ m. fin.insert m p.key p.value) (actions-map ps)

object-keys : (os : List Object) → object_digests os ≡ keys object_digest (λ (o : Object). o) os
object-keys [] = refl
object-keys (o ∷ os) = ap (λ (ds : List Digest). object_digest o ∷ ds) (object-keys os)

action-keys : (ps : List Pair) → pair_keys ps ≡ keys (λ (p : Pair). p.key) (λ (p : Pair). p.value) ps
action-keys [] = refl
action-keys (p ∷ ps) = ap (λ (ds : List Digest). p.key ∷ ds) (action-keys ps)

-- a known digest is not stored again
not-again : (known : List Digest) (os : List Object) (d : Digest) → AreStorable known os → Member d known → Member d (object_digests os) → ⊥
not-again known [] d storable m there = there
not-again known (o ∷ os) d storable m (inl same) = storable.3 (subst (λ x. Member x known) (sym same) m)
not-again known (o ∷ os) d storable m (inr there) = not-again (object_digest o ∷ known) os d storable.4 (inr m) there

objects-distinct : (known : List Digest) (os : List Object) → AreStorable known os → Distinct object_digest (λ (o : Object). o) os
objects-distinct known [] storable = tt
objects-distinct known (o ∷ os) storable = (
  λ m. not-again (object_digest o ∷ known) os (object_digest o) storable.4 (inl refl) (subst (λ (ds : List Digest). Member (object_digest o) ds) (sym (object-keys os)) m),
  objects-distinct (object_digest o ∷ known) os storable.4,
)

key-again : (digests known : List Digest) (ps : List Pair) (k : Digest) → ArePuttable digests known ps → Member k known → Member k (pair_keys ps) → ⊥
key-again digests known [] k puttable m there = there
key-again digests known (p ∷ ps) k puttable m (inl same) = puttable.1 (subst (λ x. Member x known) (sym same) m)
key-again digests known (p ∷ ps) k puttable m (inr there) = key-again digests (p.key ∷ known) ps k puttable.2 (inr m) there

actions-distinct : (digests known : List Digest) (ps : List Pair) → ArePuttable digests known ps → Distinct (λ (p : Pair). p.key) (λ (p : Pair). p.value) ps
actions-distinct digests known [] puttable = tt
actions-distinct digests known (p ∷ ps) puttable = (
  λ m. key-again digests (p.key ∷ known) ps p.key puttable.2 (inl refl) (subst (λ (ds : List Digest). Member p.key ds) (sym (action-keys ps)) m),
  actions-distinct digests (p.key ∷ known) ps puttable.2,
)

-- contents hold the same state the other way round
pub objects-reverse : (known : List Digest) (os : List Object) → AreStorable known os → objects_map (reverse os) ≡ objects_map os
objects-reverse known os storable =
    objects-map (reverse os) ∙ map-reverse object_digest (λ (o : Object). o) os (objects-distinct known os storable) ∙ sym (objects-map os)

pub actions-reverse : (digests known : List Digest) (ps : List Pair) → ArePuttable digests known ps → actions_map (reverse ps) ≡ actions_map ps
actions-reverse digests known ps puttable =
    actions-map (reverse ps) ∙ map-reverse (λ (p : Pair). p.key) (λ (p : Pair). p.value) ps (actions-distinct digests known ps puttable) ∙ sym (actions-map ps)

-- and have the same digests
pub digests-reverse : (os : List Object) (d : Digest) → Member d (object_digests (reverse os)) ↔ Member d (object_digests os)
digests-reverse os d = rw (object-keys os) (rw (object-keys (reverse os)) (keys-reverse object_digest (λ (o : Object). o) os d))

pub pair-keys-reverse : (ps : List Pair) (d : Digest) → Member d (pair_keys (reverse ps)) ↔ Member d (pair_keys ps)
pair-keys-reverse ps d = rw (action-keys ps) (rw (action-keys (reverse ps)) (keys-reverse (λ (p : Pair). p.key) (λ (p : Pair). p.value) ps d))

pub puttable-there : (digests others known : List Digest) (ps : List Pair) → ((d : Digest) → Member d digests → Member d others) → ArePuttable digests known ps → ArePuttable others known ps
puttable-there digests others known [] there puttable = tt
puttable-there digests others known (p ∷ ps) there puttable = (there p.value puttable.0, puttable.1, puttable-there digests others (p.key ∷ known) ps there puttable.2)
