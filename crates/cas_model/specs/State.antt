-- A store's state: objects and cached values under digests. When it is closed, and what stands over what.
use Rattle.std.specs.Prelude.{ℕ, ◌≡◌, ◌<◌, ◌≤◌, length, List, [], ◌∷◌, ◌++◌, ◌⊎◌, Bool, true, Some}
use Rattle.std.specs.Ordering.{nat_cmp}
use Rattle.std.specs.declared.cmp.Ordering.{Ordering}
use Rattle.std.specs.Cmp.Lexicographic.{slice_cmp}
use Rattle.std.specs.FinMap as fin
use Rattle.cas_model.specs.declared.digest.Digest.{Digest}
use Rattle.cas_model.specs.declared.object.Object.{Object}
use Rattle.cas_model.specs.Object.{object_digest}

abbrev pub digest_cmp : Digest → Digest → Ordering
digest_cmp a b = slice_cmp nat_cmp a.bytes b.bytes

pub record State : Type 0 where
  pub objects : fin.FinMap digest_cmp Object
  pub cache : fin.FinMap digest_cmp Digest

-- the state without objects and keys
abbrev pub empty_state : State
empty_state = record { objects = fin.empty; cache = fin.empty }

-- the state has an object under this digest
abbrev pub has : State → Digest → Bool
has s d = fin.contains_key s.objects d

-- the state has an object under each of these digests
abbrev pub HasAll : State → List Digest → Type 0
HasAll s [] = Unit {0}
HasAll s (d ∷ ds) = (has s d ≡ true) × HasAll s ds

-- what objects refer to, and what keys name, is there
pub record IsClosed (s : State) : Type 0 where
  pub objects : (d : Digest) (o : Object) → fin.get s.objects d ≡ Some o → HasAll s o.refs
  pub cache : (k d : Digest) → fin.get s.cache k ≡ Some d → has s d ≡ true

abbrev pub AreBytes : List ℕ → Type 0
AreBytes [] = Unit {0}
AreBytes (b ∷ bs) = (b < 256) × AreBytes bs

-- each object stands under its own digest and is within the limits of a content
pub record IsStorable (s : State) : Type 0 where
  pub named : (d : Digest) (o : Object) → fin.get s.objects d ≡ Some o → object_digest o ≡ d
  pub few_refs : (d : Digest) (o : Object) → fin.get s.objects d ≡ Some o → length o.refs ≤ 65535
  pub short : (d : Digest) (o : Object) → fin.get s.objects d ≡ Some o → length o.data ≤ 16777215
  pub bytes : (d : Digest) (o : Object) → fin.get s.objects d ≡ Some o → AreBytes o.data

-- all pairs of the first, and those of the second whose keys it lacks
abbrev pub over : State → State → State
over p u = record {
  objects = fin.from_entries (fin.entries p.objects ++ fin.entries u.objects);
  cache = fin.from_entries (fin.entries p.cache ++ fin.entries u.cache);
}

-- the list has this digest
abbrev pub Member : Digest → List Digest → Type 0
Member d [] = ⊥
Member d (x ∷ xs) = (x ≡ d) ⊎ Member d xs

-- the object under the first digest refers to the second
abbrev pub Refers : State → Digest → Digest → Type 0
Refers s from to = (o : Object) × (fin.get s.objects from ≡ Some o) × Member to o.refs

-- a chain of references leads from the first digest over these ones to the last
abbrev pub Leads : State → List Digest → Digest → Digest → Type 0
Leads s [] from to = from ≡ to
Leads s (next ∷ path) from to = Refers s from next × Leads s path next to

-- the state has the digest, and every digest that a chain of references reaches from it
abbrev pub Whole : State → Digest → Type 0
Whole s d = (path : List Digest) (to : Digest) → Leads s path d to → has s to ≡ true
