-- The contents of closed words in their order: objects by rising place of their content, keys by rising digest.
use Rattle.std.specs.Prelude.{◌≡◌, ℕ, List, [], ◌∷◌}
use Rattle.std.specs.List.Sorted.{IsStrictlySortedBy}
use Rattle.std.specs.Ordering.{nat_cmp}
use Rattle.cas_model.specs.declared.contents.Pair.{Pair}
use Rattle.cas_model.specs.declared.digest.Digest.{Digest}
use Rattle.cas_model.specs.declared.object.Object.{Object}
use Rattle.cas_model.specs.declared.place.Space.TheVariants.{Objects, Actions}
use Rattle.cas_model.specs.Contents.{AreLawfulContents, contents_state, pair_keys}
use Rattle.cas_model.specs.Object.{object_digest}
use Rattle.cas_model.specs.Primary.{primary, cell_under}
use Rattle.cas_model.specs.State.{digest_cmp}
use Rattle.cas_model.specs.Tables.{Tables}
use Rattle.region_core.specs.Leads.{IsContentOf, IsFilledOf, digest_there, object_there}
use Rattle.frozen_store.specs.Gathers.{IsIn}
use Rattle.frozen_store.specs.Seen.{FrozenSeen}

-- the places of the contents of all present objects, rising
pub record AreContentPlaces (words : List ℕ) (places : List ℕ) : Type 0 where
  pub only : (c : ℕ) → IsIn c places → (r : ℕ) × IsContentOf words r c
  pub has : (r c : ℕ) → IsContentOf words r c → IsIn c places
  pub rising : IsStrictlySortedBy nat_cmp places

-- the digests of all present keys, rising
pub record AreKeys (words : List ℕ) (keys : List Digest) : Type 0 where
  pub only : (k : Digest) → IsIn k keys → (r : ℕ) × IsFilledOf words Actions r × (digest_there words r ≡ k)
  pub has : (r : ℕ) → IsFilledOf words Actions r → IsIn (digest_there words r) keys
  pub rising : IsStrictlySortedBy digest_cmp keys

-- the objects whose contents are at these places
abbrev pub objects_there : List ℕ → List ℕ → List Object
objects_there words [] = []
objects_there words (c ∷ cs) = object_there words c ∷ objects_there words cs

-- all present objects, by rising place
pub record AreObjects (words : List ℕ) (objects : List Object) : Type 0 where
  pub places : List ℕ
  pub places_are : AreContentPlaces words places
  pub is : objects ≡ objects_there words places

-- the places of the contents of these objects
abbrev pub places_of : Tables → List Object → List ℕ
places_of t [] = []
places_of t (o ∷ os) = cell_under t Objects (object_digest o) ∷ places_of t os

-- contents that hold just what is there, in their order
pub record AreContentsOf (seen : FrozenSeen) (objects : List Object) (actions : List Pair) : Type 0 where
  pub lawful : AreLawfulContents objects actions
  pub state : contents_state objects actions ≡ primary seen.tables
  pub objects_rise : IsStrictlySortedBy nat_cmp (places_of seen.tables objects)
  pub keys_rise : IsStrictlySortedBy digest_cmp (pair_keys actions)
