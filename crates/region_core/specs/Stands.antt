-- When words stand for a state.
use Rattle.std.specs.Prelude.{◌≡◌, ℕ, ◌+◌, ◌^◌, ◌<◌, ◌≤◌, List, [], ◌∷◌, length, slice_index, Some, suc, ◌⊎◌, ◌↔◌}
use Rattle.std.specs.FinMap as fin
use Rattle.cas_model.specs.declared.digest.Digest.{Digest}
use Rattle.cas_model.specs.declared.object.Object.{Object}
use Rattle.cas_model.specs.declared.place.Space.{Space}
use Rattle.cas_model.specs.declared.place.Space.TheVariants.{Objects, Actions}
use Rattle.cas_model.specs.Content.{IsContent, content_places}
use Rattle.cas_model.specs.Object.{object_digest}
use Rattle.cas_model.specs.State.{State}
use Rattle.cas_model.specs.Trie.{path}
use Rattle.region_core.specs.Heap.{Block, extent}
use Rattle.region_core.specs.Leads.{NamesTableAt, NamesRecordAt, Leads, IsSlot, IsFilledOf, IsContentOf, IsNamed, digest_there, cell_there, content_there, object_there}

-- each word is a number of 64 bits
pub record AreWords (words : List ℕ) : Type 0 where
  pub small : (i : ℕ) → slice_index words i < 2 ^ 64

-- the first eight words, of which the counter is the number of words
pub record IsHeaded (words : List ℕ) (size : ℕ) : Type 0 where
  pub magic : slice_index words 0 ≡ 6000011104285311299
  pub version : slice_index words 1 ≡ 1
  pub size_there : slice_index words 2 ≡ size
  pub counter : slice_index words 3 ≡ length words
  pub zeros : (i : ℕ) → 4 ≤ i → i < 8 → slice_index words i ≡ 0
  pub least : 4096 ≤ size
  pub most : size ≤ 67108864
  pub long : 520 ≤ length words
  pub within : length words ≤ size

-- what a slot may hold
abbrev pub IsLawfulSlot : List ℕ → ℕ → Type 0
IsLawfulSlot words slot = (slice_index words slot ≡ 0) ⊎ (((p : ℕ) × NamesRecordAt words slot p) ⊎ ((t : ℕ) × NamesTableAt words slot t))

-- each is the place of a filled object's record whose content lies below
abbrev pub AreReferences : List ℕ → ℕ → List ℕ → Type 0
AreReferences words place [] = Unit {0}
AreReferences words place (n ∷ ns) = IsFilledOf words Objects n × (cell_there words n < place) × AreReferences words place ns

-- an object of the words
pub record HasObject (words : List ℕ) (d : Digest) (o : Object) : Type 0 where
  pub owner : ℕ
  pub place : ℕ
  pub content : IsContentOf words owner place
  pub digest : digest_there words owner ≡ d
  pub object : object_there words place ≡ o

-- a key of the words with its value
pub record HasAction (words : List ℕ) (key value : Digest) : Type 0 where
  pub owner : ℕ
  pub filled : IsFilledOf words Actions owner
  pub digest : digest_there words owner ≡ key
  pub value_there : digest_there words (cell_there words owner) ≡ value

pub record Stands (words : List ℕ) (size : ℕ) (state : State) : Type 0 where
  pub headed : IsHeaded words size
  -- each slot is empty, or names a record or a subtrie. Subtries end at level 62
  pub slots : (s : Space) (above : List ℕ) (j slot : ℕ) → IsSlot words s above j slot → IsLawfulSlot words slot
  pub levels : (s : Space) (above : List ℕ) (t : ℕ) → Leads words s above t → length above ≤ 62
  -- the digest of a record leads to the slot that names it
  pub paths : (s : Space) (above : List ℕ) (j slot p : ℕ) → IsSlot words s above j slot → NamesRecordAt words slot p → path (digest_there words p).bytes (suc (length above)) ≡ j ∷ above
  -- a content is within the limits, lies in the arena, and has no stray bits
  pub contents : (r c : ℕ) → IsContentOf words r c → IsContent (content_there words c) × (520 ≤ c) × (c + length (content_there words c) ≤ length words)
  -- each block has one name, and no two have a common word
  pub apart : (p q w : ℕ) (b c : Block) → IsNamed words p b → IsNamed words q c → p ≤ w → w < p + extent b → q ≤ w → w < q + extent c → (p ≡ q) × (b ≡ c)
  -- references are filled objects whose contents lie lower, and an object has the digest of its record
  pub references : (r c : ℕ) → IsContentOf words r c → AreReferences words c (content_places (content_there words c))
  pub named : (r c : ℕ) → IsContentOf words r c → object_digest (object_there words c) ≡ digest_there words r
  -- a key's value is a filled object
  pub values : (r : ℕ) → IsFilledOf words Actions r → IsFilledOf words Objects (cell_there words r)
  -- the state has just the filled objects, and the filled keys with their values
  pub objects : (d : Digest) (o : Object) → (fin.get state.objects d ≡ Some o) ↔ HasObject words d o
  pub cache : (key value : Digest) → (fin.get state.cache key ≡ Some value) ↔ HasAction words key value
