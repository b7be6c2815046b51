-- A labelling of closed words: where each block lies, with contents that are as they must be.
use Rattle.std.specs.Prelude.{◌≡◌, ◌≢◌, ℕ, ◌<◌, List, [], ◌∷◌, length, Some, ◌↔◌}
use Rattle.std.specs.FinMap as fin
use Rattle.cas_model.specs.declared.digest.Digest.{Digest}
use Rattle.cas_model.specs.declared.object.Object.{Object}
use Rattle.cas_model.specs.declared.place.Space.TheVariants.{Objects, Actions}
use Rattle.cas_model.specs.Content.{IsContent, content_places, content_bytes}
use Rattle.cas_model.specs.Object.{object_digest}
use Rattle.cas_model.specs.State.{State}
use Rattle.cas_model.specs.Tables.{no_digest}
use Rattle.region_core.specs.Heap.{Block, Free, Table, Record, Content, Claimed, Laid, memory_of}
use Rattle.region_core.specs.Stands.{IsHeaded}

abbrev pub digest_in : Block → Digest
digest_in Free = no_digest
digest_in (Table space above) = no_digest
digest_in (Record space digest cell) = record { bytes = digest }
digest_in (Content owner words) = no_digest
digest_in (Claimed words) = no_digest

-- the digests of the records that begin at these places
abbrev pub digests_in : (ℕ → Block) → List ℕ → List Digest
digests_in heap [] = []
digests_in heap (n ∷ ns) = digest_in (heap n) ∷ digests_in heap ns

-- the object that the words of a content describe
abbrev pub object_in : (ℕ → Block) → List ℕ → Object
object_in heap words = record { refs = digests_in heap (content_places words); «data» = content_bytes words }

-- a filled object's record whose content lies below a place
pub record IsBelow (heap : ℕ → Block) (place n : ℕ) : Type 0 where
  pub digest : List ℕ
  pub content : ℕ
  pub here : heap n ≡ Record Objects digest content
  pub filled : content ≢ 0
  pub below : content < place

abbrev pub AllBelow : (ℕ → Block) → ℕ → List ℕ → Type 0
AllBelow heap place [] = Unit {0}
AllBelow heap place (n ∷ ns) = IsBelow heap place n × AllBelow heap place ns

-- the content of a record is within the limits, refers to objects below, and has the record's digest
pub record IsContentIn (heap : ℕ → Block) (place : ℕ) (digest words : List ℕ) : Type 0 where
  pub content : IsContent words
  pub refs : AllBelow heap place (content_places words)
  pub named : object_digest (object_in heap words) ≡ record { bytes = digest }

-- each content is as it must be
abbrev pub AreContents : (ℕ → Block) → Type 0
AreContents heap = (p r : ℕ) (d ws : List ℕ) → heap p ≡ Content r ws → heap r ≡ Record Objects d p → IsContentIn heap p d ws

-- an object of the labelling
pub record ObjectIn (heap : ℕ → Block) (d : Digest) (o : Object) : Type 0 where
  pub owner : ℕ
  pub place : ℕ
  pub words : List ℕ
  pub record_ : heap owner ≡ Record Objects d.bytes place
  pub content : heap place ≡ Content owner words
  pub object : object_in heap words ≡ o

-- a key of the labelling with its value
pub record ActionIn (heap : ℕ → Block) (key value : Digest) : Type 0 where
  pub owner : ℕ
  pub cell : ℕ
  pub record_ : heap owner ≡ Record Actions key.bytes cell
  pub filled : cell ≢ 0
  pub value_in : digest_in (heap cell) ≡ value

-- the state has just the filled objects and keys of the labelling
pub record Names (heap : ℕ → Block) (state : State) : Type 0 where
  pub objects : (d : Digest) (o : Object) → (fin.get state.objects d ≡ Some o) ↔ ObjectIn heap d o
  pub cache : (key value : Digest) → (fin.get state.cache key ≡ Some value) ↔ ActionIn heap key value

-- the words are laid out so, with nothing left to publish that a state would need
pub record IsCertified (heap : ℕ → Block) (words : List ℕ) (size : ℕ) (state : State) : Type 0 where
  pub headed : IsHeaded words size
  pub laid : Laid heap (memory_of words) (length words)
  pub contents : AreContents heap
  pub names : Names heap state
