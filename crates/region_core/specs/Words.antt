-- The words of slots, digests and tables.
use Rattle.std.specs.Prelude.{◌≡◌, ℕ, ◌+◌, ◌*◌, ◌<◌, List, [], ◌∷◌, slice_index, slice_set}
use Rattle.std.specs.Int.{w64, from_be_bytes}
use Rattle.cas_model.specs.declared.place.Space.{Space}
use Rattle.cas_model.specs.declared.place.Space.TheVariants.{Objects, Actions}
use Rattle.region_core.specs.declared.slot.Slot.{Slot}
use Rattle.region_core.specs.declared.slot.Slot.TheVariants.{Empty, Record, Subtrie}

-- where the root of a trie begins
abbrev pub root : Space → ℕ
root Objects = 8
root Actions = 264

-- how many slots a table has to which these indexes lead
abbrev pub width : List ℕ → ℕ
width [] = 256
width (j ∷ js) = 16

-- the word that says what a slot holds
abbrev pub slot_word : Slot → ℕ
slot_word Empty = 0
slot_word (Record p) = 4 * p.at + 1
slot_word (Subtrie p) = 4 * p.at + 2

-- the place that a slot names is below the largest size of a region
abbrev pub HasPlaceWithin : Slot → Type 0
HasPlaceWithin Empty = Unit {0}
HasPlaceWithin (Record p) = p.at < 67108864
HasPlaceWithin (Subtrie p) = p.at < 67108864

-- eight bytes from an index on, with zeros past the end
abbrev pub eight : List ℕ → ℕ → List ℕ
eight bytes i = slice_index bytes i ∷ slice_index bytes (i + 1) ∷ slice_index bytes (i + 2) ∷ slice_index bytes (i + 3) ∷ slice_index bytes (i + 4) ∷ slice_index bytes (i + 5) ∷ slice_index bytes (i + 6) ∷ slice_index bytes (i + 7) ∷ []

-- one of the four words of a digest: eight of its bytes, the high one first
unfoldable pub word_of : List ℕ → ℕ → ℕ
word_of bytes k = from_be_bytes w64 (eight bytes (8 * k))

-- the four words of a digest
abbrev pub words_of : List ℕ → List ℕ
words_of bytes = word_of bytes 0 ∷ word_of bytes 1 ∷ word_of bytes 2 ∷ word_of bytes 3 ∷ []

-- the words of a table of 16 slots, all empty
abbrev pub no_slots : List ℕ
no_slots = 0 ∷ 0 ∷ 0 ∷ 0 ∷ 0 ∷ 0 ∷ 0 ∷ 0 ∷ 0 ∷ 0 ∷ 0 ∷ 0 ∷ 0 ∷ 0 ∷ 0 ∷ 0 ∷ []

-- the words of a table with just one slot that is not empty
abbrev pub one_slot : ℕ → ℕ → List ℕ
one_slot index word = slice_set no_slots index word

-- the four words from a place on are these
abbrev pub HasWords : List ℕ → ℕ → List ℕ → Type 0
HasWords words place own = (slice_index words place ≡ slice_index own 0) × (slice_index words (place + 1) ≡ slice_index own 1) × (slice_index words (place + 2) ≡ slice_index own 2) × (slice_index words (place + 3) ≡ slice_index own 3)
