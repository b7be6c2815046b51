-- What the words of a region name, from the roots down the slots: tables, records and contents.
use Rattle.std.specs.Prelude.{◌≡◌, ◌≢◌, ℕ, ◌+◌, ◌*◌, ◌/◌, ◌%◌, ◌^◌, ◌<◌, ◌≤◌, List, [], ◌∷◌, ◌++◌, length, slice_index, take, drop}
use Rattle.std.specs.Int.{w64, to_be_bytes}
use Rattle.cas_model.specs.declared.digest.Digest.{Digest}
use Rattle.cas_model.specs.declared.object.Object.{Object}
use Rattle.cas_model.specs.declared.place.Space.{Space}
use Rattle.cas_model.specs.declared.place.Space.TheVariants.{Objects}
use Rattle.cas_model.specs.Content.{content_size, content_places, content_bytes}
use Rattle.region_core.specs.Words.{root, width}
use Rattle.region_core.specs.Heap.{Block, Free, Table, Record, Content, Claimed}

-- a slot names a subtrie, which lies in the arena
abbrev pub NamesTableAt : List ℕ → ℕ → ℕ → Type 0
NamesTableAt words slot table = (slice_index words slot ≡ 4 * table + 2) × (520 ≤ table) × (table + 16 ≤ length words)

-- a slot names a record, which lies in the arena
abbrev pub NamesRecordAt : List ℕ → ℕ → ℕ → Type 0
NamesRecordAt words slot place = (slice_index words slot ≡ 4 * place + 1) × (520 ≤ place) × (place + 5 ≤ length words)

-- the indexes, the last one first, lead from the root to a table
abbrev pub Leads : List ℕ → Space → List ℕ → ℕ → Type 0
Leads words space [] table = table ≡ root space
Leads words space (j ∷ above) table = (upper : ℕ) × Leads words space above upper × (j < width above) × NamesTableAt words (upper + j) table

-- a slot of a table, with the indexes that lead to the table, and its own
abbrev pub IsSlot : List ℕ → Space → List ℕ → ℕ → ℕ → Type 0
IsSlot words space above j slot = (table : ℕ) × Leads words space above table × (j < width above) × (slot ≡ table + j)

-- a record that a slot of a trie names
abbrev pub IsRecordOf : List ℕ → Space → ℕ → Type 0
IsRecordOf words space place = (above : List ℕ) × (j : ℕ) × (slot : ℕ) × IsSlot words space above j slot × NamesRecordAt words slot place

-- the digest in the first four words of a record
unfoldable pub digest_there : List ℕ → ℕ → Digest
digest_there words place = record {
  bytes =
      to_be_bytes w64 (slice_index words place) ++ to_be_bytes w64 (slice_index words (place + 1))
      ++ to_be_bytes w64 (slice_index words (place + 2)) ++ to_be_bytes w64 (slice_index words (place + 3));
}

-- the cell of a record
abbrev pub cell_there : List ℕ → ℕ → ℕ
cell_there words place = slice_index words (place + 4)

-- a record whose cell is filled
abbrev pub IsFilledOf : List ℕ → Space → ℕ → Type 0
IsFilledOf words space place = IsRecordOf words space place × (cell_there words place ≢ 0)

-- the length that the head of a content tells
abbrev pub length_told : ℕ → ℕ
length_told head = content_size (head / 2 ^ 32) (head % 2 ^ 32)

-- the words of the content at a place
unfoldable pub content_there : List ℕ → ℕ → List ℕ
content_there words place = take (length_told (slice_index words place)) (drop place words)

-- the content that an object's cell names
abbrev pub IsContentOf : List ℕ → ℕ → ℕ → Type 0
IsContentOf words owner place = IsFilledOf words Objects owner × (place ≡ cell_there words owner)

-- the digests of the records at these places
abbrev pub digests_there : List ℕ → List ℕ → List Digest
digests_there words [] = []
digests_there words (n ∷ ns) = digest_there words n ∷ digests_there words ns

-- the object whose content is at a place
abbrev pub object_there : List ℕ → ℕ → Object
object_there words place = record {
  refs = digests_there words (content_places (content_there words place));
  «data» = content_bytes (content_there words place);
}

-- the block that is named at a place
abbrev pub IsNamed : List ℕ → ℕ → Block → Type 0
IsNamed words place Free = ⊥
IsNamed words place (Table space above) = Leads words space above place
IsNamed words place (Record space digest cell) = IsRecordOf words space place × (digest ≡ (digest_there words place).bytes) × (cell ≡ cell_there words place)
IsNamed words place (Content owner content) = IsContentOf words owner place × (content ≡ content_there words place)
IsNamed words place (Claimed written) = ⊥
