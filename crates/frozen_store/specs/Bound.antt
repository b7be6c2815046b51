-- The records that closed words have under digests, whether or not their cells are filled, and those that their tables
-- bind.
use Rattle.std.specs.Prelude.{◌≡◌, ◌↔◌, ℕ, ◌≤◌, List, Some}
use Rattle.cas_model.specs.declared.digest.Digest.{Digest}
use Rattle.cas_model.specs.declared.place.Place.{Place}
use Rattle.cas_model.specs.declared.place.Space.{Space}
use Rattle.cas_model.specs.Primary.{cell_under}
use Rattle.cas_model.specs.Tables.{place_of}
use Rattle.cas_model.specs.Trie.{path, index_of}
use Rattle.region_core.specs.Leads.{NamesRecordAt, IsSlot, IsRecordOf, cell_there, digest_there}
use Rattle.frozen_store.specs.Seen.{FrozenSeen}

-- a slot of the trie names a record at the place, and the record has this digest. Its cell may be empty
abbrev pub HasRecordAt : List ℕ → Space → Digest → ℕ → Type 0
HasRecordAt words space digest place = IsRecordOf words space place × (digest_there words place ≡ digest)

-- the slot that names the record lies where the digest leads, one index a level, from the root on
abbrev pub IsOnPath : List ℕ → Space → Digest → ℕ → Type 0
IsOnPath words space digest place =
    (level : ℕ) × (slot : ℕ) × (level ≤ 62) × IsSlot words space (path digest.bytes level) (index_of digest.bytes level) slot × NamesRecordAt words slot place

-- a digest is bound to a place just where the words have its record there
abbrev pub BindsItsRecords : FrozenSeen → Type 0
BindsItsRecords seen = (space : Space) (d : Digest) (p : Place) → (place_of seen.tables.bound space d ≡ Some p) ↔ HasRecordAt seen.words space d p.at

-- each record that is bound lies on the path of its digest
abbrev pub BindsOnPaths : FrozenSeen → Type 0
BindsOnPaths seen = (space : Space) (d : Digest) (p : Place) → place_of seen.tables.bound space d ≡ Some p → IsOnPath seen.words space d p.at

-- the cell of a record that is bound is the word that the words have there, and 0 where that is 0
abbrev pub BindsWithCells : FrozenSeen → Type 0
BindsWithCells seen = (space : Space) (d : Digest) (p : Place) → place_of seen.tables.bound space d ≡ Some p → cell_under seen.tables space d ≡ cell_there seen.words p.at
