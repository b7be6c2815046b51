-- A byte for each word: whether it is a slot (1) or an object's cell (2), and whether a block with it was seen (4).
use Rattle.std.specs.Prelude.{◌≡◌, ℕ, ◌+◌, ◌/◌, ◌%◌, ◌<◌, ◌≤◌, List, length, slice_index, ◌↔◌, ◌⊎◌}
use Rattle.cas_model.specs.declared.place.Space.{Space}
use Rattle.cas_model.specs.declared.place.Space.TheVariants.{Objects}
use Rattle.region_core.specs.Leads.{NamesRecordAt, IsRecordOf}
use Rattle.region_check.specs.declared.reach.Table.{Table}
use Rattle.region_check.specs.Flaws.{IsSlotOf}
use Rattle.region_check.specs.Reach.{slots_of, table_of}

abbrev pub IsSlotRole : List ℕ → ℕ → Type 0
IsSlotRole roles w = slice_index roles w % 2 ≡ 1

abbrev pub IsCellRole : List ℕ → ℕ → Type 0
IsCellRole roles w = slice_index roles w / 2 % 2 ≡ 1

abbrev pub IsClaimed : List ℕ → ℕ → Type 0
IsClaimed roles w = 4 ≤ slice_index roles w

-- the word is the cell of an object's record
abbrev pub IsCellOf : List ℕ → ℕ → Type 0
IsCellOf words w = (r : ℕ) × IsRecordOf words Objects r × (w ≡ r + 4)

-- just the slots and the objects' cells have their roles
pub record AreRoles (words roles : List ℕ) : Type 0 where
  pub long : length roles ≡ length words
  pub small : (w : ℕ) → slice_index roles w < 8
  pub slots : (w : ℕ) → IsSlotRole roles w ↔ ((s : Space) × IsSlotOf words s w)
  pub cells : (w : ℕ) → IsCellRole roles w ↔ IsCellOf words w

-- no word was seen in a block yet
abbrev pub AreUnclaimed : List ℕ → Type 0
AreUnclaimed roles = (w : ℕ) → slice_index roles w < 4

-- slots and cells were given their roles
pub record Adds (before after : List ℕ) (S C : ℕ → Type 0) : Type 0 where
  pub long : length after ≡ length before
  pub small : AreUnclaimed after
  pub slots : (w : ℕ) → IsSlotRole after w ↔ (IsSlotRole before w ⊎ S w)
  pub cells : (w : ℕ) → IsCellRole after w ↔ (IsCellRole before w ⊎ C w)

-- the cell of the object's record that a slot names
abbrev pub NamesCell : List ℕ → Space → ℕ → ℕ → Type 0
NamesCell words s slot w = (s ≡ Objects) × ((r : ℕ) × NamesRecordAt words slot r × (w ≡ r + 4))

-- the first slots of a table, and the cells that they name
abbrev pub TableSlot : Table → ℕ → ℕ → Type 0
TableSlot table n w = (j : ℕ) × (j < n) × (w ≡ table.place + j)

abbrev pub TableCell : List ℕ → Space → Table → ℕ → ℕ → Type 0
TableCell words s table n w = (j : ℕ) × (j < n) × NamesCell words s (table.place + j) w

-- those of the first listed tables
abbrev pub TrieSlot : List Table → ℕ → ℕ → Type 0
TrieSlot tables n w = (k : ℕ) × (k < n) × TableSlot (table_of tables k) (slots_of (table_of tables k)) w

abbrev pub TrieCell : List ℕ → Space → List Table → ℕ → ℕ → Type 0
TrieCell words s tables n w = (k : ℕ) × (k < n) × TableCell words s (table_of tables k) (slots_of (table_of tables k)) w
