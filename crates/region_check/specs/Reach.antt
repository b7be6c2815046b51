-- The tables that a root leads to, whatever the words are.
use Rattle.std.specs.Prelude.{◌≡◌, ℕ, suc, ◌+◌, ◌*◌, ◌<◌, ◌≤◌, ◌==◌, cond, min, List, [], ◌∷◌, ◌++◌, length, slice_index_or, slice_set, ◌⊎◌, Bool, true, false}
use Rattle.cas_model.specs.declared.place.Space.{Space}
use Rattle.region_core.specs.Leads.{NamesTableAt, Leads}
use Rattle.region_core.specs.Words.{root}
use Rattle.region_check.specs.declared.reach.Table.{Table}

-- how many slots a listed table has
abbrev pub slots_of : Table → ℕ
slots_of t = cond (t.level == 0) 256 16

abbrev pub no_table : Table
no_table = record { place = 0; level = 0 }

-- the table at an index of the list
abbrev pub table_of : List Table → ℕ → Table
table_of tables k = slice_index_or tables k no_table

-- the list has a table at this place
abbrev pub Lists : List Table → ℕ → Type 0
Lists tables place = (k : ℕ) × (k < length tables) × ((table_of tables k).place ≡ place)

-- a listed table that the root leads to, with its level, which is 64 where it is deeper
pub record IsLed (words : List ℕ) (space : Space) (table : Table) : Type 0 where
  pub above : List ℕ
  pub leads : Leads words space above table.place
  pub level : table.level ≡ min (length above) 64

-- just the tables that the root leads to are listed
pub record AreTables (words : List ℕ) (space : Space) (tables : List Table) : Type 0 where
  pub only : (k : ℕ) → k < length tables → IsLed words space (table_of tables k)
  pub all : (above : List ℕ) (place : ℕ) → Leads words space above place → Lists tables place

-- ---- the search under way

abbrev pub Marked : List Bool → ℕ → Type 0
Marked marks place = slice_index_or marks place false ≡ true

abbrev pub unmarked : List Bool → ℕ
unmarked [] = 0
unmarked (true ∷ bs) = unmarked bs
unmarked (false ∷ bs) = suc (unmarked bs)

abbrev pub below : Table → ℕ → Table
below table place = record { place = place; level = min (table.level + 1) 64 }

-- one slot of a table was looked at: what it names is listed now, or there was nothing to list
abbrev pub EnteredSlot : List ℕ → Table → ℕ → List Bool → List Bool → List Table → List Table → Type 0
EnteredSlot words table index marks marks' tables tables' =
    ((t : ℕ) × NamesTableAt words (table.place + index) t × (slice_index_or marks t false ≡ false) × (marks' ≡ slice_set marks t true) × (tables' ≡ tables ++ below table t ∷ []))
    ⊎ ((marks' ≡ marks) × (tables' ≡ tables) × ((t : ℕ) → NamesTableAt words (table.place + index) t → Marked marks t))

-- the first n slots of a table were looked at
pub record Entered (words : List ℕ) (table : Table) (n : ℕ) (marks marks' : List Bool) (tables tables' : List Table) : Type 0 where
  pub long : length marks' ≡ length marks
  pub grows : (t : ℕ) → Marked marks t → Marked marks' t
  pub longer : length tables ≤ length tables'
  pub kept : (k : ℕ) → k < length tables → table_of tables' k ≡ table_of tables k
  pub new : (k : ℕ) → length tables ≤ k → k < length tables' → (j : ℕ) × (t : ℕ) × (j < n) × NamesTableAt words (table.place + j) t × (table_of tables' k ≡ below table t)
  pub listed : (t : ℕ) → Marked marks' t → Marked marks t ⊎ Lists tables' t
  pub done : (j t : ℕ) → j < n → NamesTableAt words (table.place + j) t → Marked marks' t
  pub less : 2 * unmarked marks' + length tables' ≤ 2 * unmarked marks + length tables

-- the first tables were entered
pub record Searching (words : List ℕ) (space : Space) (marks : List Bool) (tables : List Table) (next : ℕ) : Type 0 where
  pub long : length marks ≡ length words
  pub within : next ≤ length tables
  pub some : 0 < length tables
  pub first : table_of tables 0 ≡ record { place = root space; level = 0 }
  pub only : (k : ℕ) → k < length tables → IsLed words space (table_of tables k)
  pub listed : (t : ℕ) → Marked marks t → Lists tables t
  pub done : (k j t : ℕ) → k < next → j < slots_of (table_of tables k) → NamesTableAt words ((table_of tables k).place + j) t → Marked marks t
