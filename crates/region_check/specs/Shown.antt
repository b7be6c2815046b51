-- The flaws that one slot shows.
use Rattle.std.specs.Prelude.{◌≡◌, ◌≢◌, ℕ, ◌+◌, ◌<◌, ◌≤◌, min, List, length, slice_index, ◌⊎◌, None, Some}
use Rattle.std.specs.declared.option.Option.{Option}
use Rattle.cas_model.specs.declared.digest.Digest.{Digest}
use Rattle.cas_model.specs.declared.place.Space.{Space}
use Rattle.cas_model.specs.declared.place.Space.TheVariants.{Objects, Actions}
use Rattle.cas_model.specs.Object.{object_digest}
use Rattle.cas_model.specs.Trie.{path, index_of}
use Rattle.region_core.specs.Leads.{NamesTableAt, NamesRecordAt, Leads, IsFilledOf, digest_there, cell_there, object_there}
use Rattle.region_check.specs.declared.least.Leasts.{Leasts}
use Rattle.region_check.specs.declared.least.Rows.{Rows}
use Rattle.region_check.specs.declared.reach.Table.{Table}
use Rattle.region_check.specs.declared.slot_flaws.Row.{Row}
use Rattle.region_check.specs.declared.slot_flaws.Row.TheVariants as rows
use Rattle.region_check.specs.Flaws.{IsNoSlot, NamesOutside, IsCellOutside, IsTooLong, IsStray, IsReferenceWord, IsReached}
use Rattle.region_check.specs.Passes.{HasNoneBefore}
use Rattle.region_check.specs.Reach.{slots_of, table_of, AreTables}
use Rattle.region_check.specs.Roles.{AreRoles}

-- the least number of which something holds
pub record IsLeastWhere (P : ℕ → Type 0) (n : ℕ) : Type 0 where
  pub here : P n
  pub least : (m : ℕ) → P m → n ≤ m

-- the least number of which something holds, or none where it holds of none
abbrev pub LeastWhere : (ℕ → Type 0) → Option ℕ → Type 0
LeastWhere P None = (n : ℕ) → P n → ⊥
LeastWhere P (Some n) = IsLeastWhere P n

-- a digest leads to a slot, at a level from 0 to 62
abbrev pub LeadsTo : List ℕ → Space → Digest → ℕ → Type 0
LeadsTo words s d slot = (level : ℕ) × (level ≤ 62) × (t : ℕ) × Leads words s (path d.bytes level) t × (slot ≡ t + index_of d.bytes level)

-- the flaws of a content
abbrev pub ContentShown : List ℕ → Row → ℕ → ℕ → ℕ → Type 0
ContentShown words rows.Length r c p = (p ≡ c) × IsTooLong words c
ContentShown words rows.Padding r c p = IsStray words c p
ContentShown words rows.Reference r c p = IsReferenceWord words c p × (IsFilledOf words Objects (slice_index words p) → ⊥)
ContentShown words rows.Order r c p = IsReferenceWord words c p × (c ≤ cell_there words (slice_index words p))
ContentShown words rows.Digest r c p = (p ≡ r) × (digest_there words r ≢ object_digest (object_there words c))
ContentShown words row r c p = ⊥

-- a slot of level 62 that names a table
abbrev pub DeepShown : List ℕ → ℕ → ℕ → Type 0
DeepShown words level slot = (level ≡ 62) × ((t : ℕ) × NamesTableAt words slot t)

-- a slot of level 63 at most that names a record which its digest does not lead to
abbrev pub AstrayShown : List ℕ → Space → ℕ → ℕ → Type 0
AstrayShown words s level slot = (level ≤ 63) × ((r : ℕ) × NamesRecordAt words slot r × (LeadsTo words s (digest_there words r) slot → ⊥))

-- the flaws that a slot of a table shows, in a trie and at a level
abbrev pub Shown : List ℕ → Row → Space → ℕ → ℕ → ℕ → Type 0
Shown words rows.Slot s level slot p = (p ≡ slot) × IsNoSlot (slice_index words slot)
Shown words rows.Range s level slot p =
    ((p ≡ slot) × NamesOutside words slot) ⊎ ((s ≡ Objects) × ((r : ℕ) × NamesRecordAt words slot r × (p ≡ r + 4) × IsCellOutside words p))
Shown words rows.Path s level slot p = (p ≡ slot) × (DeepShown words level slot ⊎ AstrayShown words s level slot)
Shown words rows.Value s level slot p =
    (s ≡ Actions) × ((r : ℕ) × NamesRecordAt words slot r × (p ≡ r + 4) × (slice_index words p ≢ 0) × (IsFilledOf words Objects (slice_index words p) → ⊥))
Shown words row s level slot p = ⊥

-- what a slot of the listed tables shows
abbrev pub TableShown : List ℕ → Row → Space → Table → ℕ → ℕ → Type 0
TableShown words row s table n p = (j : ℕ) × (j < n) × Shown words row s table.level (table.place + j) p

abbrev pub TrieShown : List ℕ → Row → Space → List Table → ℕ → ℕ → Type 0
TrieShown words row s tables n p = (k : ℕ) × (k < n) × TableShown words row s (table_of tables k) (slots_of (table_of tables k)) p

-- what both tries show
abbrev pub BothShown : List ℕ → Row → List Table → List Table → ℕ → Type 0
BothShown words row objects actions p = TrieShown words row Objects objects (length objects) p ⊎ TrieShown words row Actions actions (length actions) p

-- what the content shows that a word names which is the cell of an object's record
abbrev pub CellShown : List ℕ → Row → ℕ → ℕ → Type 0
CellShown words row cell p = (r c : ℕ) × (cell ≡ r + 4) × IsReached words r c × ContentShown words row r c p

-- what the contents show that the first words name
abbrev pub CellsShown : List ℕ → Row → ℕ → ℕ → Type 0
CellsShown words row n p = (cell : ℕ) × (cell < n) × CellShown words row cell p

-- the rows whose flaws contents show
abbrev pub IsOfContents : Row → Type 0
IsOfContents rows.Length = Unit {0}
IsOfContents rows.Padding = Unit {0}
IsOfContents rows.Reference = Unit {0}
IsOfContents rows.Order = Unit {0}
IsOfContents rows.Digest = Unit {0}
IsOfContents row = ⊥

-- what must be known before a row is looked for
abbrev pub IsReadyFor : List ℕ → List ℕ → Row → Type 0
IsReadyFor words roles rows.Reference = AreRoles words roles
IsReadyFor words roles rows.Value = AreRoles words roles
IsReadyFor words roles rows.Digest = HasNoneBefore words 10
IsReadyFor words roles row = Unit {0}

abbrev pub AreReadyFor : List ℕ → List ℕ → Rows → Type 0
AreReadyFor words roles three = IsReadyFor words roles three.first × IsReadyFor words roles three.second × IsReadyFor words roles three.third

-- the least number for each of three rows of which something of that row holds
pub record LeastOfEach (P : Row → ℕ → Type 0) (three : Rows) (leasts : Leasts) : Type 0 where
  pub first : LeastWhere (P three.first) leasts.first
  pub second : LeastWhere (P three.second) leasts.second
  pub third : LeastWhere (P three.third) leasts.third

-- the lower one of two numbers, of those that there are
abbrev pub lower_of : Option ℕ → Option ℕ → Option ℕ
lower_of None other = other
lower_of (Some a) None = Some a
lower_of (Some a) (Some b) = Some (min a b)

-- the tables of both tries
pub record AreTries (words : List ℕ) (objects actions : List Table) : Type 0 where
  pub objects_are : AreTables words Objects objects
  pub actions_are : AreTables words Actions actions

-- the turn of a row
abbrev pub turn_of : Row → ℕ
turn_of rows.Slot = 3
turn_of rows.Range = 4
turn_of rows.Length = 5
turn_of rows.Path = 7
turn_of rows.Padding = 8
turn_of rows.Reference = 9
turn_of rows.Order = 10
turn_of rows.Digest = 11
turn_of rows.Value = 12
