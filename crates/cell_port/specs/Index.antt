-- Maps that answer as the rows of a plain port do.
use Rattle.std.specs.Prelude.{◌≡◌, ℕ, List, ◌∷◌, cond, None, Some}
use Rattle.std.specs.declared.option.Option.{Option}
use Rattle.std.specs.BTreeMap as tree
use Rattle.std.specs.Ordering.{nat_cmp}
use Rattle.std.specs.Cmp.Lexicographic.{slice_cmp}
use Rattle.cas_model.specs.declared.digest.Digest.{Digest}
use Rattle.cas_model.specs.declared.place.Place.{Place}
use Rattle.cas_model.specs.declared.place.Space.{Space}
use Rattle.cas_model.specs.declared.place.Space.TheVariants.{Objects, Actions}
use Rattle.cas_model.specs.declared.tables.Cell.{Cell}
use Rattle.cas_model.specs.declared.tables.Record.{Record}
use Rattle.cas_model.specs.Tables.{place_of, record_at, cell_of, same_space}
use Rattle.cas_model.specs.Trie.{sharing}
use Rattle.cell_port.specs.Depth.{digests_of}
use Rattle.cell_port.specs.Needed.{bound_in}
use Rattle.cell_port.specs.declared.index.Index.{Index}
use Rattle.cell_port.specs.declared.shown.Shown.{Shown}
use Rattle.cell_port.specs.Shown.{number_at}

-- the place that the maps have for a digest
abbrev pub indexed_place : Index → Space → Digest → Option Place
indexed_place index Objects digest = tree.get (slice_cmp nat_cmp) index.objects digest.bytes
indexed_place index Actions digest = tree.get (slice_cmp nat_cmp) index.actions digest.bytes

-- the record that the maps have at a place
abbrev pub indexed_record : Index → ℕ → Option Record
indexed_record index at = tree.get nat_cmp index.records at

-- the digests that the maps have in a space, in the order of their bytes
abbrev pub indexed_digests : Index → Space → List Digest
indexed_digests index Objects = digests_of (tree.keys index.objects)
indexed_digests index Actions = digests_of (tree.keys index.actions)

-- as many digests of each space share each level with each digest
abbrev pub HasAsMany : Index → Index → Type 0
HasAsMany index other = (space : Space) (digest : Digest) (level : ℕ) → sharing (indexed_digests other space) digest level ≡ sharing (indexed_digests index space) digest level

-- with the digest of a record there are as many
abbrev pub HasOneMore : Index → Index → Record → Type 0
HasOneMore index more r = (space : Space) (digest : Digest) (level : ℕ) → sharing (indexed_digests more space) digest level
    ≡ sharing (cond (same_space r.space space) (r.digest ∷ indexed_digests index space) (indexed_digests index space)) digest level

-- the maps answer as the rows of bound digests do
pub record IndexesBound (index : Index) (bound : List Record) : Type 0 where
  pub places : (space : Space) → (digest : Digest) → indexed_place index space digest ≡ place_of bound space digest
  pub records : (at : ℕ) → indexed_record index at ≡ record_at bound at
  pub digests : (space : Space) (digest : Digest) (level : ℕ) → sharing (indexed_digests index space) digest level ≡ sharing (bound_in space bound) digest level

-- a value, 0 where there is none
abbrev pub value_or_0 : Option ℕ → ℕ
value_or_0 None = 0
value_or_0 (Some value) = value

-- the map answers as the rows of filled cells do
abbrev pub IndexesCells : tree.BTreeMap ℕ ℕ → List Cell → Type 0
IndexesCells values filled = (at : ℕ) → value_or_0 (tree.get nat_cmp values at) ≡ cell_of filled at

-- the number at a place, none where the place has none or is kept free
abbrev pub number_or_none : Option (Option ℕ) → Option ℕ
number_or_none None = None
number_or_none (Some number) = number

-- the map answers as the list of what a run published does
abbrev pub NumbersShown : tree.BTreeMap ℕ (Option ℕ) → List Shown → Type 0
NumbersShown numbers shown = (at : ℕ) → number_or_none (tree.get nat_cmp numbers at) ≡ number_at shown at
