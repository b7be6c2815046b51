-- What a labelling has to do with the tables of a run.
use Rattle.std.specs.Prelude.{◌≡◌, ◌↔◌, ℕ, zero, suc, List, [], ◌∷◌, Some, None}
use Rattle.std.specs.declared.option.Option.{Option}
use Rattle.cas_model.specs.declared.digest.Digest.{Digest}
use Rattle.cas_model.specs.declared.place.Place.{Place}
use Rattle.cas_model.specs.declared.place.Space.{Space}
use Rattle.cas_model.specs.declared.tables.Cell.{Cell}
use Rattle.cas_model.specs.declared.tables.Content as contents
use Rattle.cas_model.specs.declared.tables.Record as rows
use Rattle.cas_model.specs.Tables.{Tables, place_of, record_at, cell_of, words_at}
use Rattle.region_core.specs.Heap.{Block, Free, Table, Record, Content, Claimed}
use Rattle.region_core.specs.Holds.{IsRecord}

abbrev pub row : Space → List ℕ → ℕ → rows.Record
row space digest place = record { space = space; digest = record { bytes = digest }; place = record { at = place } }

-- the row of a record that begins at a place
abbrev pub row_in : ℕ → Block → Option rows.Record
row_in p Free = None
row_in p (Table space above) = None
row_in p (Record space digest cell) = Some (row space digest p)
row_in p (Content owner words) = None
row_in p (Claimed words) = None

-- the cell of a record, and 0 of another block
abbrev pub cell_in : Block → ℕ
cell_in Free = 0
cell_in (Table space above) = 0
cell_in (Record space digest cell) = cell
cell_in (Content owner words) = 0
cell_in (Claimed words) = 0

-- the words of a content
abbrev pub words_in : Block → Option (List ℕ)
words_in Free = None
words_in (Table space above) = None
words_in (Record space digest cell) = None
words_in (Content owner words) = Some words
words_in (Claimed words) = None

-- each look-up in the tables is what the block at the place says
pub record Goes (heap : ℕ → Block) (t : Tables) : Type 0 where
  pub places : (s : Space) (d : Digest) (p : Place) → (place_of t.bound s d ≡ Some p) ↔ IsRecord heap s d.bytes p.at
  pub rows : (p : ℕ) → record_at t.bound p ≡ row_in p (heap p)
  pub cells : (p : ℕ) → cell_of t.filled p ≡ cell_in (heap p)
  pub blocks : (p : ℕ) → words_at t.blocks p ≡ words_in (heap p)

-- ---- the tables of a labelling

abbrev pub add_row : Option rows.Record → List rows.Record → List rows.Record
add_row None rs = rs
add_row (Some r) rs = r ∷ rs

-- the rows of the records that begin below a place
abbrev pub rows_below : (ℕ → Block) → ℕ → List rows.Record
rows_below heap zero = []
rows_below heap (suc n) = add_row (row_in n (heap n)) (rows_below heap n)

abbrev pub add_cell : ℕ → ℕ → List Cell → List Cell
add_cell p zero cs = cs
add_cell p (suc value) cs = record { of = record { at = p }; value = suc value } ∷ cs

-- the filled cells of the records that begin below a place
abbrev pub cells_below : (ℕ → Block) → ℕ → List Cell
cells_below heap zero = []
cells_below heap (suc n) = add_cell n (cell_in (heap n)) (cells_below heap n)

abbrev pub add_content : ℕ → Option (List ℕ) → List contents.Content → List contents.Content
add_content p None cs = cs
add_content p (Some words) cs = record { place = p; words = words } ∷ cs

-- the contents that begin below a place
abbrev pub contents_below : (ℕ → Block) → ℕ → List contents.Content
contents_below heap zero = []
contents_below heap (suc n) = add_content n (words_in (heap n)) (contents_below heap n)

-- the tables of a labelling of so many words, in which no call has a block
unfoldable pub tables_of : (ℕ → Block) → ℕ → ℕ → Tables
tables_of heap n size = record { size = size; counter = n; given = n; bound = rows_below heap n; filled = cells_below heap n; blocks = contents_below heap n; claims = [] }
