-- The blocks that words name, found from the roots down the slots, and the tables that they make.
use Rattle.std.specs.Prelude.{ℕ, zero, suc, ◌+◌, ◌/◌, ◌%◌, ◌==◌, List, [], ◌∷◌, ◌++◌, length, slice_index, cond}
use Rattle.cas_model.specs.declared.place.Space.{Space}
use Rattle.cas_model.specs.declared.place.Space.TheVariants.{Objects, Actions}
use Rattle.cas_model.specs.Tables.{Tables}
use Rattle.region_core.specs.Goes.{tables_of}
use Rattle.region_core.specs.Heap.{Block, Free, Table, Record, Content}
use Rattle.region_core.specs.Leads.{digest_there, cell_there, content_there}
use Rattle.region_core.specs.Words.{root, width}

-- a table with the indexes that lead to it, the last one first
pub record Way : Type 0 where
  pub indexes : List ℕ
  pub table : ℕ

-- the tables that the first n slots of a table name
abbrev pub ways_below : List ℕ → Way → ℕ → List Way
ways_below words way zero = []
ways_below words way (suc j) =
    cond (slice_index words (way.table + j) % 4 == 2) (record { indexes = j ∷ way.indexes; table = slice_index words (way.table + j) / 4 } ∷ ways_below words way j) (ways_below words way j)

abbrev pub all_below : List ℕ → List Way → List Way
all_below words [] = []
all_below words (way ∷ ways) = ways_below words way (width way.indexes) ++ all_below words ways

-- the tables of a trie at one level
abbrev pub ways_at : List ℕ → Space → ℕ → List Way
ways_at words space zero = record { indexes = []; table = root space } ∷ []
ways_at words space (suc level) = all_below words (ways_at words space level)

-- a block with its place
pub record Named : Type 0 where
  pub place : ℕ
  pub block : Block

-- the content that the cell of a record names
abbrev pub content_named : List ℕ → Space → ℕ → ℕ → List Named
content_named words Objects owner (suc cell) = record { place = suc cell; block = Content owner (content_there words (suc cell)) } ∷ []
content_named words Objects owner zero = []
content_named words Actions owner cell = []

-- a record, and the content that its cell names
abbrev pub record_named : List ℕ → Space → ℕ → List Named
record_named words space place = record { place = place; block = Record space (digest_there words place).bytes (cell_there words place) } ∷ content_named words space place (cell_there words place)

-- the records that the first n slots of a table name, with their contents
abbrev pub records_below : List ℕ → Space → ℕ → ℕ → List Named
records_below words space table zero = []
records_below words space table (suc j) =
    cond (slice_index words (table + j) % 4 == 1) (record_named words space (slice_index words (table + j) / 4) ++ records_below words space table j) (records_below words space table j)

-- tables, with all that their slots name but for tables
abbrev pub blocks_of : List ℕ → Space → List Way → List Named
blocks_of words space [] = []
blocks_of words space (way ∷ ways) = record { place = way.table; block = Table space way.indexes } ∷ records_below words space way.table (width way.indexes) ++ blocks_of words space ways

-- the blocks that the tables of the first n levels name
abbrev pub blocks_to : List ℕ → Space → ℕ → List Named
blocks_to words space zero = []
blocks_to words space (suc n) = blocks_of words space (ways_at words space n) ++ blocks_to words space n

-- all blocks that the words name
unfoldable pub blocks_in : List ℕ → List Named
blocks_in words = blocks_to words Objects 63 ++ blocks_to words Actions 63

-- the block that the list has at a place
abbrev pub block_at : List Named → ℕ → Block
block_at [] p = Free
block_at (x ∷ xs) p = cond (x.place == p) x.block (block_at xs p)

-- the block that the words name at a place
unfoldable pub heap_of : List ℕ → ℕ → Block
heap_of words p = block_at (blocks_in words) p

-- the tables of a run that starts from the words
unfoldable pub tables_in : List ℕ → Tables
tables_in words = tables_of (heap_of words) (length words) (slice_index words 2)
