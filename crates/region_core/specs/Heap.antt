-- What lies where in the words of a region: which block begins at each place, and what the blocks' words say.
use Rattle.std.specs.Prelude.{◌≡◌, ◌≢◌, ℕ, ◌+◌, ◌*◌, ◌<◌, ◌≤◌, List, [], ◌∷◌, ◌++◌, length, slice_index, ◌⊎◌}
use Rattle.cas_model.specs.declared.place.Space.{Space}
use Rattle.cas_model.specs.declared.place.Space.TheVariants.{Objects, Actions}
use Rattle.cas_model.specs.Trie.{IsDigest, path, index_of}
use Rattle.region_core.specs.Words.{root, width, words_of}

-- what begins at a place
pub data Block : Type 0 where
  Free : Block
  Table : (space : Space) (above : List ℕ) → Block
  Record : (space : Space) (digest : List ℕ) (cell : ℕ) → Block
  Content : (record_at : ℕ) (words : List ℕ) → Block
  Claimed : (words : List ℕ) → Block

-- how many words it has
abbrev pub extent : Block → ℕ
extent Free = 0
extent (Table space above) = width above
extent (Record space digest cell) = 5
extent (Content record_at words) = length words
extent (Claimed words) = length words

-- the words that it fixes; what a table holds is said by its slots
abbrev pub fixed : Block → List ℕ
fixed Free = []
fixed (Table space above) = []
fixed (Record space digest cell) = words_of digest ++ cell ∷ []
fixed (Content record_at words) = words
fixed (Claimed words) = words

pub record Shape (heap : ℕ → Block) (counter : ℕ) : Type 0 where
  -- inside a block no other begins
  pub apart : (p q : ℕ) → p < q → q < p + extent (heap p) → extent (heap q) ≡ 0
  pub low : (p : ℕ) → 0 < extent (heap p) → 8 ≤ p
  pub high : (p : ℕ) → 0 < extent (heap p) → p + extent (heap p) ≤ counter
  pub solid : (p : ℕ) → extent (heap p) ≡ 0 → heap p ≡ Free

pub record Keeps (heap : ℕ → Block) (memory : ℕ → ℕ) (counter : ℕ) : Type 0 where
  pub held : (p i : ℕ) → i < length (fixed (heap p)) → memory (p + i) ≡ slice_index (fixed (heap p)) i
  -- what no claim has given is 0
  pub clear : (i : ℕ) → counter ≤ i → memory i ≡ 0

-- a slot word that names a record, whose digest has the indexes that lead to the slot
pub record NamesRecord (heap : ℕ → Block) (space : Space) (indexes : List ℕ) (word : ℕ) : Type 0 where
  pub place : ℕ
  pub digest : List ℕ
  pub cell : ℕ
  pub is : word ≡ 4 * place + 1
  pub here : heap place ≡ Record space digest cell
  pub leads : path digest (length indexes) ≡ indexes

-- a slot word that names the table one level down
pub record NamesTable (heap : ℕ → Block) (space : Space) (indexes : List ℕ) (word : ℕ) : Type 0 where
  pub place : ℕ
  pub is : word ≡ 4 * place + 2
  pub here : heap place ≡ Table space indexes

abbrev pub Names : (ℕ → Block) → Space → List ℕ → ℕ → Type 0
Names heap space indexes word = (word ≡ 0) ⊎ (NamesRecord heap space indexes word ⊎ NamesTable heap space indexes word)

-- the slot that names a table
pub record TableNamed (heap : ℕ → Block) (memory : ℕ → ℕ) (space : Space) (above : List ℕ) (index place : ℕ) : Type 0 where
  pub table : ℕ
  pub here : heap table ≡ Table space above
  pub within : index < width above
  pub is : memory (table + index) ≡ 4 * place + 2

-- the slot that names a record
pub record RecordNamed (heap : ℕ → Block) (memory : ℕ → ℕ) (space : Space) (digest : List ℕ) (place : ℕ) : Type 0 where
  pub level : ℕ
  pub table : ℕ
  pub here : heap table ≡ Table space (path digest level)
  pub within : index_of digest level < width (path digest level)
  pub is : memory (table + index_of digest level) ≡ 4 * place + 1

pub record Tries (heap : ℕ → Block) (memory : ℕ → ℕ) : Type 0 where
  pub roots : (space : Space) → heap (root space) ≡ Table space []
  pub only : (p : ℕ) (space : Space) → heap p ≡ Table space [] → p ≡ root space
  pub levels : (p : ℕ) (space : Space) (above : List ℕ) → heap p ≡ Table space above → length above ≤ 62
  pub slots : (p : ℕ) (space : Space) (above : List ℕ) (j : ℕ) → heap p ≡ Table space above → j < width above → Names heap space (j ∷ above) (memory (p + j))
  pub tables : (p : ℕ) (space : Space) (above : List ℕ) (j : ℕ) → heap p ≡ Table space (j ∷ above) → TableNamed heap memory space above j p
  pub records : (p : ℕ) (space : Space) (digest : List ℕ) (cell : ℕ) → heap p ≡ Record space digest cell → RecordNamed heap memory space digest p
  pub digests : (p : ℕ) (space : Space) (digest : List ℕ) (cell : ℕ) → heap p ≡ Record space digest cell → IsDigest digest

-- the content that an object's cell names
pub record CellNames (heap : ℕ → Block) (place cell : ℕ) : Type 0 where
  pub words : List ℕ
  pub here : heap cell ≡ Content place words

-- the record whose cell names a content
pub record ContentNamed (heap : ℕ → Block) (place record_at : ℕ) : Type 0 where
  pub digest : List ℕ
  pub here : heap record_at ≡ Record Objects digest place

-- the record that an action's cell names
pub record ActionNames (heap : ℕ → Block) (cell : ℕ) : Type 0 where
  pub digest : List ℕ
  pub content : ℕ
  pub here : heap cell ≡ Record Objects digest content
  pub filled : content ≢ 0

pub record Cells (heap : ℕ → Block) : Type 0 where
  pub objects : (p : ℕ) (digest : List ℕ) (cell : ℕ) → heap p ≡ Record Objects digest cell → cell ≢ 0 → CellNames heap p cell
  pub contents : (p r : ℕ) (words : List ℕ) → heap p ≡ Content r words → ContentNamed heap p r
  pub actions : (p : ℕ) (digest : List ℕ) (cell : ℕ) → heap p ≡ Record Actions digest cell → cell ≢ 0 → ActionNames heap cell

pub record Laid (heap : ℕ → Block) (memory : ℕ → ℕ) (counter : ℕ) : Type 0 where
  pub shape : Shape heap counter
  pub keeps : Keeps heap memory counter
  pub tries : Tries heap memory
  pub cells : Cells heap

abbrev pub memory_of : List ℕ → ℕ → ℕ
memory_of words i = slice_index words i
