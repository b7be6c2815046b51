-- The filled records of a trie, listed by a walk.
use Rattle.std.specs.Prelude.{◌≡◌, ◌≢◌, ℕ, ◌<◌, ◌≤◌, List, [], ◌∷◌, ◌++◌, length, ◌⊎◌}
use Rattle.cas_model.specs.declared.place.Space.{Space}
use Rattle.cas_model.specs.Trie.{path}
use Rattle.region_core.specs.Heap.{Block, Table, Record, Laid, memory_of}
use Rattle.region_core.specs.Words.{width}

-- the list has the item
abbrev pub IsIn : {X : Type 0} → X → List X → Type 0
IsIn x [] = ⊥
IsIn x (y ∷ ys) = (y ≡ x) ⊎ IsIn x ys

-- no number twice
abbrev pub AreApart : List ℕ → Type 0
AreApart [] = Unit {0}
AreApart (p ∷ ps) = (IsIn p ps → ⊥) × AreApart ps

-- a filled record whose digest begins with the indexes
pub record IsFilledUnder (heap : ℕ → Block) (space : Space) (indexes : List ℕ) (place : ℕ) : Type 0 where
  pub digest : List ℕ
  pub cell : ℕ
  pub here : heap place ≡ Record space digest cell
  pub filled : cell ≢ 0
  pub begins : path digest (length indexes) ≡ indexes

-- the filled records under a table's slots below an index
pub record IsFilledBelow (heap : ℕ → Block) (space : Space) (indexes : List ℕ) (n place : ℕ) : Type 0 where
  pub index : ℕ
  pub low : index < n
  pub under : IsFilledUnder heap space (index ∷ indexes) place

-- a list with just the filled records under the first n slots, each once
pub record HasBelow (heap : ℕ → Block) (space : Space) (indexes : List ℕ) (n : ℕ) (places : List ℕ) : Type 0 where
  pub only : (p : ℕ) → IsIn p places → IsFilledBelow heap space indexes n p
  pub has : (p : ℕ) → IsFilledBelow heap space indexes n p → IsIn p places
  pub apart : AreApart places

-- a list with just the filled records whose digests begin with the indexes, each once
pub record HasUnder (heap : ℕ → Block) (space : Space) (indexes : List ℕ) (places : List ℕ) : Type 0 where
  pub only : (p : ℕ) → IsIn p places → IsFilledUnder heap space indexes p
  pub has : (p : ℕ) → IsFilledUnder heap space indexes p → IsIn p places
  pub apart : AreApart places

-- what a walk of a table adds to the list
pub record Gathered (heap : ℕ → Block) (space : Space) (indexes : List ℕ) (before after : List ℕ) : Type 0 where
  pub places : List ℕ
  pub is : after ≡ before ++ places
  pub under : HasUnder heap space indexes places

pub record GatheredBelow (heap : ℕ → Block) (space : Space) (indexes : List ℕ) (n : ℕ) (before after : List ℕ) : Type 0 where
  pub places : List ℕ
  pub is : after ≡ before ++ places
  pub below : HasBelow heap space indexes n places

abbrev pub Gathers : List ℕ → ℕ → ℕ → List ℕ → List ℕ → Type 0
Gathers words table slots before after =
    (heap : ℕ → Block) (space : Space) (indexes : List ℕ) → Laid heap (memory_of words) (length words) → heap table ≡ Table space indexes → slots ≡ width indexes → Gathered heap space indexes before after

abbrev pub GathersBelow : List ℕ → ℕ → ℕ → ℕ → List ℕ → List ℕ → Type 0
GathersBelow words table slots n before after =
    (heap : ℕ → Block) (space : Space) (indexes : List ℕ) → Laid heap (memory_of words) (length words) → heap table ≡ Table space indexes → slots ≡ width indexes → GatheredBelow heap space indexes n before after

-- some labelling has a table of so many slots at this place, at this level
pub record HasTable (words : List ℕ) (table slots level : ℕ) : Type 0 where
  pub heap : ℕ → Block
  pub space : Space
  pub indexes : List ℕ
  pub laid : Laid heap (memory_of words) (length words)
  pub here : heap table ≡ Table space indexes
  pub wide : slots ≡ width indexes
  pub deep : length indexes ≡ level
  pub short : length words ≤ 67108864

-- a slot of it
pub record HasSlot (words : List ℕ) (table index level : ℕ) : Type 0 where
  pub heap : ℕ → Block
  pub space : Space
  pub indexes : List ℕ
  pub laid : Laid heap (memory_of words) (length words)
  pub here : heap table ≡ Table space indexes
  pub within : index < width indexes
  pub deep : length indexes ≡ level
  pub short : length words ≤ 67108864

-- what a walk of a slot adds
abbrev pub GathersSlot : List ℕ → ℕ → ℕ → List ℕ → List ℕ → Type 0
GathersSlot words table index before after =
    (heap : ℕ → Block) (space : Space) (indexes : List ℕ) → Laid heap (memory_of words) (length words) → heap table ≡ Table space indexes → index < width indexes → Gathered heap space (index ∷ indexes) before after

-- the filled records of a trie, each once
abbrev pub AreFilled : List ℕ → Space → List ℕ → Type 0
AreFilled words space places = (heap : ℕ → Block) → Laid heap (memory_of words) (length words) → HasUnder heap space [] places
