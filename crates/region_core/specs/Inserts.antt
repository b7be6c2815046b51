-- How a record is put into a trie, level by level.
use Rattle.std.specs.Prelude.{◌≡◌, ◌≢◌, ℕ, suc, ◌+◌, ◌*◌, ◌<◌, ◌≤◌, List, [], ◌∷◌, ◌++◌, length, slice_index, ◌⊎◌, Some, None}
use Rattle.std.specs.declared.option.Option.{Option}
use Rattle.cas_model.specs.declared.digest.Digest.{Digest}
use Rattle.cas_model.specs.declared.place.Space.{Space}
use Rattle.cas_model.specs.State.{Member}
use Rattle.cas_model.specs.Trie.{path, index_of, sharing, new_subtries}
use Rattle.region_core.specs.declared.insertion.BuildError.{BuildError}
use Rattle.region_core.specs.declared.insertion.BuildError.TheVariants as errors
use Rattle.cas_model.specs.Claims.{record_claims}
use Rattle.region_core.specs.Claims.{Refuses}
use Rattle.region_core.specs.Heap.{Block, Free, Table, Record, Content, Claimed, Laid, memory_of}
use Rattle.region_core.specs.Holds.{IsRecord, IsAbsent}
use Rattle.region_core.specs.Words.{words_of}

-- words that hold blocks
pub record Region (words : List ℕ) : Type 0 where
  pub heap : ℕ → Block
  pub laid : Laid heap (memory_of words) (length words)

-- the words that no claim gave
abbrev pub SameHead : List ℕ → List ℕ → Type 0
SameHead before after = (i : ℕ) → i < 8 → slice_index after i ≡ slice_index before i

-- what a state is made of
abbrev pub IsData : Block → Type 0
IsData Free = ⊥
IsData (Table space above) = ⊥
IsData (Record space digest cell) = Unit {0}
IsData (Content owner words) = Unit {0}
IsData (Claimed words) = ⊥

-- the same records and contents at the same places
abbrev pub SameData : (ℕ → Block) → (ℕ → Block) → Type 0
SameData before after = (p : ℕ) (b : Block) → IsData b → (before p ≡ b → after p ≡ b) × (after p ≡ b → before p ≡ b)

-- the same but for one place
abbrev pub SameDataBut : (ℕ → Block) → (ℕ → Block) → ℕ → Type 0
SameDataBut before after at = (p : ℕ) (b : Block) → IsData b → (before p ≡ b → after p ≡ b) × (after p ≡ b → p ≢ at → before p ≡ b)

-- no table moves
abbrev pub TablesStay : (ℕ → Block) → (ℕ → Block) → Type 0
TablesStay before after = (p : ℕ) (s : Space) (above : List ℕ) → before p ≡ Table s above → after p ≡ Table s above

-- the subtries that a digest needs at the levels from 1 to n begin behind its record, the lowest level first
abbrev pub SubtriesBehind : (ℕ → Block) → Space → List Digest → Digest → ℕ → ℕ → Type 0
SubtriesBehind heap space known digest place n =
    (level : ℕ) → level < n → sharing known digest (suc level) ≡ 1 → heap (place + 5 + 16 * new_subtries known digest level) ≡ Table space (path digest.bytes (suc level))

-- no digest twice
abbrev pub AreDistinct : List Digest → Type 0
AreDistinct [] = Unit {0}
AreDistinct (d ∷ ds) = (Member d ds → ⊥) × AreDistinct ds

-- just these digests have records
pub record HasJust (heap : ℕ → Block) (space : Space) (known : List Digest) : Type 0 where
  pub on : (d : Digest) → Member d known → (p : ℕ) × IsRecord heap space d.bytes p
  pub back : (d : List ℕ) (p c : ℕ) → heap p ≡ Record space d c → Member (record { bytes = d }) known
  pub distinct : AreDistinct known

-- a record whose digest begins with the indexes
pub record IsUnder (heap : ℕ → Block) (space : Space) (indexes : List ℕ) (place : ℕ) : Type 0 where
  pub digest : List ℕ
  pub cell : ℕ
  pub here : heap place ≡ Record space digest cell
  pub begins : path digest (length indexes) ≡ indexes

pub record TwoUnder (heap : ℕ → Block) (space : Space) (indexes : List ℕ) : Type 0 where
  pub one : ℕ
  pub two : ℕ
  pub other : one ≢ two
  pub under_one : IsUnder heap space indexes one
  pub under_two : IsUnder heap space indexes two

-- below each subtrie are two records, so that none is there in vain
abbrev pub IsTight : (ℕ → Block) → Type 0
IsTight heap = (t j : ℕ) (s : Space) (above : List ℕ) → heap t ≡ Table s (j ∷ above) → TwoUnder heap s (j ∷ above)

-- a record, and the digest that is put in, down to this level
pub record OneUnder (heap : ℕ → Block) (space : Space) (digest : List ℕ) (level : ℕ) (s : Space) (indexes : List ℕ) : Type 0 where
  pub place : ℕ
  pub same : s ≡ space
  pub under : IsUnder heap space indexes place
  pub begins : path digest (length indexes) ≡ indexes
  pub high : length indexes ≤ level

-- the same while a digest is put in
abbrev pub IsTightFor : (ℕ → Block) → Space → List ℕ → ℕ → Type 0
IsTightFor heap space digest level = (t j : ℕ) (s : Space) (above : List ℕ) → heap t ≡ Table s (j ∷ above) → TwoUnder heap s (j ∷ above) ⊎ OneUnder heap space digest level s (j ∷ above)

-- before a digest is put in
pub record IsReady (heap : ℕ → Block) (known : List Digest) (words : List ℕ) (space : Space) (digest : Digest) : Type 0 where
  pub laid : Laid heap (memory_of words) (length words)
  pub absent : IsAbsent heap space digest.bytes
  pub known_are : HasJust heap space known
  pub tight : IsTight heap

-- on the way to a digest's slot
pub record Descent (heap : ℕ → Block) (known : List Digest) (words : List ℕ) (space : Space) (digest : Digest) (level table own : ℕ) : Type 0 where
  pub after : ℕ → Block
  pub laid : Laid after (memory_of words) (length words)
  pub here : after table ≡ Table space (path digest.bytes level)
  pub mine : after own ≡ Claimed (words_of digest.bytes ++ 0 ∷ [])
  pub same : SameData heap after
  pub tables : TablesStay heap after
  pub subtries : SubtriesBehind after space known digest own level
  pub tight : IsTightFor after space digest.bytes level
  pub grown : length words ≡ own + 5 + 16 * new_subtries known digest level

-- words with one more record
pub record Inserted (heap : ℕ → Block) (known : List Digest) (words : List ℕ) (space : Space) (digest : Digest) (place : ℕ) : Type 0 where
  pub after : ℕ → Block
  pub laid : Laid after (memory_of words) (length words)
  pub here : after place ≡ Record space digest.bytes 0
  pub same : SameDataBut heap after place
  pub tables : TablesStay heap after
  pub subtries : SubtriesBehind after space known digest place 62
  pub tight : IsTight after
  pub grown : length words ≡ place + 5 + 16 * new_subtries known digest 62

-- some words with a digest on its way
pub record Way (words : List ℕ) (digest : Digest) (level table : ℕ) : Type 0 where
  pub heap : ℕ → Block
  pub known : List Digest
  pub first : List ℕ
  pub space : Space
  pub own : ℕ
  pub ready : IsReady heap known first space digest
  pub descent : Descent heap known words space digest level table own

-- a step of every such descent
abbrev pub Descends : List ℕ → List ℕ → Digest → ℕ → ℕ → ℕ → Type 0
Descends before after digest level table next =
    (heap : ℕ → Block) (known : List Digest) (first : List ℕ) (space : Space) (own : ℕ) → IsReady heap known first space digest → Descent heap known before space digest level table own → Descent heap known after space digest (level + 1) next own

abbrev pub Stepped : List ℕ → List ℕ → Digest → ℕ → ℕ → Option ℕ → Type 0
Stepped before after digest level table (Some next) = Descends before after digest level table next
Stepped before after digest level table None = (after ≡ before) × (slice_index before (table + index_of digest.bytes level) ≡ 0)

-- one claim is refused
abbrev pub RefusesClaim : ℕ → ℕ → ℕ → BuildError → Type 0
RefusesClaim at asked size (errors.Full full) = (full ≡ record { at = at; asked = asked; size = size }) × (size < at + asked)
RefusesClaim at asked size errors.Memory = Unit {0}

-- a step's claim is refused, at a slot that holds a record
abbrev pub RefusesStep : List ℕ → Digest → ℕ → ℕ → ℕ → BuildError → Type 0
RefusesStep words digest level table size (errors.Full full) =
    (full ≡ record { at = length words; asked = 16; size = size }) × (size < length words + 16) × ((r : ℕ) × (slice_index words (table + index_of digest.bytes level) ≡ 4 * r + 1))
RefusesStep words digest level table size errors.Memory = Unit {0}

abbrev pub Inserts : List ℕ → List ℕ → Space → Digest → ℕ → Type 0
Inserts before after space digest place =
    (heap : ℕ → Block) (known : List Digest) → IsReady heap known before space digest → Inserted heap known after space digest place

abbrev pub RefusesInsert : List ℕ → ℕ → Space → Digest → BuildError → Type 0
RefusesInsert before size space digest error =
    (heap : ℕ → Block) (known : List Digest) → IsReady heap known before space digest → Refuses size (length before) (record_claims known digest) error

-- a digest can be put in
pub record CanInsert (words : List ℕ) (space : Space) (digest : Digest) : Type 0 where
  pub heap : ℕ → Block
  pub known : List Digest
  pub ready : IsReady heap known words space digest
