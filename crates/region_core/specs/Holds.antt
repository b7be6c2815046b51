-- Which digests a labelling has records of.
use Rattle.std.specs.Prelude.{◌≡◌, ◌≢◌, ℕ, List, Some, None}
use Rattle.std.specs.declared.option.Option.{Option}
use Rattle.cas_model.specs.declared.place.Place.{Place}
use Rattle.cas_model.specs.declared.place.Space.{Space}
use Rattle.region_core.specs.Heap.{Block, Record}

-- the record of this digest begins at the place
abbrev pub IsRecord : (ℕ → Block) → Space → List ℕ → ℕ → Type 0
IsRecord heap space digest place = (cell : ℕ) × (heap place ≡ Record space digest cell)

-- no record is that of this digest
abbrev pub IsAbsent : (ℕ → Block) → Space → List ℕ → Type 0
IsAbsent heap space digest = (p c : ℕ) → heap p ≢ Record space digest c

-- the digest's record is at the place, or it has none
abbrev pub Looked : (ℕ → Block) → Space → List ℕ → Option Place → Type 0
Looked heap space digest None = IsAbsent heap space digest
Looked heap space digest (Some place) = IsRecord heap space digest place.at
