-- The least word that lies in two blocks.
use Rattle.std.specs.Prelude.{◌≡◌, ◌≢◌, ℕ, ◌+◌, ◌<◌, ◌≤◌, List, length, slice_index, ◌⊎◌, Some, None}
use Rattle.std.specs.declared.option.Option.{Option}
use Rattle.region_check.specs.Flaws.{Naming, BySlot, ByCell, Covers, LiesIn, BadLength}
use Rattle.region_check.specs.Roles.{IsClaimed}
use Rattle.region_check.specs.Shown.{LeastWhere}

-- the words from one place to another were not seen in a block, and now they are
pub record MarkedRun (before after : List ℕ) (at stop : ℕ) : Type 0 where
  pub long : length after ≡ length before
  pub same : (w : ℕ) → (w < at) ⊎ (stop ≤ w) → slice_index after w ≡ slice_index before w
  pub more : (w : ℕ) → at ≤ w → w < stop → (slice_index before w < 4) × (slice_index after w ≡ slice_index before w + 4)

-- all of a block, or up to a word that was seen in another
abbrev pub BlockMarked : List ℕ → List ℕ → ℕ → ℕ → Option ℕ → Type 0
BlockMarked before after at size None = MarkedRun before after at (at + size)
BlockMarked before after at size (Some stop) = MarkedRun before after at stop × (at ≤ stop) × (stop < at + size) × IsClaimed before stop

-- a naming was looked at: it names a block, which was marked, or it names none
abbrev pub OneSwept : List ℕ → Naming → List ℕ → List ℕ → Option ℕ → Type 0
OneSwept words x before after stop =
    ((at size : ℕ) × Covers words x at size × BlockMarked before after at size stop)
    ⊎ ((after ≡ before) × (stop ≡ None) × ((at size : ℕ) → Covers words x at size → ⊥))

-- an object's cell was looked at: the content that it names was marked, or is too long and was left out
abbrev pub CellSwept : List ℕ → ℕ → List ℕ → List ℕ → Option ℕ → Type 0
CellSwept words cell before after stop = OneSwept words (ByCell cell) before after stop ⊎ ((after ≡ before) × ((p : ℕ) × BadLength words p))

-- the namings at the places below one
abbrev pub IsBefore : ℕ → Naming → Type 0
IsBefore n (BySlot slot) = slot < n
IsBefore n (ByCell cell) = cell < n

-- a word lies in two of the blocks that were looked at
abbrev pub SharedOf : List ℕ → (Naming → Type 0) → ℕ → Type 0
SharedOf words D w = (x y : Naming) × (x ≢ y) × D x × D y × LiesIn words x w × LiesIn words y w

abbrev pub IsBelow : ℕ → Option ℕ → Type 0
IsBelow w None = Unit {0}
IsBelow w (Some m) = w < m

-- some namings were looked at, and the least word in two of their blocks is known
pub record Swept (words : List ℕ) (D : Naming → Type 0) (roles : List ℕ) (least : Option ℕ) : Type 0 where
  pub marked : (x : Naming) (w : ℕ) → D x → LiesIn words x w → IsBelow w least → IsClaimed roles w
  pub from : (w : ℕ) → IsClaimed roles w → (x : Naming) × D x × LiesIn words x w
  pub least_is : LeastWhere (SharedOf words D) least
