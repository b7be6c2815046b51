-- What pruning a folder leaves.
use Rattle.std.specs.Prelude.{◌≡◌, ◌≢◌, ℕ, ◌<◌, if◌then◌else◌, Bool, nat_eq, List, Contains, length, Some, None}
use Rattle.std.specs.Cmp.Lexicographic.{pointwise}
use Rattle.std.specs.List.{list_any}
use Rattle.std.specs.List.Sorted.{IsStrictlyIncreasing}
use Rattle.std.specs.declared.option.Option.{Option}
use Rattle.std.specs.declared.result.Result.{Result}
use Rattle.std.specs.declared.result.Result.TheVariants.{Ok, Err}
use Rattle.std.specs.FinMap as fin
use Rattle.cas_outside.specs.Causes.{Rose}
use Rattle.cas_outside.specs.Folder.{Files, FolderView, Later}
use Rattle.generations.specs.declared.saving.SaveError.{SaveError}
use Rattle.generations.specs.declared.saving.SaveError.TheVariants.{FolderFault, Memory}
use Rattle.generations.specs.Chain.{HasGeneration, IsChain}
use Rattle.generations.specs.GenerationNames.{generation_name}

-- a generation that is neither the primary nor the upstream
pub record IsUnused (files : Files) (number : ℕ) : Type 0 where
  pub there : HasGeneration files number
  pub primary : Option ℕ
  pub upstream : Option ℕ
  pub chain : IsChain files primary upstream
  pub not_primary : primary ≢ Some number
  pub not_upstream : upstream ≢ Some number

-- the numbers of all unused generations, each once, since they rise
pub record AreUnused (files : Files) (numbers : List ℕ) : Type 0 where
  pub all : (n : ℕ) → IsUnused files n → Contains numbers n
  pub only : (n : ℕ) → Contains numbers n → IsUnused files n
  pub rising : IsStrictlyIncreasing numbers

-- the numbers of unused generations, and with each all that are lower
pub record AreLowestUnused (files : Files) (numbers : List ℕ) : Type 0 where
  pub only : (n : ℕ) → Contains numbers n → IsUnused files n
  pub lowest : (n m : ℕ) → Contains numbers m → IsUnused files n → n < m → Contains numbers n

-- whether one of these generations has this name
abbrev pub is_name_among : List ℕ → List ℕ → Bool
is_name_among numbers name = list_any (λ n. pointwise nat_eq (generation_name n) name) numbers

-- the files of these generations are gone, and every other name has its old file, or none as before
abbrev pub Loses : List ℕ → Files → Files → Type 0
Loses numbers old new = (name : List ℕ) → fin.get new name ≡ (if is_name_among numbers name then None else fin.get old name)

-- all unused generations are gone, and there were so many
pub record LosesAll (old new : Files) (count : ℕ) : Type 0 where
  pub numbers : List ℕ
  pub unused : AreUnused old numbers
  pub loses : Loses numbers old new
  pub counted : length numbers ≡ count

-- some unused generations are gone, the lowest, or none
pub record LosesSome (old new : Files) : Type 0 where
  pub numbers : List ℕ
  pub unused : AreLowestUnused old numbers
  pub loses : Loses numbers old new

-- ---- where the files are told. Where they are not, they are not told after the call

abbrev pub ToldLosesAll : Option Files → Option Files → ℕ → Type 0
ToldLosesAll None new count = new ≡ None
ToldLosesAll (Some old) None count = ⊥
ToldLosesAll (Some old) (Some new) count = LosesAll old new count

abbrev pub ToldLosesSome : Option Files → Option Files → Type 0
ToldLosesSome None new = new ≡ None
ToldLosesSome (Some old) None = ⊥
ToldLosesSome (Some old) (Some new) = LosesSome old new

-- ---- the call

-- all unused generations are gone; after an error some of them are, the lowest first. Where there were none, nothing was changed
abbrev pub PrunesTo : FolderView → FolderView → Result ℕ SaveError → Type 0
PrunesTo old new (Ok count) = ToldLosesAll old.files new.files count × (count ≡ 0 → new.changes ≡ old.changes)
PrunesTo old new (Err FolderFault) = ToldLosesSome old.files new.files × Rose old.faults new.faults
PrunesTo old new (Err Memory) = ToldLosesSome old.files new.files

-- nothing but the files and the counts changed
pub record Prunes (old new : FolderView) (result : Result ℕ SaveError) : Type 0 where
  pub later : Later old new
  pub is : new ≡ record old { files = new.files; faults = new.faults; held = new.held; changes = new.changes }
  pub to : PrunesTo old new result
