-- The two highest generations: the primary, and the upstream below it.
use Rattle.std.specs.Prelude.{◌≡◌, ℕ, ◌<◌, ◌≤◌, true, List, Some, None, unwrap_or, Contains}
use Rattle.std.specs.declared.option.Option.{Option}
use Rattle.std.specs.FinMap as fin
use Rattle.cas_outside.specs.Folder.{Files}
use Rattle.generations.specs.GenerationNames.{generation_name, IsNameOf}

-- the highest number below the bound with the property, and none where there is no such number
abbrev pub IsHighestBelow : (ℕ → Type 0) → ℕ → Option ℕ → Type 0
IsHighestBelow P bound None = (n : ℕ) → n < bound → P n → ⊥
IsHighestBelow P bound (Some n) = P n × (n < bound) × ((m : ℕ) → m < bound → P m → m ≤ n)

-- the highest number with the property, and the highest below it
pub record AreTwoHighest (P : ℕ → Type 0) (primary upstream : Option ℕ) : Type 0 where
  pub primary_is : IsHighestBelow P 4294967296 primary
  pub upstream_is : IsHighestBelow P (unwrap_or primary 0) upstream

-- a name in the list is that of the generation with this number
abbrev pub IsListed : List (List ℕ) → ℕ → Type 0
IsListed names number = (name : List ℕ) × Contains names name × IsNameOf number name

-- the files have the generation with this number
pub record HasGeneration (files : Files) (number : ℕ) : Type 0 where
  pub least : 1 ≤ number
  pub most : number ≤ 4294967295
  pub there : fin.contains_key files (generation_name number) ≡ true

-- the numbers of the files' primary and upstream
abbrev pub IsChain : Files → Option ℕ → Option ℕ → Type 0
IsChain files primary upstream = AreTwoHighest (HasGeneration files) primary upstream

-- these are the numbers of the primary and the upstream, where the files are told
abbrev pub IsToldChain : Option Files → Option ℕ → Option ℕ → Type 0
IsToldChain None primary upstream = Unit {0}
IsToldChain (Some files) primary upstream = IsChain files primary upstream
