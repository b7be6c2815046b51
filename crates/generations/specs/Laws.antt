-- What opening, saving, rotating and pruning do to the states of a folder's primary and upstream.
use Rattle.std.specs.Prelude.{◌≡◌, ℕ, ◌+◌, ◌<◌, List, Some, unwrap_or}
use Rattle.std.specs.FinMap as fin
use Rattle.cas_model.specs.Primary.{primary}
use Rattle.cas_model.specs.State.{State, empty_state}
use Rattle.cas_outside.specs.Folder.{Files, FolderView}
use Rattle.image_file.specs.Image.{image_bytes}
use Rattle.region_core.specs.Stands.{AreWords, Stands}
use Rattle.generations.specs.declared.opening.Opened.{Opened}
use Rattle.generations.specs.FolderState.{HasChain}
use Rattle.generations.specs.GenerationNames.{generation_name}
use Rattle.generations.specs.Opened.{IsOpened, primary_number, upstream_number}
use Rattle.generations.specs.Pruning.{LosesAll, LosesSome}
use Rattle.unified_cas.specs.Upstream.{upstream_state}

-- what was opened has the states and the numbers of the folder's generations
pub record ReadsChain (files : Files) (opened : Opened) : Type 0 where
  pub chain : HasChain files (primary opened.primary.tables) (upstream_state opened.up)
  pub primary_is : chain.primary_number ≡ primary_number opened
  pub upstream_is : chain.upstream_number ≡ upstream_number opened

abbrev pub OpeningReadsChain : Type 0
OpeningReadsChain = (files : Files) (size : ℕ) (old new : FolderView) (opened : Opened) → old.files ≡ Some files → IsOpened size old new opened → ReadsChain files opened

-- the states of a primary, which has a file under this number, and of the upstream
pub record HasNumberedChain (files : Files) (number : ℕ) (primary upstream : State) : Type 0 where
  pub chain : HasChain files primary upstream
  pub number_is : chain.primary_number ≡ Some number

-- the image of a state under the primary's number, or under 1 where there is none: the primary has that state, and the upstream its own
abbrev pub SavingKeepsUpstream : Type 0
SavingKeepsUpstream = (files : Files) (p u new : State) (number size : ℕ) (words : List ℕ) (chain : HasChain files p u) → unwrap_or chain.primary_number 1 ≡ number → AreWords words → Stands words size new
    → HasNumberedChain (fin.insert files (generation_name number) (image_bytes words)) number new u

-- the image of the empty state under the next number: the primary is empty, and the upstream has the state that the primary had
abbrev pub RotatingLowersPrimary : Type 0
RotatingLowersPrimary = (files : Files) (p u : State) (number size : ℕ) (words : List ℕ) (chain : HasChain files p u) → chain.primary_number ≡ Some number → number < 4294967295 → AreWords words
    → Stands words size empty_state → HasChain (fin.insert files (generation_name (number + 1)) (image_bytes words)) empty_state p

-- unused generations that are gone, all or some, leave both states
abbrev pub PruningKeepsChain : Type 0
PruningKeepsChain = (old new : Files) (p u : State) (count : ℕ) → LosesAll old new count → HasChain old p u → HasChain new p u

abbrev pub StoppedPruningKeepsChain : Type 0
StoppedPruningKeepsChain = (old new : Files) (p u : State) → LosesSome old new → HasChain old p u → HasChain new p u
