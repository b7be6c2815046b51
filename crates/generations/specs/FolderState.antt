-- The state of a folder: that of its primary over that of its upstream.
use Rattle.std.specs.Prelude.{◌≡◌, ℕ, List, Some, None}
use Rattle.std.specs.declared.option.Option.{Option}
use Rattle.std.specs.FinMap as fin
use Rattle.cas_model.specs.State.{State, empty_state, over}
use Rattle.cas_outside.specs.Folder.{Files}
use Rattle.image_file.specs.Image.{image_bytes}
use Rattle.region_core.specs.Stands.{AreWords, Stands}
use Rattle.generations.specs.Chain.{IsChain}
use Rattle.generations.specs.GenerationNames.{generation_name}

-- the generation's file is the image of words that stand for the state
pub record HasState (files : Files) (number : ℕ) (state : State) : Type 0 where
  pub words : List ℕ
  pub size : ℕ
  pub file : fin.get files (generation_name number) ≡ Some (image_bytes words)
  pub words_are : AreWords words
  pub stands : Stands words size state

-- the state of a generation, the empty one where there is none
abbrev pub IsStateOf : Files → Option ℕ → State → Type 0
IsStateOf files None state = state ≡ empty_state
IsStateOf files (Some number) state = HasState files number state

-- the states of the primary and of the upstream. An absent one is empty
pub record HasChain (files : Files) (primary upstream : State) : Type 0 where
  pub primary_number : Option ℕ
  pub upstream_number : Option ℕ
  pub numbers : IsChain files primary_number upstream_number
  pub primary_is : IsStateOf files primary_number primary
  pub upstream_is : IsStateOf files upstream_number upstream

-- the visible state: all that the primary has, and what it lacks from the upstream
pub record FolderState (files : Files) (state : State) : Type 0 where
  pub primary : State
  pub upstream : State
  pub chain : HasChain files primary upstream
  pub is : state ≡ over primary upstream

-- each image of the chain that is there is that of words that stand for a state
abbrev pub Readable : Files → Type 0
Readable files = (state : State) × FolderState files state
