-- What the removal of the generations that no command reads leaves, and what it tells.
use Rattle.std.specs.Prelude.{◌≡◌, ℕ, ◌⊎◌, List, [], ◌∷◌, ◌++◌, true, Some, codes}
use Rattle.std.specs.Fmt.{decimal}
use Rattle.std.specs.declared.result.Result.TheVariants.{Ok, Err}
use Rattle.cas_outside.specs.Causes.{Rose}
use Rattle.cas_outside.specs.Folder.{FolderView}
use Rattle.generations.specs.declared.saving.SaveError.TheVariants as save
use Rattle.generations.specs.Pruning.{Prunes}
use Rattle.cas_command.specs.declared.answer.Answer.{Answer}
use Rattle.cas_command.specs.declared.answer.Answer.TheVariants.{FolderFault, Held, NoMemory}
use Rattle.cas_command.specs.declared.output.Output.{Output}
use Rattle.cas_command.specs.Opening.{IsOnlyOpened}
use Rattle.cas_command.specs.Output.{IsText}

-- the line that tells how many generations were removed
abbrev pub pruned_line : ℕ → List ℕ
pruned_line count = codes "pruned " ++ decimal count ++ 10 ∷ []

-- ---- the lock

-- the folder was entered and locked, and no file changed
pub record HasEntered (dir : List ℕ) (old new : FolderView) : Type 0 where
  pub only : IsOnlyOpened dir old new
  pub asked : new.asked ≡ Some dir
  pub entered : new.entered ≡ true
  pub locked : new.locked ≡ true

-- why it was not. Want of memory is free
abbrev pub EnterCause : FolderView → FolderView → Answer → Type 0
EnterCause old new FolderFault = Rose old.faults new.faults
EnterCause old new Held = Rose old.held new.held
EnterCause old new NoMemory = Unit {0}
EnterCause old new answer = ⊥

pub record EnteringStops (dir : List ℕ) (old new : FolderView) (answer : Answer) : Type 0 where
  pub only : IsOnlyOpened dir old new
  pub cause : EnterCause old new answer

-- ---- the removal

-- the folder was entered and locked, its unused generations were removed, and the text tells how many there were
pub record PrunePrepares (dir : List ℕ) (old new : FolderView) (output : Output) : Type 0 where
  pub between : FolderView
  pub enters : HasEntered dir old between
  pub count : ℕ
  pub prunes : Prunes between new (Ok count)
  pub is : IsText (pruned_line count) output

-- the removal stopped at a fault or for want of memory, or was done and its text found no memory
abbrev pub PruneCause : FolderView → FolderView → Answer → Type 0
PruneCause old new FolderFault = Prunes old new (Err save.FolderFault)
PruneCause old new NoMemory = Prunes old new (Err save.Memory) ⊎ ((count : ℕ) × Prunes old new (Ok count))
PruneCause old new answer = ⊥

pub record StopsPruning (dir : List ℕ) (old new : FolderView) (answer : Answer) : Type 0 where
  pub between : FolderView
  pub enters : HasEntered dir old between
  pub cause : PruneCause between new answer

-- no file changed, or some unused generations are gone and nothing else
abbrev pub PruneRefuses : List ℕ → FolderView → FolderView → Answer → Type 0
PruneRefuses dir old new answer = EnteringStops dir old new answer ⊎ StopsPruning dir old new answer
