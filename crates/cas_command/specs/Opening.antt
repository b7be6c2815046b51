-- What opening the folder leaves.
use Rattle.std.specs.Prelude.{◌≡◌, ℕ, ◌⊎◌, List, true, Some}
use Rattle.cas_outside.specs.Causes.{Rose}
use Rattle.cas_outside.specs.Folder.{FolderView, Later}
use Rattle.generations.specs.declared.opening.OpenError.{OpenError}
use Rattle.generations.specs.declared.opening.OpenError.TheVariants as error
use Rattle.generations.specs.declared.opening.Opened.{Opened}
use Rattle.generations.specs.Opened.{IsOpened, IsRefused}
use Rattle.cas_command.specs.declared.answer.Answer.{Answer}
use Rattle.cas_command.specs.declared.answer.Answer.TheVariants.{FolderFault, Damaged, Held, NoMemory}

-- no file changed, and no other folder was asked for than this one
pub record IsOnlyOpened (dir : List ℕ) (old new : FolderView) : Type 0 where
  pub later : Later old new
  pub asked : (new.asked ≡ old.asked) ⊎ (new.asked ≡ Some dir)
  pub is : new ≡ record old { asked = new.asked; entered = new.entered; locked = new.locked; faults = new.faults; held = new.held }

-- the folder was entered and locked, and its generations were read
pub record HasOpened (dir : List ℕ) (size : ℕ) (old new : FolderView) (opened : Opened) : Type 0 where
  pub only : IsOnlyOpened dir old new
  pub asked : new.asked ≡ Some dir
  pub entered : new.entered ≡ true
  pub is : IsOpened size old new opened

-- why it was not. Want of memory is free
abbrev pub OpenCause : FolderView → FolderView → Answer → Type 0
OpenCause old new FolderFault = Rose old.faults new.faults
OpenCause old new Held = Rose old.held new.held
OpenCause old new (Damaged name error) = IsRefused old.files name error
OpenCause old new NoMemory = Unit {0}
OpenCause old new answer = ⊥

pub record OpeningStops (dir : List ℕ) (old new : FolderView) (answer : Answer) : Type 0 where
  pub only : IsOnlyOpened dir old new
  pub cause : OpenCause old new answer

-- ---- on the way

-- the answer where the folder was not opened
abbrev pub open_answer : OpenError → Answer
open_answer error.Held = Held
open_answer error.FolderFault = FolderFault
open_answer (error.Damaged name why) = Damaged name why
open_answer error.Memory = NoMemory
