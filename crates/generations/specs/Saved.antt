-- What saving a generation leaves.
use Rattle.std.specs.Prelude.{◌≡◌, ℕ, ◌+◌, ◌≤◌, ◌⊎◌, List}
use Rattle.std.specs.declared.result.Result.{Result}
use Rattle.std.specs.declared.result.Result.TheVariants.{Ok, Err}
use Rattle.cas_outside.specs.Causes.{Rose, RoseByOne}
use Rattle.cas_outside.specs.Folder.{FolderView, Later, PutsFile}
use Rattle.cas_outside.specs.declared.folder.FolderError.{FolderError}
use Rattle.cas_outside.specs.declared.folder.FolderError.TheVariants as folder
use Rattle.generations.specs.declared.saving.SaveError.{SaveError}
use Rattle.generations.specs.declared.saving.SaveError.TheVariants.{FolderFault, Memory}

-- a folder's error as one of saving
abbrev pub save_error_of : FolderError → SaveError
save_error_of folder.Failed = FolderFault
save_error_of folder.Memory = Memory

-- the file with this name has these bytes, and no other file changed, where they are told. After a fault it may have its old bytes
abbrev pub SavesTo : List ℕ → List ℕ → FolderView → FolderView → Result (Unit {0}) SaveError → Type 0
SavesTo name bytes old new (Ok x) = PutsFile old.files new.files name bytes × Rose old.changes new.changes
SavesTo name bytes old new (Err FolderFault) = ((new.files ≡ old.files) ⊎ PutsFile old.files new.files name bytes) × Rose old.faults new.faults
SavesTo name bytes old new (Err Memory) = new.files ≡ old.files

-- nothing but the files and the counts changed
pub record Saves (name bytes : List ℕ) (old new : FolderView) (result : Result (Unit {0}) SaveError) : Type 0 where
  pub later : Later old new
  pub is : new ≡ record old { files = new.files; faults = new.faults; held = new.held; changes = new.changes }
  pub to : SavesTo name bytes old new result

-- the folder counted one change, and for want of memory one at most
abbrev pub ChangedOnce : FolderView → FolderView → Result (Unit {0}) SaveError → Type 0
ChangedOnce old new (Ok x) = RoseByOne old.changes new.changes
ChangedOnce old new (Err FolderFault) = RoseByOne old.changes new.changes
ChangedOnce old new (Err Memory) = new.changes ≤ old.changes + 1
