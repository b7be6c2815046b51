-- The folder of the system as contracts see it: its files are not told.
use Rattle.std.specs.Prelude.{◌≡◌, ℕ, Bool, true, false, None, is_some, option_map, string_bytes}
use Rattle.std.specs.declared.result.Result.{Result}
use Rattle.std.specs.declared.result.Result.TheVariants.{Ok, Err}
use Rattle.cas_outside.specs.declared.folder.FolderError.{FolderError}
use Rattle.cas_outside.specs.declared.folder.FolderError.TheVariants.{Failed, Memory}
use Rattle.cas_outside.specs.declared.os_folder.OsState.{OsState}
use Rattle.cas_outside.specs.Folder.{FolderView}
use Rattle.cas_outside.specs.Plan.{next}

abbrev pub os_view : OsState → FolderView
os_view s = record { files = None; asked = option_map (λ dir. string_bytes dir) s.asked; entered = s.entered; locked = is_some s.lock; faults = s.faults; held = s.held; changes = s.changes }

-- one fault more where the answer is one
abbrev pub faults_after : {T : Type 0} → ℕ → Result T FolderError → ℕ
faults_after n (Ok x) = n
faults_after n (Err Failed) = next n
faults_after n (Err Memory) = n

-- one time held more where the answer is that it is held
abbrev pub held_after : ℕ → Result Bool FolderError → ℕ
held_after n (Ok true) = n
held_after n (Ok false) = next n
held_after n (Err e) = n

-- the counts after a call: of its faults, and these of times held and changes
pub record CountsAs {T : Type 0} (held changes : ℕ) (old new : FolderView) (result : Result T FolderError) : Type 0 where
  pub faults : new.faults ≡ faults_after old.faults result
  pub held_is : new.held ≡ held
  pub changes_are : new.changes ≡ changes

-- the answer is what was done, and a fault is counted where it is one
pub record CountsFault {T : Type 0} (old new : OsState) (done result : Result T FolderError) : Type 0 where
  pub answer : result ≡ done
  pub is : new ≡ record old { faults = faults_after old.faults done }
