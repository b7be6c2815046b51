-- A folder as contracts see it, and what each of its calls does.
use Rattle.std.specs.Prelude.{◌≡◌, ℕ, ◌+◌, ◌≤◌, if◌then◌else◌, count_by, nat_eq, List, [], ◌∷◌, Bool, true, false, ◌⊎◌, Some, None, length, take, ◌&&◌, ◌||◌, nat_le, ◌==◌}
use Rattle.std.specs.declared.option.Option.{Option}
use Rattle.std.specs.declared.result.Result.{Result}
use Rattle.std.specs.declared.result.Result.TheVariants.{Ok, Err}
use Rattle.std.specs.Ordering.{nat_cmp}
use Rattle.std.specs.Cmp.Lexicographic.{slice_cmp, pointwise}
use Rattle.std.specs.List.{list_all}
use Rattle.std.specs.FinMap as fin
use Rattle.cas_outside.specs.declared.folder.FolderError.{FolderError}
use Rattle.cas_outside.specs.declared.folder.FolderError.TheVariants.{Failed, Memory}
use Rattle.cas_outside.specs.Causes.{Rose, RoseByOne}

-- files by their names
abbrev pub Files : Type 0
Files = fin.FinMap (slice_cmp nat_cmp) (List ℕ)

pub record FolderView : Type 0 where
  -- where they are told
  pub files : Option Files
  -- the path that `enter` was asked for
  pub asked : Option (List ℕ)
  pub entered : Bool
  -- whether this object holds the lock
  pub locked : Bool
  -- how often it failed
  pub faults : ℕ
  -- how often the lock was found held
  pub held : ℕ
  -- how often a file was replaced or removed
  pub changes : ℕ

-- a folder that was asked for nothing yet, tells no files and has failed at nothing
abbrev pub fresh_view : FolderView
fresh_view = record { files = None; asked = None; entered = false; locked = false; faults = 0; held = 0; changes = 0 }

-- no folder was asked for yet
abbrev pub MayEnter : FolderView → Type 0
MayEnter v = v.asked ≡ None

-- the counts never fall
pub record Later (old new : FolderView) : Type 0 where
  pub faults : old.faults ≤ new.faults
  pub held : old.held ≤ new.held
  pub changes : old.changes ≤ new.changes

-- nothing but the counts of faults and times held changes
pub record Calm (old new : FolderView) : Type 0 where
  pub later : Later old new
  pub is : new ≡ record old { faults = new.faults; held = new.held }

-- a failed call has risen the count of faults, and one that found no memory has left it
abbrev pub Fault : {T : Type 0} → FolderView → FolderView → Result T FolderError → Type 0
Fault old new (Ok x) = Unit {0}
Fault old new (Err Failed) = Rose old.faults new.faults
Fault old new (Err Memory) = new.faults ≡ old.faults

-- a call that changes no file
pub record Stays {T : Type 0} (old new : FolderView) (result : Result T FolderError) : Type 0 where
  pub calm : Calm old new
  pub fault : Fault old new result

-- what `enter` leaves
abbrev pub EntersTo : List ℕ → FolderView → FolderView → Result (Unit {0}) FolderError → Type 0
EntersTo dir old new (Ok x) = new ≡ record old { asked = Some dir; entered = true; faults = new.faults; held = new.held }
EntersTo dir old new (Err Failed) = new ≡ record old { asked = Some dir; faults = new.faults; held = new.held }
EntersTo dir old new (Err Memory) = new ≡ record old { faults = new.faults; held = new.held }

pub record Entered (dir : List ℕ) (old new : FolderView) (result : Result (Unit {0}) FolderError) : Type 0 where
  pub later : Later old new
  pub to : EntersTo dir old new result
  pub fault : Fault old new result

-- what `try_lock` leaves
abbrev pub LocksTo : FolderView → FolderView → Result Bool FolderError → Type 0
LocksTo old new (Ok true) = new ≡ record old { locked = true; faults = new.faults; held = new.held }
LocksTo old new (Ok false) = (new ≡ record old { faults = new.faults; held = new.held }) × Rose old.held new.held × (old.locked ≡ false)
LocksTo old new (Err e) = new ≡ record old { faults = new.faults; held = new.held }

pub record Locked (old new : FolderView) (result : Result Bool FolderError) : Type 0 where
  pub later : Later old new
  pub to : LocksTo old new result
  pub fault : Fault old new result

-- each name of the files stands there once, and no other name, where the files are told
abbrev pub ListsNames : Option Files → List (List ℕ) → Type 0
ListsNames None names = Unit {0}
ListsNames (Some files) names = (name : List ℕ) → count_by (λ n. pointwise nat_eq n name) names ≡ (if fin.contains_key files name then 1 else 0)

abbrev pub Listed : FolderView → List (List ℕ) → Type 0
Listed v names = ListsNames v.files names

-- a letter, a digit or a dot
abbrev pub is_name_byte : ℕ → Bool
is_name_byte b = (nat_le 97 b && nat_le b 122) || (nat_le 65 b && nat_le b 90) || (nat_le 48 b && nat_le b 57) || (b == 46)

abbrev pub begins_with_v : List ℕ → Bool
begins_with_v [] = false
begins_with_v (b ∷ bs) = b == 118

-- a name that a caller may ask for
pub record MayAsk (name : List ℕ) : Type 0 where
  pub first : begins_with_v name ≡ true
  pub short : length name ≤ 16
  pub plain : list_all is_name_byte name ≡ true

-- the files have the name, where they are told
abbrev pub HasName : Option Files → List ℕ → Type 0
HasName None name = Unit {0}
HasName (Some files) name = fin.contains_key files name ≡ true

abbrev pub HasFile : FolderView → List ℕ → Type 0
HasFile v name = HasName v.files name

-- the first bytes of the file, one more than the limit at most
abbrev pub ReadsFile : Option Files → List ℕ → ℕ → List ℕ → Type 0
ReadsFile None name most bytes = Unit {0}
ReadsFile (Some files) name most bytes = (file : List ℕ) × (fin.get files name ≡ Some file) × (bytes ≡ take (most + 1) file)

abbrev pub HasReadFile : FolderView → List ℕ → ℕ → List ℕ → Type 0
HasReadFile v name most bytes = ReadsFile v.files name most bytes

-- a folder that tells no files tells none after the call
abbrev pub PutsFile : Option Files → Option Files → List ℕ → List ℕ → Type 0
PutsFile None new name bytes = new ≡ None
PutsFile (Some old) new name bytes = new ≡ Some (fin.insert old name bytes)

abbrev pub RemovesFile : Option Files → Option Files → List ℕ → Type 0
RemovesFile None new name = new ≡ None
RemovesFile (Some old) new name = new ≡ Some (fin.remove old name)

-- what `replace` leaves
abbrev pub ReplacesTo : List ℕ → List ℕ → FolderView → FolderView → Result (Unit {0}) FolderError → Type 0
ReplacesTo name bytes old new (Ok x) = PutsFile old.files new.files name bytes
ReplacesTo name bytes old new (Err Failed) = (new.files ≡ old.files) ⊎ PutsFile old.files new.files name bytes
ReplacesTo name bytes old new (Err Memory) = new.files ≡ old.files

-- what `remove` leaves
abbrev pub RemovesTo : List ℕ → FolderView → FolderView → Result (Unit {0}) FolderError → Type 0
RemovesTo name old new (Ok x) = RemovesFile old.files new.files name
RemovesTo name old new (Err Failed) = (new.files ≡ old.files) ⊎ RemovesFile old.files new.files name
RemovesTo name old new (Err Memory) = new.files ≡ old.files

-- nothing but the files and the counts changes, and the count of changes rises by one
pub record Changes (old new : FolderView) : Type 0 where
  pub later : Later old new
  pub rose : Rose old.changes new.changes
  pub by_one : RoseByOne old.changes new.changes
  pub is : new ≡ record old { files = new.files; faults = new.faults; held = new.held; changes = new.changes }

pub record Replaced (name bytes : List ℕ) (old new : FolderView) (result : Result (Unit {0}) FolderError) : Type 0 where
  pub changes : Changes old new
  pub to : ReplacesTo name bytes old new result
  pub fault : Fault old new result

pub record Removed (name : List ℕ) (old new : FolderView) (result : Result (Unit {0}) FolderError) : Type 0 where
  pub changes : Changes old new
  pub to : RemovesTo name old new result
  pub fault : Fault old new result
