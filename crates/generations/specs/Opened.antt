-- What opening a folder gives, and what each refusal says.
use Rattle.std.specs.Prelude.{◌≡◌, ◌≢◌, ◌⊎◌, ℕ, List, Bool, true, false, Some, None, is_some}
use Rattle.std.specs.declared.option.Option.{Option}
use Rattle.std.specs.FinMap as fin
use Rattle.cas_model.specs.State.{State}
use Rattle.cas_model.specs.Tables.{empty_start}
use Rattle.cas_outside.specs.Causes.{Rose}
use Rattle.cas_outside.specs.Folder.{Files, FolderView, HasName, Later}
use Rattle.cas_outside.specs.declared.folder.FolderError.{FolderError}
use Rattle.cas_outside.specs.declared.folder.FolderError.TheVariants as folder
use Rattle.frozen_store.specs.Seen.{FrozenSeen, IsSeen}
use Rattle.image_file.specs.Image.{image_bytes, RefusesImage}
use Rattle.image_file.specs.declared.error.ImageError.{ImageError}
use Rattle.image_file.specs.declared.error.ImageError.TheVariants as image
use Rattle.region_core.specs.Builds.{empty_region}
use Rattle.generations.specs.declared.opening.OpenError.{OpenError}
use Rattle.generations.specs.declared.opening.OpenError.TheVariants.{Held, FolderFault, Damaged, Memory}
use Rattle.generations.specs.declared.opening.Opened.{Opened}
use Rattle.generations.specs.Chain.{IsToldChain}
use Rattle.generations.specs.FolderState.{HasState}
use Rattle.generations.specs.GenerationNames.{generation_name}

-- a folder's error as one of opening
abbrev pub open_error_of : FolderError → OpenError
open_error_of folder.Failed = FolderFault
open_error_of folder.Memory = Memory

-- ---- one generation

-- the generation's file is the image of these words, where the files are told
abbrev pub HasImage : Option Files → ℕ → List ℕ → Type 0
HasImage None number words = Unit {0}
HasImage (Some files) number words = fin.get files (generation_name number) ≡ Some (image_bytes words)

-- the generation was read: its words stand for a state, and its file is their image
pub record IsRead (files : Option Files) (number : ℕ) (frozen : FrozenSeen) : Type 0 where
  pub seen : IsSeen frozen
  pub image : HasImage files number frozen.words

-- the generation's file is the image of words that stand for a state, where the files are told
abbrev pub IsReadable : Option Files → ℕ → Type 0
IsReadable None number = Unit {0}
IsReadable (Some files) number = (state : State) × HasState files number state

-- the generation's file is no image, for this reason
pub record IsDamaged (files : Files) (number : ℕ) (error : ImageError) : Type 0 where
  pub file : List ℕ
  pub there : fin.get files (generation_name number) ≡ Some file
  pub refused : RefusesImage file error
  pub named : error ≢ image.Memory

-- the same, where the files are told
abbrev pub HasDamage : Option Files → ℕ → ImageError → Type 0
HasDamage None number error = error ≢ image.Memory
HasDamage (Some files) number error = IsDamaged files number error

-- the refusal of a generation's image as an error of opening
abbrev pub refusal_of : ℕ → ImageError → OpenError
refusal_of number image.Memory = Memory
refusal_of number error = Damaged number error

-- ---- the folder

-- nothing changes but the lock, which stays where it is held, and the counts of faults and times held
pub record Opens (old new : FolderView) : Type 0 where
  pub later : Later old new
  pub kept : old.locked ≡ true → new.locked ≡ true
  pub is : new ≡ record old { locked = new.locked; faults = new.faults; held = new.held }

-- a number that is there, or none
abbrev pub numbered : Bool → ℕ → Option ℕ
numbered true number = Some number
numbered false number = None

-- the number of the primary, where it has a file
abbrev pub primary_number : Opened → Option ℕ
primary_number opened = numbered opened.has_file opened.number

-- the number of the upstream, where there is one
abbrev pub upstream_number : Opened → Option ℕ
upstream_number opened = numbered (is_some opened.up) opened.up_number

-- a folder without generations opens as this
pub record IsFresh (size : ℕ) (opened : Opened) : Type 0 where
  pub seen : IsSeen opened.primary
  pub first : opened.number ≡ 1
  pub no_file : opened.has_file ≡ false
  pub words : opened.primary.words ≡ empty_region size
  pub tables : opened.primary.tables ≡ empty_start size
  pub no_upstream : opened.up ≡ None
  pub no_number : opened.up_number ≡ 0

-- the upstream was read from its file, where there is one
abbrev pub HasUpstream : Option Files → ℕ → Option FrozenSeen → Type 0
HasUpstream files number None = number ≡ 0
HasUpstream files number (Some frozen) = IsRead files number frozen

-- the primary was read from its file, and so was the upstream
pub record HasPrimary (files : Option Files) (opened : Opened) : Type 0 where
  pub read : IsRead files opened.number opened.primary
  pub upstream : HasUpstream files opened.up_number opened.up

-- what was opened, by whether the primary has a file
abbrev pub OpensTo : Bool → Option Files → ℕ → Opened → Type 0
OpensTo true files size opened = HasPrimary files opened
OpensTo false files size opened = IsFresh size opened

-- the two highest generations were opened, under the lock
pub record IsOpened (size : ℕ) (old new : FolderView) (opened : Opened) : Type 0 where
  pub locked : new.locked ≡ true
  pub chain : IsToldChain old.files (primary_number opened) (upstream_number opened)
  pub to : OpensTo opened.has_file old.files size opened

-- ---- errors

-- the lock was found held by another
pub record IsHeld (old new : FolderView) : Type 0 where
  pub rose : Rose old.held new.held
  pub free : old.locked ≡ false
  pub still : new.locked ≡ false

-- the generation is damaged. It is the primary, or the upstream of a primary that is not
pub record IsRefused (files : Option Files) (number : ℕ) (error : ImageError) : Type 0 where
  pub primary : ℕ
  pub upstream : Option ℕ
  pub chain : IsToldChain files (Some primary) upstream
  pub which : (number ≡ primary) ⊎ (IsReadable files primary × (upstream ≡ Some number))
  pub damage : HasDamage files number error

-- the cause of each error. Want of memory is free
abbrev pub OpenFails : FolderView → FolderView → OpenError → Type 0
OpenFails old new Held = IsHeld old new
OpenFails old new FolderFault = Rose old.faults new.faults
OpenFails old new (Damaged name error) = (new.locked ≡ true) × IsRefused old.files name error
OpenFails old new Memory = Unit {0}

-- the same under the lock
abbrev pub ChainFails : FolderView → FolderView → OpenError → Type 0
ChainFails old new Held = ⊥
ChainFails old new FolderFault = Rose old.faults new.faults
ChainFails old new (Damaged name error) = IsRefused old.files name error
ChainFails old new Memory = Unit {0}

-- why a generation was not read
abbrev pub ReadFails : FolderView → FolderView → ℕ → OpenError → Type 0
ReadFails old new number Held = ⊥
ReadFails old new number FolderFault = Rose old.faults new.faults
ReadFails old new number (Damaged name error) = (name ≡ number) × HasDamage old.files number error
ReadFails old new number Memory = Unit {0}

-- ---- the upstream on its way

-- the upstream's file is there, where there is an upstream
abbrev pub UpstreamIsThere : Option Files → Option ℕ → Type 0
UpstreamIsThere files None = Unit {0}
UpstreamIsThere files (Some number) = HasName files (generation_name number)

-- the upstream was read, where there is one
abbrev pub ReadsUpstream : Option Files → Option ℕ → Option FrozenSeen → Type 0
ReadsUpstream files None up = up ≡ None
ReadsUpstream files (Some number) None = ⊥
ReadsUpstream files (Some number) (Some frozen) = IsRead files number frozen

-- why it was not
abbrev pub UpstreamFails : FolderView → FolderView → Option ℕ → OpenError → Type 0
UpstreamFails old new None error = ⊥
UpstreamFails old new (Some number) error = ReadFails old new number error
