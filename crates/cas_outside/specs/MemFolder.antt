-- A folder in memory.
use Rattle.std.specs.Prelude.{◌≡◌, ℕ, ◌+◌, List, [], ◌∷◌, ◌++◌, Bool, true, false, Some, None, ◌||◌, not, count_by, codes, nat_eq}
use Rattle.std.specs.declared.option.Option.{Option}
use Rattle.std.specs.declared.result.Result.{Result}
use Rattle.std.specs.declared.result.Result.TheVariants.{Ok, Err}
use Rattle.std.specs.Cmp.Lexicographic.{pointwise}
use Rattle.cas_outside.specs.declared.folder.FolderError.{FolderError}
use Rattle.cas_outside.specs.declared.folder.FolderError.TheVariants.{Failed, Memory}
use Rattle.cas_outside.specs.declared.folder_record.FolderCall.{FolderCall}
use Rattle.cas_outside.specs.declared.folder_record.FolderCall.TheVariants.{Enter, TryLock}
use Rattle.cas_outside.specs.declared.folder_record.Outcome.TheVariants.{Done, Held, Fault}
use Rattle.cas_outside.specs.declared.folder_record.FolderStep.{FolderStep}
use Rattle.cas_outside.specs.declared.folder_record.FolderStep.TheVariants.{Made}
use Rattle.cas_outside.specs.Folder.{FolderView, Files}
use Rattle.cas_outside.specs.FolderRecord.{files_of_steps, is_call, is_fault, is_held}
use Rattle.cas_outside.specs.Plan.{is_planned, next}

-- what a folder in memory is to contracts: its lists of calls, its past, and what its process asked for, entered and locked
pub record MemState : Type 0 where
  pub fail : List ℕ
  pub hold : List ℕ
  pub steps : List FolderStep
  pub asked : Option (List ℕ)
  pub entered : Bool
  pub locked : Bool
  -- how often a replacement or a removal was asked for
  pub changes : ℕ

-- the files are those that the steps leave, and the counts of faults and times held are those of the steps
abbrev pub mem_folder_view : MemState → FolderView
mem_folder_view s = record {
  files = Some (files_of_steps s.steps);
  asked = s.asked;
  entered = s.entered;
  locked = s.locked;
  faults = count_by is_fault s.steps;
  held = count_by is_held s.steps;
  changes = s.changes;
}

-- a folder with these lists to which nothing was done
abbrev pub fresh_folder : List ℕ → List ℕ → MemState
fresh_folder fail hold = record { fail = fail; hold = hold; steps = []; asked = None; entered = false; locked = false; changes = 0 }

-- the files that the folder tells
abbrev pub mem_files : MemState → Files
mem_files s = files_of_steps s.steps

-- the number of the next call, counted from 1
abbrev pub next_call : MemState → ℕ
next_call s = count_by is_call s.steps + 1

-- whether the next call fails
abbrev pub fails_next : MemState → Bool
fails_next s = is_planned s.fail (next_call s)

-- whether the next call finds the lock held, where it is one that takes the lock
abbrev pub holds_next : MemState → Bool
holds_next s = is_planned s.hold (next_call s)

-- the same folder with one more step in its record
abbrev pub with_step : MemState → FolderStep → MemState
with_step s step = record s { steps = s.steps ++ step ∷ [] }

-- the call failed exactly where its number is listed, and the record grew by it; where it found no memory all is as before
abbrev pub AnswersAs : {T : Type 0} → FolderCall → MemState → MemState → Result T FolderError → Type 0
AnswersAs call old new (Ok x) = (fails_next old ≡ false) × (new ≡ with_step old (Made call Done))
AnswersAs call old new (Err Failed) = (fails_next old ≡ true) × (new ≡ with_step old (Made call Fault))
AnswersAs call old new (Err Memory) = new ≡ old

-- the same of `replace` and `remove`, which raise the count of changes in any case
abbrev pub ChangesAs : FolderCall → MemState → MemState → Result (Unit {0}) FolderError → Type 0
ChangesAs call old new result = AnswersAs call (record old { changes = next old.changes }) new result

-- the same of `enter`, which was asked for the folder also where it failed
abbrev pub EntersAs : List ℕ → MemState → MemState → Result (Unit {0}) FolderError → Type 0
EntersAs dir old new (Ok x) = (fails_next old ≡ false) × (new ≡ record (with_step old (Made Enter Done)) { asked = Some dir; entered = true })
EntersAs dir old new (Err Failed) = (fails_next old ≡ true) × (new ≡ record (with_step old (Made Enter Fault)) { asked = Some dir })
EntersAs dir old new (Err Memory) = new ≡ old

-- the same of `try_lock`, which finds the lock held exactly where its number is listed and it is made without the lock
abbrev pub LocksAs : MemState → MemState → Result Bool FolderError → Type 0
LocksAs old new (Ok true) = (fails_next old ≡ false) × ((old.locked || not (holds_next old)) ≡ true) × (new ≡ record (with_step old (Made TryLock Done)) { locked = true })
LocksAs old new (Ok false) = (fails_next old ≡ false) × ((old.locked || not (holds_next old)) ≡ false) × (new ≡ with_step old (Made TryLock Held))
LocksAs old new (Err Failed) = (fails_next old ≡ true) × (new ≡ with_step old (Made TryLock Fault))
LocksAs old new (Err Memory) = new ≡ old

-- the process has ended: the files, the lists and the record stay
abbrev pub left_folder : MemState → MemState
left_folder s = record s { asked = None; entered = false; locked = false }

-- a name that is not one of the folder's own two
abbrev pub is_free_name : List ℕ → Bool
is_free_name name = not (pointwise nat_eq name (codes "lock") || pointwise nat_eq name (codes "tmp"))
