-- The record of a folder in memory: the files that its steps leave, and how often what happened.
use Rattle.std.specs.Prelude.{List, Bool, true, false}
use Rattle.std.specs.List.{fold}
use Rattle.std.specs.FinMap as fin
use Rattle.cas_outside.specs.declared.folder_record.FolderCall.{FolderCall}
use Rattle.cas_outside.specs.declared.folder_record.FolderCall.TheVariants.{Replace, Remove}
use Rattle.cas_outside.specs.declared.folder_record.Outcome.TheVariants.{Done, Held, Fault}
use Rattle.cas_outside.specs.declared.folder_record.FolderStep.{FolderStep}
use Rattle.cas_outside.specs.declared.folder_record.FolderStep.TheVariants.{Put, Made}
use Rattle.cas_outside.specs.Folder.{Files}

-- the files after a call that was done
abbrev pub files_done : Files → FolderCall → Files
files_done files (Replace name bytes) = fin.insert files name bytes
files_done files (Remove name) = fin.remove files name
files_done files _ = files

-- the files after a step: a call that was not done changes none
abbrev pub files_after : Files → FolderStep → Files
files_after files (Put name bytes) = fin.insert files name bytes
files_after files (Made call Done) = files_done files call
files_after files (Made call _) = files

-- the files that the steps leave, one after the other, where there were none
abbrev pub files_of_steps : List FolderStep → Files
files_of_steps steps = fold files_after fin.empty steps

abbrev pub is_call : FolderStep → Bool
is_call (Put name bytes) = false
is_call (Made call outcome) = true

-- a call that failed
abbrev pub is_fault : FolderStep → Bool
is_fault (Made call Fault) = true
is_fault _ = false

-- a call that found the lock held
abbrev pub is_held : FolderStep → Bool
is_held (Made call Held) = true
is_held _ = false
