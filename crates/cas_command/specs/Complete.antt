-- What a run answers where nothing fails.
use Rattle.std.specs.Prelude.{◌⊎◌, List, None, Some, String}
use Rattle.std.specs.declared.alloc.Global.{Global}
use Rattle.std.specs.declared.option.Option.{Option}
use Rattle.cas_outside.specs.Causes.{Rose}
use Rattle.cas_outside.specs.Folder.{Files}
use Rattle.generations.specs.FolderState.{Readable}
use Rattle.cas_command.specs.declared.answer.Answer.{Answer}
use Rattle.cas_command.specs.declared.answer.Answer.TheVariants.{Done, Missing, Full, Poisoned, Dangling, BadScript, TooLarge, NoMemory}
use Rattle.cas_command.specs.declared.answer.Large.TheVariants.{Data, Script}
use Rattle.command_line.specs.declared.command.Command.{Command}
use Rattle.command_line.specs.declared.command.Command.TheVariants.{Make, CatNodeData, LsNodeRefs, PutCacheKey, GetCacheResult}
use Rattle.command_line.specs.declared.command.Request.{Request}
use Rattle.command_line.specs.declared.command.Task.{Task}
use Rattle.command_line.specs.declared.command.Task.TheVariants.{Once, Batch}
use Rattle.cas_command.specs.Run.{World, WordsRefused}
use Rattle.command_line.specs.Words.{Reads}

-- no count of faults rose, nor that of the times the lock was found held
pub record IsQuiet (before after : World) : Type 0 where
  pub source : Rose before.outside.source.faults after.outside.source.faults → ⊥
  pub sink : Rose before.sink.faults after.sink.faults → ⊥
  pub folder : Rose before.outside.folder.faults after.outside.folder.faults → ⊥
  pub held : Rose before.outside.folder.held after.outside.folder.held → ⊥

-- the files are told, and those of the primary and the upstream, where they are there, are images of words that stand for states
abbrev pub IsReadable : Option Files → Type 0
IsReadable None = ⊥
IsReadable (Some files) = Readable files

-- what the one reply of a command's call may give in place of a text: `Full`, where there is no room for the call, and else as the call asks
abbrev pub MayRefuse : Command → Answer → Type 0
MayRefuse command (Full full) = Unit {0}
MayRefuse (Make refs) (Dangling index digest) = Unit {0}
MayRefuse (CatNodeData digest) (Missing wanted) = Unit {0}
MayRefuse (LsNodeRefs digest) (Missing wanted) = Unit {0}
MayRefuse (PutCacheKey key value) (Poisoned wanted kept) = Unit {0}
MayRefuse (PutCacheKey key value) (Dangling index digest) = Unit {0}
MayRefuse (GetCacheResult key) (Missing wanted) = Unit {0}
MayRefuse command answer = ⊥

-- what a task may answer then: its output, what the one reply of a call gives, that the input is too large or no script, or want of memory
abbrev pub MayAnswer : Task → Answer → Type 0
MayAnswer task Done = Unit {0}
MayAnswer task NoMemory = Unit {0}
MayAnswer (Once (Make refs)) (TooLarge Data number) = Unit {0}
MayAnswer (Once command) (Missing digest) = MayRefuse command (Missing digest)
MayAnswer (Once command) (Full full) = MayRefuse command (Full full)
MayAnswer (Once command) (Poisoned wanted kept) = MayRefuse command (Poisoned wanted kept)
MayAnswer (Once command) (Dangling index digest) = MayRefuse command (Dangling index digest)
MayAnswer Batch (BadScript line kind) = Unit {0}
MayAnswer Batch (TooLarge Script number) = Unit {0}
MayAnswer task answer = ⊥

-- the words ask for a task that may answer so
pub record AnswersTask (words : List (String Global)) (answer : Answer) : Type 0 where
  pub request : Request
  pub reads : Reads words request
  pub may : MayAnswer request.task answer

-- where nothing fails and the folder is readable, the words are refused, or their task has such an answer
abbrev pub IsCompleteRun : List (String Global) → World → World → Answer → Type 0
IsCompleteRun words before after answer = IsQuiet before after → IsReadable before.outside.folder.files → WordsRefused words answer ⊎ AnswersTask words answer
