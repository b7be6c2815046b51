-- The work that a command asks for, with what the source gives.
use Rattle.std.specs.Prelude.{◌≡◌, ℕ, ◌≤◌, List, [], length}
use Rattle.std.specs.declared.option.Option.{Option}
use Rattle.cas_model.specs.declared.digest.Digest.{Digest}
use Rattle.cas_outside.specs.Causes.{Rose}
use Rattle.cas_script.specs.declared.error.LineKind.{LineKind}
use Rattle.cas_script.specs.declared.script.Script.{Script as ScriptValue}
use Rattle.cas_script.specs.Grammar.{Reads as ReadsText}
use Rattle.cas_script.specs.FirstRefused.{IsRefusedAt}
use Rattle.cas_script.specs.Single.{single_script}
use Rattle.cas_script.specs.Workload.{workload_script}
use Rattle.cas_command.specs.declared.answer.Answer.{Answer}
use Rattle.cas_command.specs.declared.answer.Answer.TheVariants.{ReadFault, BadScript, TooLarge, NoMemory}
use Rattle.cas_command.specs.declared.answer.Large.TheVariants.{Data, Script}
use Rattle.command_line.specs.Commands.{call_of, shown_by}
use Rattle.command_line.specs.declared.command.Command.{Command}
use Rattle.command_line.specs.declared.command.Command.TheVariants.{Make, CatNodeData, LsNodeRefs, PutCacheKey, GetCacheResult}
use Rattle.command_line.specs.declared.command.Task.{Task}
use Rattle.command_line.specs.declared.command.Task.TheVariants.{Once, Batch, Workload, Validate, Prune}
use Rattle.cas_command.specs.declared.input.Stop.{Stop}
use Rattle.cas_command.specs.declared.input.Stop.TheVariants.{Fault, Large, Memory}
use Rattle.cas_command.specs.declared.work.Report.TheVariants.{Reply, Lines, Summary}
use Rattle.cas_command.specs.declared.work.Work.{Work}
use Rattle.cas_command.specs.Reading.{HasReadAll, HasTooMany}

-- the source at one moment: what is left, where it tells it, and its count of faults
pub record Source : Type 0 where
  pub left : Option (List ℕ)
  pub faults : ℕ

abbrev pub source_with : Option (List ℕ) → ℕ → Source
source_with left faults = record { left = left; faults = faults }

-- ---- what is read

-- nothing was asked of it, and the command has no data
pub record IsUnread (before after : Source) (bytes : List ℕ) : Type 0 where
  pub same : after ≡ before
  pub none : bytes ≡ []

-- a command that makes an object reads the source to its end, and its data is all that it gave. No other command reads it
abbrev pub HasInput : Command → Source → Source → List ℕ → Type 0
HasInput (Make refs) before after bytes = HasReadAll 16777215 before.left after.left bytes
HasInput (CatNodeData digest) before after bytes = IsUnread before after bytes
HasInput (LsNodeRefs digest) before after bytes = IsUnread before after bytes
HasInput (PutCacheKey key value) before after bytes = IsUnread before after bytes
HasInput (GetCacheResult key) before after bytes = IsUnread before after bytes

-- the source gave a text that is this script
pub record HasScript (before after : Source) (script : ScriptValue) : Type 0 where
  pub text : List ℕ
  pub read : HasReadAll 16777216 before.left after.left text
  pub is : ReadsText text script

-- ---- the work

-- a command's work is the script of its one call, and the output of that call's reply
pub record IsCallWork (command : Command) (before after : Source) (work : Work) : Type 0 where
  pub bytes : List ℕ
  pub input : HasInput command before after bytes
  pub script_is : work.script ≡ single_script (call_of command bytes)
  pub report_is : work.report ≡ Reply (shown_by command)

-- a batch's work is the script that the source gave, and a line for each of its lines
pub record IsBatchWork (before after : Source) (work : Work) : Type 0 where
  pub script_is : HasScript before after work.script
  pub report_is : work.report ≡ Lines

-- a workload's work is its script, and its summary
pub record IsWorkload (rounds : ℕ) (before after : Source) (work : Work) : Type 0 where
  pub same : after ≡ before
  pub script_is : work.script ≡ workload_script rounds
  pub report_is : work.report ≡ Summary rounds

-- the work that a task asks for. A check of the images is none, nor is a removal of generations
abbrev pub IsWork : Task → Source → Source → Work → Type 0
IsWork (Once command) before after work = IsCallWork command before after work
IsWork Batch before after work = IsBatchWork before after work
IsWork (Workload rounds) before after work = IsWorkload rounds before after work
IsWork Validate before after work = ⊥
IsWork Prune before after work = ⊥

-- ---- why there is none

-- why the source was not read to its end, or memory was wanted
abbrev pub InputStops : Command → Source → Source → Stop → Type 0
InputStops (Make refs) before after Fault = Rose before.faults after.faults
InputStops (Make refs) before after Large = HasTooMany 16777215 before.left after.left
InputStops command before after Memory = Unit {0}
InputStops command before after stop = ⊥

-- the command makes an object, and its data was not read, for this reason
pub record StopsReading (command : Command) (reason : Type 0) : Type 0 where
  pub refs : List Digest
  pub makes : command ≡ Make refs
  pub why : reason

abbrev pub CommandStops : Command → Source → Source → Answer → Type 0
CommandStops command before after ReadFault = StopsReading command (Rose before.faults after.faults)
CommandStops command before after (TooLarge Data number) = StopsReading command ((number ≡ 16777216) × HasTooMany 16777215 before.left after.left)
CommandStops command before after NoMemory = Unit {0}
CommandStops command before after answer = ⊥

-- the source gave a text of which this line is the first that has no reading
pub record HasBadLine (before after : Source) (line : ℕ) (kind : LineKind) : Type 0 where
  pub text : List ℕ
  pub read : HasReadAll 16777216 before.left after.left text
  pub is : IsRefusedAt text line kind

abbrev pub ScriptStops : Source → Source → Answer → Type 0
ScriptStops before after ReadFault = Rose before.faults after.faults
ScriptStops before after (TooLarge Script number) = (number ≡ 16777217) × HasTooMany 16777216 before.left after.left
ScriptStops before after (BadScript line kind) = HasBadLine before after line kind
ScriptStops before after NoMemory = Unit {0}
ScriptStops before after answer = ⊥

-- why a task's work was not made ready. Want of memory is free
abbrev pub TaskStops : Task → Source → Source → Answer → Type 0
TaskStops (Once command) before after answer = CommandStops command before after answer
TaskStops Batch before after answer = ScriptStops before after answer
TaskStops (Workload rounds) before after answer = (answer ≡ NoMemory) × (after ≡ before)
TaskStops Validate before after answer = ⊥
TaskStops Prune before after answer = ⊥

-- ---- on the way

-- the answer where the data could not be read
abbrev pub stop_answer : Stop → Answer
stop_answer Fault = ReadFault
stop_answer Large = TooLarge Data 16777216
stop_answer Memory = NoMemory

-- the answer where the script could not be read
abbrev pub script_stop_answer : Stop → Answer
script_stop_answer Fault = ReadFault
script_stop_answer Large = TooLarge Script 16777217
script_stop_answer Memory = NoMemory

-- the command's references are within the limits of an object
abbrev pub IsCommandWithin : Command → Type 0
IsCommandWithin (Make refs) = length refs ≤ 65535
IsCommandWithin (CatNodeData digest) = Unit {0}
IsCommandWithin (LsNodeRefs digest) = Unit {0}
IsCommandWithin (PutCacheKey key value) = Unit {0}
IsCommandWithin (GetCacheResult key) = Unit {0}

-- the task has a script, which is within its limits where the source's is
abbrev pub IsTaskWithin : Task → Type 0
IsTaskWithin (Once command) = IsCommandWithin command
IsTaskWithin Batch = Unit {0}
IsTaskWithin (Workload rounds) = rounds ≤ 10000
IsTaskWithin Validate = ⊥
IsTaskWithin Prune = ⊥
