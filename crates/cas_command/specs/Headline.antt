-- A run's one history goes from the state of the folder, its primary's over its upstream's, to that of the folder at the end.
use Rattle.std.specs.Prelude.{◌≡◌, ◌⊎◌, None, Some}
use Rattle.std.specs.declared.option.Option.{Option}
use Rattle.cas_model.specs.State.{State, empty_state}
use Rattle.cas_outside.specs.Folder.{Files}
use Rattle.generations.specs.FolderState.{HasChain}
use Rattle.sessions.specs.declared.replies.Replies.{Replies}
use Rattle.cas_command.specs.declared.answer.Answer.{Answer}
use Rattle.cas_command.specs.declared.answer.Answer.TheVariants.{Done, Missing, WriteFault, Full, Poisoned, Dangling}
use Rattle.cas_command.specs.declared.seen_run.Front.{Front}
use Rattle.cas_command.specs.declared.seen_run.Run.{Run}
use Rattle.cas_command.specs.SeenRun.{closed_of, front_run}
use Rattle.cas_command.specs.History.{AnswersScript, RunsScript}

-- the run's history is legal from the state of these files: that of their primary, over that of their upstream
pub record RunsFrom (old : Files) (run : Run) : Type 0 where
  pub opened : State
  pub upstream : State
  pub from : HasChain old opened upstream
  pub runs : RunsScript run.script.sessions upstream opened run.events.start run.events.seen

-- the files have this state as their primary's over the same upstream; or, where a new generation was put above it, as their upstream's below an
-- empty primary
abbrev pub EndsWith : Files → State → State → Type 0
EndsWith new upstream closed = HasChain new closed upstream ⊎ HasChain new empty_state closed

-- each session was answered to its end, and the history, which is legal from the state of the files, ends with that of the primary which the files
-- then have
pub record RunsTo (old new : Files) (run : Run) : Type 0 where
  pub opened : State
  pub upstream : State
  pub from : HasChain old opened upstream
  pub replies : Replies
  pub answers : AnswersScript run.script.sessions replies.sessions upstream opened run.events.start run.events.seen
  pub to : EndsWith new upstream (closed_of run.events)

-- the files at the end are told, and the run was saved in them
abbrev pub RunsToTold : Files → Option Files → Run → Type 0
RunsToTold old None run = ⊥
RunsToTold old (Some new) run = RunsTo old new run

-- these answers come once the primary is saved, where its state changed
abbrev pub ComesAfterSave : Answer → Type 0
ComesAfterSave Done = Unit {0}
ComesAfterSave WriteFault = Unit {0}
ComesAfterSave (Missing digest) = Unit {0}
ComesAfterSave (Full full) = Unit {0}
ComesAfterSave (Poisoned wanted kept) = Unit {0}
ComesAfterSave (Dangling index digest) = Unit {0}
ComesAfterSave other = ⊥

-- where the folder tells its files: the history of the run that the front shows goes from the state of the files at entry, and with these
-- answers to the state of the files at the end
abbrev pub HasHeadline : Option Files → Option Files → Front → Answer → Type 0
HasHeadline None new front answer = Unit {0}
HasHeadline (Some old) new front answer = (run : Run) → front_run front ≡ Some run → RunsFrom old run × (ComesAfterSave answer → RunsToTold old new run)
