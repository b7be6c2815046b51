-- What contracts see of a run: what it opened, its script, the one actual list of its events, and what they decide.
use Rattle.std.specs.Prelude.{◌≡◌, ◌≤◌, None, Some}
use Rattle.std.specs.declared.option.Option.{Option}
use Rattle.cas_model.specs.Primary.{primary}
use Rattle.cas_model.specs.State.{State}
use Rattle.cas_model.specs.Tables.{Tables}
use Rattle.cas_history.specs.Run.{tables}
use Rattle.cell_port.specs.Plain.{EventsValue}
use Rattle.frozen_store.specs.Seen.{FrozenSeen}
use Rattle.unified_cas.specs.Upstream.{upstream_state}
use Rattle.sessions.specs.declared.replies.Replies.{Replies}
use Rattle.cas_script.specs.declared.script.Script.{Script}
use Rattle.cas_command.specs.declared.seen_run.Front.{Front}
use Rattle.cas_command.specs.declared.seen_run.Run.{Run}
use Rattle.cas_command.specs.History.{RunsScript, AnswersScript}

-- the run, where it was reached
abbrev pub front_run : Front → Option Run
front_run front = front.run

abbrev pub run_of : FrozenSeen → Option FrozenSeen → Script → EventsValue → Run
run_of opened up script events = record { opened = opened; up = up; script = script; events = events }

-- the tables at the end of the run, and their state
abbrev pub ended_of : EventsValue → Tables
ended_of events = tables events.start events.seen

abbrev pub closed_of : EventsValue → State
closed_of events = primary (ended_of events)

-- the run was not reached
abbrev pub NotReached : Front → Type 0
NotReached front = front_run front ≡ None

-- the run made the calls of this script's sessions, in one legal history from what these words hold, over what those of the upstream hold, in a
-- region of their size, and from no higher counter
pub record Ran (opened : FrozenSeen) (up : Option FrozenSeen) (script : Script) (front : Front) : Type 0 where
  pub events : EventsValue
  pub is : front_run front ≡ Some (run_of opened up script events)
  pub size : events.start.size ≡ opened.tables.size
  pub counter : events.start.counter ≤ opened.tables.counter
  pub runs : RunsScript script.sessions (upstream_state up) (primary opened.tables) events.start events.seen

-- and each session was answered to its end, by these replies
pub record Answered (opened : FrozenSeen) (up : Option FrozenSeen) (script : Script) (replies : Replies) (front : Front) : Type 0 where
  pub events : EventsValue
  pub is : front_run front ≡ Some (run_of opened up script events)
  pub size : events.start.size ≡ opened.tables.size
  pub counter : events.start.counter ≤ opened.tables.counter
  pub answers : AnswersScript script.sessions replies.sessions (upstream_state up) (primary opened.tables) events.start events.seen
