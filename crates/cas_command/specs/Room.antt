-- What a run does where there is room for its script.
use Rattle.std.specs.Prelude.{◌≡◌, List, [], ◌∷◌, ◌++◌, Some}
use Rattle.std.specs.declared.option.Option.{Option}
use Rattle.cas_model.specs.declared.call.Call.{Call}
use Rattle.cas_model.specs.declared.call.Reply.{Reply}
use Rattle.cas_model.specs.declared.call.Reply.TheVariants as reply
use Rattle.cas_model.specs.declared.call.Who.{Who}
use Rattle.cas_model.specs.State.{State}
use Rattle.cas_model.specs.Step.{Entry}
use Rattle.cas_history.specs.Cost.{HasRoomFor}
use Rattle.cas_history.specs.History.{history}
use Rattle.cas_history.specs.Laws.{NoneRefused}
use Rattle.cas_history.specs.Script as script
use Rattle.cell_port.specs.Plain.{EventsValue}
use Rattle.unified_cas.specs.Upstream.{upstream_state}
use Rattle.cas_script.specs.declared.script.Session.{Session}
use Rattle.sessions.specs.Turns.{history_lines}
use Rattle.cas_command.specs.declared.answer.Answer.{Answer}
use Rattle.cas_command.specs.declared.answer.Answer.TheVariants.{Full}
use Rattle.cas_command.specs.declared.seen_run.Front.{Front}
use Rattle.cas_command.specs.declared.seen_run.Run.{Run}
use Rattle.cas_command.specs.SeenRun.{front_run}

-- all calls that the lines of these sessions may make, of which the cost of their script is the sum
abbrev pub calls_of_sessions : List Session → List Call
calls_of_sessions [] = []
calls_of_sessions (session ∷ sessions) = script.calls_of (history_lines session.lines) ++ calls_of_sessions sessions

-- the counter of the opened words and the cost of the script over the upstream are together at most the size of their region
abbrev pub HasRoom : Run → Type 0
HasRoom run = HasRoomFor (upstream_state run.up) (calls_of_sessions run.script.sessions) run.opened.tables.counter run.opened.tables.size

-- the reply is any but that a claim was refused
abbrev pub IsNotFull : Reply → Type 0
IsNotFull (reply.Full at asked size) = ⊥
IsNotFull other = Unit {0}

-- no entry has that reply
abbrev pub NoneFull : List Entry → Type 0
NoneFull [] = Unit {0}
NoneFull (entry ∷ earlier) = IsNotFull entry.reply × NoneFull earlier

-- no claim was refused, so the history has no reply that says so, whatever the calls
pub record IsUnrefused (up : State) (events : EventsValue) : Type 0 where
  pub claims : NoneRefused events.seen
  pub replies : (calls : Who → Option Call) → NoneFull (history up events.start calls events.seen)

-- the front shows a run that did not have room for its script
pub record IsShort (front : Front) : Type 0 where
  pub run : Run
  pub is : front_run front ≡ Some run
  pub short : HasRoom run → ⊥

-- the answer is `Full` only of such a run
abbrev pub HasCause : Front → Answer → Type 0
HasCause front (Full full) = IsShort front
HasCause front other = Unit {0}

-- where there is room for the script, no claim of the run that the front shows was refused, and so the answer is not `Full`
pub record IsRoomy (front : Front) (answer : Answer) : Type 0 where
  pub unrefused : (run : Run) → front_run front ≡ Some run → HasRoom run → IsUnrefused (upstream_state run.up) run.events
  pub cause : HasCause front answer
