-- The one legal history of a run, from the state that was opened, over that of its upstream.
use Rattle.std.specs.Prelude.{◌≡◌, ℕ, ◌<◌, List, [], ◌∷◌, ◌++◌, true, length, slice_get, Some}
use Rattle.std.specs.declared.option.Option.{Option}
use Rattle.cas_model.specs.declared.call.Call.{Call}
use Rattle.cas_model.specs.declared.call.Call.TheVariants.{Store, Load, Put, Get}
use Rattle.cas_model.specs.declared.call.Who.{Who}
use Rattle.cas_model.specs.declared.digest.Digest.{Digest}
use Rattle.cas_model.specs.declared.object.Object.{Object}
use Rattle.cas_model.specs.Primary.{primary}
use Rattle.cas_model.specs.State.{State, Whole, over}
use Rattle.cas_model.specs.Step.{Entry, IsLegal}
use Rattle.cas_model.specs.Tables.{Tables}
use Rattle.cas_history.specs.declared.event.Event.{Event}
use Rattle.cas_history.specs.History.{history}
use Rattle.cas_history.specs.Lawful.{IsLawfulRun}
use Rattle.cas_history.specs.Loads.{LoadsAreExact}
use Rattle.cas_history.specs.Run.{primary_of}
use Rattle.cas_history.specs.Script as script
use Rattle.cas_history.specs.Theorem.{Promises}
use Rattle.cas_port.specs.View.{View}
use Rattle.sessions.specs.declared.replies.SessionReplies.{SessionReplies}
use Rattle.cas_script.specs.declared.script.Session.{Session}
use Rattle.sessions.specs.Reading.{NeedNoChange}
use Rattle.sessions.specs.Turns.{FollowScript, IsAnswered, history_lines}

-- what a port shows over an upstream, once it has seen these events since this start
abbrev pub shown : State → Tables → List Event → View
shown up start seen = record { region = 0; start = start; upstream = up; seen = seen; speaks = λ _. true; takes_memory = true; opened = [] }

-- each event is of one of so many sessions
abbrev pub AreOfSessions : ℕ → List Event → Type 0
AreOfSessions count [] = Unit {0}
AreOfSessions count (event ∷ earlier) = (event.note.who.session < count) × AreOfSessions count earlier

-- the object that a call stores, if any
abbrev pub stored_by : Call → List Object
stored_by (Store o) = o ∷ []
stored_by (Load digest) = []
stored_by (Put key value) = []
stored_by (Get key) = []

-- the objects that a line, lines and sessions store
abbrev pub stored_by_line : script.Line → List Object
stored_by_line (script.Once call) = stored_by call
stored_by_line (script.Action key o) = o ∷ []

abbrev pub stored_by_lines : List script.Line → List Object
stored_by_lines [] = []
stored_by_lines (line ∷ lines) = stored_by_line line ++ stored_by_lines lines

abbrev pub stored_by_sessions : List Session → List Object
stored_by_sessions [] = []
stored_by_sessions (session ∷ sessions) = stored_by_lines (history_lines session.lines) ++ stored_by_sessions sessions

-- what each reply says is there is whole in this state: it has the object, and all that references reach from it
abbrev pub ArePromisesWhole : State → List Entry → Type 0
ArePromisesWhole s [] = Unit {0}
ArePromisesWhole s (entry ∷ earlier) = ((digest : Digest) → Promises entry.call entry.reply digest → Whole s digest) × ArePromisesWhole s earlier

-- The run's one history is legal from what was visible in the opened state to what is visible at its end, each over the upstream's state. Its
-- events are a lawful run from tables that name the opened state, and of the script's sessions alone. For one map of calls, the events of each
-- session have conduct, its decided calls follow the session's lines with the indexes 0, 1, 2 and so on, the claims of each call ask for at most
-- its cost, and a call that is not decided is the one that comes next. Each load finds exactly what was stored. What the replies promise is whole
-- in the primary's state at the end, with no need of the upstream.
pub record RunsScript (sessions : List Session) (up opened : State) (start : Tables) (seen : List Event) : Type 0 where
  pub from : primary start ≡ opened
  pub lawful : IsLawfulRun up start seen
  pub own : AreOfSessions (length sessions) seen
  pub calls : Who → Option Call
  pub follow : FollowScript sessions calls (shown up start seen)
  pub legal : IsLegal start.size (over opened up) (history up start calls seen) (over (primary_of start seen) up)
  pub exact : LoadsAreExact (over opened up) (stored_by_sessions sessions) (history up start calls seen)
  pub whole : ArePromisesWhole (primary_of start seen) (history up start calls seen)

-- The run does so, and each session was answered to its end, by these replies. Where no reply needed a change of the opened state, as those of what was
-- absent, or of what the primary had already, the primary's state is the opened one, whatever its upstream holds
pub record AnswersScript (sessions : List Session) (replies : List SessionReplies) (up opened : State) (start : Tables) (seen : List Event) : Type 0 where
  pub runs : RunsScript sessions up opened start seen
  pub many : length replies ≡ length sessions
  pub each : (n : ℕ) (session : Session) (own : SessionReplies) → slice_get sessions n ≡ Some session → slice_get replies n ≡ Some own
      → IsAnswered (shown up start seen) runs.calls n (history_lines session.lines) own.replies
  pub unchanged : NeedNoChange opened (history up start runs.calls seen) → primary_of start seen ≡ opened
