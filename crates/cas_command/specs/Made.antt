-- What a run made, and how its history tells it.
use Rattle.std.specs.Prelude.{◌≡◌, ℕ, List}
use Rattle.std.specs.declared.option.Option.{Option}
use Rattle.std.specs.FinMap as fin
use Rattle.cas_model.specs.declared.call.Call.{Call}
use Rattle.cas_model.specs.Primary.{primary}
use Rattle.cas_model.specs.State.{State}
use Rattle.cas_model.specs.Tables.{Tables}
use Rattle.cas_history.specs.declared.event.Event.{Event}
use Rattle.cas_history.specs.Run.{tables as tables_after}
use Rattle.frozen_store.specs.Seen.{FrozenSeen}
use Rattle.sessions.specs.declared.replies.Replies.{Replies}
use Rattle.cas_script.specs.Single.{single_script}
use Rattle.cas_command.specs.declared.seen_run.Front.{Front}
use Rattle.cas_command.specs.declared.rotation.Rotation.{Rotation}
use Rattle.cas_command.specs.declared.running.Made.{Made}
use Rattle.cas_command.specs.declared.work.Report.{Report}
use Rattle.cas_command.specs.declared.work.Report.TheVariants as report
use Rattle.cas_command.specs.declared.work.Work.{Work}
use Rattle.cas_command.specs.Closing.{AreDue, Uses}
use Rattle.cas_command.specs.SeenRun.{Answered, ended_of}
use Rattle.cas_command.specs.History.{AnswersScript}
use Rattle.cas_command.specs.Output.{Reports}
use Rattle.cas_command.specs.Rotation.{full_seen}

-- what replies to the work's script give, and the images that are due at the end of a run that came to these tables: that of its state, where
-- it is not the opened one, and that of a new generation
pub record IsMade (opened : FrozenSeen) (work : Work) (rotation : Rotation) (replies : Replies) (ended : Tables) (made : Made) : Type 0 where
  pub reports : Reports work.report work.script replies (fin.len (primary ended).objects) (fin.len (primary ended).cache) made.output
  pub used : ℕ
  pub uses : Uses ended used
  pub due : AreDue opened.tables.size (primary opened.tables) (primary ended) rotation used (full_seen replies.sessions) made.images

-- the script's sessions were answered to their ends, and this was made of their replies and of what was there at the end
pub record HasMade (opened : FrozenSeen) (up : Option FrozenSeen) (work : Work) (rotation : Rotation) (front : Front) (made : Made) : Type 0 where
  pub replies : Replies
  pub answered : Answered opened up work.script replies front
  pub is : IsMade opened work rotation replies (ended_of answered.events) made

-- ---- on the way

-- the same from the port's start and what it saw
pub record HasRunTo (opened : FrozenSeen) (up : State) (work : Work) (rotation : Rotation) (start : Tables) (seen : List Event) (made : Made) : Type 0 where
  pub replies : Replies
  pub answers : AnswersScript work.script.sessions replies.sessions up (primary opened.tables) start seen
  pub is : IsMade opened work rotation replies (tables_after start seen) made

-- where one reply is reported, the script is that of one call
abbrev pub IsOneCallFor : Report → Work → Type 0
IsOneCallFor (report.Reply shows) work = (call : Call) × (work.script ≡ single_script call)
IsOneCallFor report.Lines work = Unit {0}
IsOneCallFor (report.Summary rounds) work = Unit {0}

abbrev pub IsOneCall : Work → Type 0
IsOneCall work = IsOneCallFor work.report work
