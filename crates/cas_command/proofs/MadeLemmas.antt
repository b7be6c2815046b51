-- What a run made, from what its port holds.
use Rattle.std.proofs.Common.{◌≡◌, ◌≤◌, ℕ, Bool, List, length, IfOk, Ok, Err, Some, refl, sym, subst}
use Rattle.std.specs.declared.alloc.AllocError.{AllocError}
use Rattle.std.specs.declared.option.Option.{Option}
use Rattle.std.specs.declared.result.Result.{Result}
use Rattle.std.specs.FinMap as fin
use Rattle.cas_model.specs.declared.contents.Pair.{Pair}
use Rattle.cas_model.specs.declared.object.Object.{Object}
use Rattle.cas_model.specs.Contents.{contents_state}
use Rattle.cas_model.specs.Primary.{primary}
use Rattle.cas_model.specs.State.{State}
use Rattle.cas_model.specs.Tables.{Tables}
use Rattle.cas_history.specs.declared.event.Event.{Event}
use Rattle.cas_history.specs.Run.{primary_of, tables}
use Rattle.cell_port.specs.FilledRows.{HoldsContents}
use Rattle.cell_port.specs.Plain.{EventsValue}
use Rattle.frozen_store.specs.Seen.{FrozenSeen}
use Rattle.unified_cas.specs.Upstream.{upstream_state}
use Rattle.sessions.specs.declared.replies.Replies.{Replies}
use Rattle.cas_script.specs.declared.script.Script.{Script}
use Rattle.cas_script.specs.declared.script.Session.{Session}
use Rattle.cas_command.specs.declared.closing.Images.{Images}
use Rattle.cas_command.specs.declared.seen_run.Front.{Front}
use Rattle.cas_command.specs.declared.rotation.Rotation.{Rotation}
use Rattle.cas_command.specs.declared.running.Made.{Made}
use Rattle.cas_command.specs.declared.output.Output.{Output}
use Rattle.cas_command.specs.declared.work.Report.{Report}
use Rattle.cas_command.specs.declared.work.Work.{Work}
use Rattle.cas_command.specs.Closing.{AreDue, Grows, words_used}
use Rattle.cas_command.specs.History.{AnswersScript, RunsScript}
use Rattle.cas_command.specs.SeenRun.{front_run, run_of}
use Rattle.cas_command.specs.Made.{HasMade, HasRunTo}
use Rattle.cas_command.specs.Output.{Reports}
use Rattle.cas_command.specs.Rotation.{full_seen}
use Rattle.cas_command.proofs.ClosingLemmas.{actions-counted, grows-run, objects-counted}

-- what the port holds is what was opened, or more
pub grows-to :
    (sessions : List Session) (up opened : State) (start : Tables) (seen : List Event) (objects : List Object) (actions : List Pair) → RunsScript sessions up opened start seen
    → HoldsContents (tables start seen) objects actions → Grows opened (contents_state objects actions)
grows-to sessions up opened start seen objects actions runs holds =
    subst (Grows opened) (sym holds.state) (subst (λ (s : State). Grows s (primary_of start seen)) runs.from (grows-run up start seen runs.lawful))

pub run-to :
    (opened : FrozenSeen) (up : State) (work : Work) (rotation : Rotation) (replies : Replies) (start : Tables) (seen : List Event) (objects : List Object) (actions : List Pair) (made : Made)
    → AnswersScript work.script.sessions replies.sessions up (primary opened.tables) start seen → HoldsContents (tables start seen) objects actions
    → Reports work.report work.script replies (length objects) (length actions) made.output
    → AreDue opened.tables.size (primary opened.tables) (contents_state objects actions) rotation (words_used objects actions) (full_seen replies.sessions) made.images
    → HasRunTo opened up work rotation start seen made
run-to opened up work rotation replies start seen objects actions made answers holds reports due = record {
  replies = replies;
  answers = answers;
  is = record {
    reports = subst (λ (s : State). Reports work.report work.script replies (fin.len s.objects) (fin.len s.cache) made.output) holds.state
        (subst (λ (n : ℕ). Reports work.report work.script replies n (fin.len (contents_state objects actions).cache) made.output) (sym (objects-counted objects actions holds.lawful))
        (subst (λ (n : ℕ). Reports work.report work.script replies (length objects) n made.output) (sym (actions-counted objects actions holds.lawful)) reports));
    used = words_used objects actions;
    uses = record { objects = objects; actions = actions; holds = holds; is = refl };
    due = subst (λ (s : State). AreDue opened.tables.size (primary opened.tables) s rotation (words_used objects actions) (full_seen replies.sessions) made.images) holds.state due;
  };
}

-- what was made, as the front shows it
pub made-shown :
    (opened : FrozenSeen) (up seen_up : Option FrozenSeen) (work : Work) (rotation : Rotation) (front : Front) (events : EventsValue) (result : Result Made AllocError) → seen_up ≡ up
    → front_run front ≡ Some (run_of opened up work.script events) → events.start.size ≡ opened.tables.size → events.start.counter ≤ opened.tables.counter
    → IfOk result (λ made. HasRunTo opened (upstream_state seen_up) work rotation events.start events.seen made) → IfOk result (λ made. HasMade opened up work rotation front made)
made-shown opened up seen_up work rotation front events (Err error) same is size counter h = tt
made-shown opened up seen_up work rotation front events (Ok made) same is size counter h =
    let to = subst (λ (o : Option FrozenSeen). HasRunTo opened (upstream_state o) work rotation events.start events.seen made) same h in
    record {
      replies = to.replies;
      answered = record { events = events; is = is; size = size; counter = counter; answers = to.answers };
      is = to.is;
    }

-- what is due by a test that is the same
pub due-known :
    (size used : ℕ) (opened closed : State) (rotation : Rotation) (images : Images) (a b : Bool) → a ≡ b → AreDue size opened closed rotation used a images
    → AreDue size opened closed rotation used b images
due-known size used opened closed rotation images a b same h = subst (λ (t : Bool). AreDue size opened closed rotation used t images) same h

-- a report by other numbers that are the same
pub reports-counted :
    (report : Report) (script : Script) (replies : Replies) (output : Output) (objects actions many few : ℕ) → objects ≡ many → actions ≡ few
    → Reports report script replies objects actions output → Reports report script replies many few output
reports-counted report script replies output objects actions many few one two h =
    subst (λ (n : ℕ). Reports report script replies n few output) one (subst (λ (n : ℕ). Reports report script replies objects n output) two h)
