-- Where there is room for the script, the run that the front shows was refused no claim, and its answer is not `Full`.
use Rattle.std.proofs.Common.{◌≡◌, ◌⊎◌, inl, inr, ℕ, ◌≤◌, List, [], ◌∷◌, Bool, true, false, cond, slice_get, Some, None, ap, sym, subst, ◌∙◌, arith}
use Rattle.std.specs.Prelude.{String}
use Rattle.std.specs.String.{string_bytes}
use Rattle.std.specs.declared.alloc.Global.{Global}
use Rattle.std.specs.declared.option.Option.{Option}
use Rattle.std.specs.FinMap as fin
use Rattle.cas_model.specs.declared.call.Reply.{Reply}
use Rattle.cas_model.specs.declared.call.Reply.TheVariants as reply
use Rattle.cas_model.specs.declared.digest.Digest.{Digest}
use Rattle.cas_model.specs.declared.place.Full.{Full as Refusal}
use Rattle.cas_model.specs.Primary.{primary}
use Rattle.cas_model.specs.State.{State, over}
use Rattle.cas_model.specs.Tables.{same_digest}
use Rattle.cas_history.specs.Cost.{HasRoomFor}
use Rattle.cas_history.specs.History.{history}
use Rattle.cas_outside.specs.Folder.{FolderView}
use Rattle.cas_history.specs.Run.{primary_of}
use Rattle.cell_port.specs.Plain.{EventsValue}
use Rattle.frozen_store.specs.Seen.{FrozenSeen}
use Rattle.unified_cas.specs.Upstream.{upstream_state}
use Rattle.sessions.specs.declared.replies.Replies.{Replies}
use Rattle.sessions.specs.declared.replies.SessionReplies.{SessionReplies}
use Rattle.cas_script.specs.declared.script.Line.{Line}
use Rattle.cas_script.specs.declared.script.Line.TheVariants as line
use Rattle.cas_script.specs.declared.script.Script.{Script}
use Rattle.cas_script.specs.declared.script.Session.{Session}
use Rattle.cas_script.specs.Parsing.{session_of}
use Rattle.cas_command.specs.declared.answer.Answer.{Answer}
use Rattle.cas_command.specs.declared.answer.Answer.TheVariants.{Full, Poisoned}
use Rattle.cas_command.specs.declared.seen_run.Front.{Front}
use Rattle.cas_command.specs.declared.seen_run.Run.{Run}
use Rattle.cas_command.specs.declared.output.Output.{Output}
use Rattle.cas_command.specs.declared.output.Output.TheVariants.{Denied}
use Rattle.cas_command.specs.declared.work.Report.{Report}
use Rattle.cas_command.specs.declared.work.Report.TheVariants as report
use Rattle.cas_command.specs.SeenRun.{Answered, NotReached, Ran, closed_of, front_run, run_of}
use Rattle.cas_command.specs.History.{RunsScript, shown}
use Rattle.cas_command.specs.Output.{Reports, refusal_of}
use Rattle.cas_command.specs.Room.{HasCause, HasRoom, IsNotFull, IsRoomy, IsShort, IsUnrefused, calls_of_sessions}
use Rattle.cas_command.specs.Run.{Because, Outside, Prepares, World}
use Rattle.cas_command.proofs.HistoryLemmas.{all-conduct}
use Rattle.cas_command.proofs.RunLemmas.{of-refused, upkeep-text}
use Rattle.cas_command.proofs.ShownLemmas.{HasRun, answered-ran, shows-run}
use Rattle.cas_command.proofs.RoomLemmas.{AreNotFull, none-full, none-refused, session-replies-fit}

-- ---- a run

unrefused : (sessions : List Session) (up opened : State) (events : EventsValue) → RunsScript sessions up opened events.start events.seen
    → HasRoomFor up (calls_of_sessions sessions) events.start.counter events.start.size → IsUnrefused up events
unrefused sessions up opened events runs room =
    let claims = none-refused (shown up events.start events.seen) sessions runs.calls events.start.size (over opened up) (over (primary_of events.start events.seen) up) runs.follow runs.lawful runs.own
    (all-conduct up events.start sessions runs.calls events.seen runs.own runs.follow) runs.legal room in
    record { claims = claims; replies = λ calls. none-full up events.start calls events.seen claims }

-- the room for the start of a run is that of the opened words, or more
start-room :
    (opened : FrozenSeen) (up : Option FrozenSeen) (script : Script) (events : EventsValue) → events.start.size ≡ opened.tables.size → events.start.counter ≤ opened.tables.counter
    → HasRoom (run_of opened up script events) → HasRoomFor (upstream_state up) (calls_of_sessions script.sessions) events.start.counter events.start.size
start-room opened up script events size counter room words within = let fits = room words within in omega (arith, fits, size, counter)

ran-unrefused :
    (opened : FrozenSeen) (up : Option FrozenSeen) (script : Script) (front : Front) (ran : Ran opened up script front) → HasRoom (run_of opened up script ran.events)
    → IsUnrefused (upstream_state up) ran.events
ran-unrefused opened up script front ran room =
    unrefused script.sessions (upstream_state up) (primary opened.tables) ran.events ran.runs (start-room opened up script ran.events ran.size ran.counter room)

-- ---- the run that the front shows

run-unrefused :
    (old : FolderView) (front : Front) → NotReached front ⊎ HasRun old front → (run : Run) → front_run front ≡ Some run → HasRoom run
    → IsUnrefused (upstream_state run.up) run.events
run-unrefused old front (inl none) run is room = absurd (let two : None ≡ Some run = sym none ∙ is in cc two)
run-unrefused old front (inr has) run is room =
    let same : run_of has.opened.primary has.opened.up has.script has.ran.events ≡ run = cc (sym has.ran.is ∙ is) in
    subst (λ (r : Run). HasRoom r → IsUnrefused (upstream_state r.up) r.events) same (ran-unrefused has.opened.primary has.opened.up has.script front has.ran) room

-- ---- the answer

-- a reply that gives the answer says so
kept-not : (value kept : Digest) (test : Bool) (full : Refusal) → cond test None (Some (Poisoned value kept)) ≡ Some (Full full) → ⊥
kept-not value kept true full is = cc is
kept-not value kept false full is = cc is

not-full : (its : Line) (given : Reply) (full : Refusal) → IsNotFull given → refusal_of its given ≡ Some (Full full) → ⊥
not-full its (reply.Full a b c) full h is = h
not-full (line.Put k v) (reply.Kept x) full h is = kept-not v x (same_digest v x) full is
not-full (line.Store refs bytes) given full h is = cc is
not-full (line.Load d) given full h is = cc is
not-full (line.Put k v) given full h is = cc is
not-full (line.Get k) given full h is = cc is
not-full (line.Act k refs bytes) given full h is = cc is

reported-short :
    (report_ : Report) (opened : FrozenSeen) (up : Option FrozenSeen) (script : Script) (replies : Replies) (objects actions : ℕ) (front : Front) (full : Refusal)
    (answered : Answered opened up script replies front) → Reports report_ script replies objects actions (Denied (Full full)) → HasRoom (run_of opened up script answered.events) → ⊥
reported-short (report.Reply shows) opened up script replies objects actions front full answered h room =
    let events = answered.events in
    let answers = answered.answers in
    let un = ran-unrefused opened up script front (answered-ran opened up script replies front answered) room in
    let session : Session = session_of (h.line ∷ []) in
    let own : SessionReplies = record { replies = h.reply ∷ [] } in
    let are = (answers.each 0 session own (ap (λ (xs : List Session). slice_get xs 0) h.script_is) (ap (λ (xs : List SessionReplies). slice_get xs 0) h.replies_are)).are in
    let fit = session-replies-fit 0 (history (upstream_state up) events.start answers.runs.calls events.seen) (un.replies answers.runs.calls) in
    not-full h.line h.reply full (subst AreNotFull (sym are) fit).0 h.gives
reported-short report.Lines opened up script replies objects actions front full answered h room = h
reported-short (report.Summary rounds) opened up script replies objects actions front full answered h room = h

prepares-short : (words : List (String Global)) (before after : Outside) (front : Front) (full : Refusal) → Prepares words before after front (Denied (Full full)) → IsShort front
prepares-short words before after front full h = elim h.is [
  | inl task ↦
      let run = task.prepares in
      let closed = closed_of run.has.answered.events in
      record {
        run = run_of run.opened.primary run.opened.up task.work.script run.has.answered.events;
        is = run.has.answered.is;
        short = reported-short task.work.report run.opened.primary run.opened.up task.work.script run.has.replies (fin.len closed.objects) (fin.len closed.cache) front full run.has.answered
            (subst (λ (o : Output). Reports task.work.report task.work.script run.has.replies (fin.len closed.objects) (fin.len closed.cache) o) (sym run.is) run.has.is.reports);
      }
  | inr upkeep ↦ absurd (upkeep-text h.request.task (string_bytes h.dir) h.request.options before.folder after.folder (Full full) upkeep.prepares)
]

full-cause : (words : List (String Global)) (before after : World) (front : Front) (given : Answer) → Because words before after front given → HasCause front given
full-cause words before after front (Full full) h = elim h.why [
  | inl refuses ↦ absurd (of-refused words before.outside after.outside front (Full full) tt refuses)
  | inr prepares ↦ prepares-short words before.outside after.outside front full prepares
]
full-cause words before after front given h = tt

pub roomy : (words : List (String Global)) (before after : World) (front : Front) (given : Answer) → Because words before after front given → IsRoomy front given
roomy words before after front given because = record {
  unrefused = run-unrefused before.outside.folder front (shows-run words before after front given because);
  cause = full-cause words before after front given because;
}
