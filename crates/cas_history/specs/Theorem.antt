-- What the theorem says of each lawful run, for every upstream, every map of calls and every number of sessions.
use Rattle.std.specs.Prelude.{◌≡◌, ℕ, suc, Bool, false, cond, ◌==◌, is_some, List, [], ◌∷◌, ◌++◌, Some, None}
use Rattle.std.specs.declared.option.Option.{Option}
use Rattle.cas_model.specs.declared.call.Call.{Call}
use Rattle.cas_model.specs.declared.call.Call.TheVariants.{Store, Load, Put, Get}
use Rattle.cas_model.specs.declared.call.Reply.{Reply}
use Rattle.cas_model.specs.declared.call.Reply.TheVariants.{Stored, Found, Missing, Kept, Hit, Miss, Dangling, Full}
use Rattle.cas_model.specs.declared.call.Who.{Who}
use Rattle.cas_model.specs.declared.digest.Digest.{Digest}
use Rattle.cas_model.specs.declared.note.Stage.{Stage}
use Rattle.cas_model.specs.declared.object.Object.{Object}
use Rattle.cas_model.specs.Object.{object_digest}
use Rattle.cas_model.specs.Primary.{primary}
use Rattle.cas_model.specs.State.{State, IsClosed, IsStorable, Whole, over}
use Rattle.cas_model.specs.Step.{IsLegal}
use Rattle.cas_model.specs.Tables.{Tables}
use Rattle.cas_history.specs.declared.event.Act.{Act}
use Rattle.cas_history.specs.declared.event.Event.{Event}
use Rattle.cas_history.specs.Carried.{carried}
use Rattle.cas_history.specs.Conduct.{HasConduct, MayAct}
use Rattle.cas_history.specs.History.{history, decided, count_of, of_session, CountUp}
use Rattle.cas_history.specs.Lawful.{IsLawfulRun}
use Rattle.cas_history.specs.Run.{tables, primary_of}

-- every session has conduct
abbrev pub AllConduct : State → Tables → (Who → Option Call) → List Event → Type 0
AllConduct up start calls seen = (session : ℕ) → HasConduct up start calls session seen

-- the history of a lawful run whose sessions have conduct is legal, from what was visible at its start to what is visible at its end
abbrev pub HistoryIsLegal : Type 0
HistoryIsLegal = (up : State) (start : Tables) (calls : Who → Option Call) (seen : List Event) → IsLawfulRun up start seen → AllConduct up start calls seen
    → IsLegal start.size (over (primary start) up) (history up start calls seen) (over (primary_of start seen) up)

-- ---- the primary state

-- the state carried along by the fills that win is the state that the filled records name
abbrev pub CarriedIsPrimary : Type 0
CarriedIsPrimary = (up : State) (start : Tables) (seen : List Event) → IsLawfulRun up start seen → carried start seen ≡ primary_of start seen

-- the primary state is closed
abbrev pub PrimaryIsClosed : Type 0
PrimaryIsClosed = (up : State) (start : Tables) (seen : List Event) → IsLawfulRun up start seen → IsClosed (primary_of start seen)

-- each object of the primary state stands under its own digest, is within the limits, and its data are bytes
abbrev pub PrimaryIsStorable : Type 0
PrimaryIsStorable = (up : State) (start : Tables) (seen : List Event) → IsLawfulRun up start seen → IsStorable (primary_of start seen)

-- over a closed upstream, what is visible is closed
abbrev pub VisibleIsClosed : Type 0
VisibleIsClosed = (up : State) (start : Tables) (seen : List Event) → IsClosed up → IsLawfulRun up start seen → IsClosed (over (primary_of start seen) up)

-- ---- what replies promise

-- what a load finds has the digest that it was asked for
abbrev pub FoundIsNamed : Type 0
FoundIsNamed = (up : State) (start : Tables) (seen : List Event) (who : Who) (d : Digest) (stage : Stage) (act : Act) (o : Object) → IsLawfulRun up start seen
    → MayAct up start seen who (Load d) stage act → decided up (tables start seen) (Load d) stage act ≡ Some (Found o) → object_digest o ≡ d

-- the call loads this digest
abbrev pub Loads : Call → Digest → Type 0
Loads (Load its) d = its ≡ d
Loads (Store o) d = ⊥
Loads (Put k v) d = ⊥
Loads (Get k) d = ⊥

-- the reply to this call says that the digest is there
abbrev pub Promises : Call → Reply → Digest → Type 0
Promises call (Stored its) d = its ≡ d
Promises call (Found o) d = Loads call d
Promises call (Kept its) d = its ≡ d
Promises call (Hit its) d = its ≡ d
Promises call Missing d = ⊥
Promises call Miss d = ⊥
Promises call (Dangling i its) d = ⊥
Promises call (Full at asked limit) d = ⊥

-- what a reply says is there is whole in the primary state after the event that decides it, and after all later ones
abbrev pub PromisesAreWhole : Type 0
PromisesAreWhole = (up : State) (start : Tables) (calls : Who → Option Call) (more : List Event) (event : Event) (seen : List Event) (call : Call) (reply : Reply) (d : Digest)
    → IsLawfulRun up start (more ++ event ∷ seen) → HasConduct up start calls event.note.who.session (event ∷ seen) → calls event.note.who ≡ Some call
    → decided up (tables start seen) call event.note.stage event.act ≡ Some reply → Promises call reply d
    → Whole (primary_of start (more ++ event ∷ seen)) d

-- ---- the order of a session's calls

-- a session's entries have the indexes 0, 1, 2 and so on
abbrev pub IndexesCountUp : Type 0
IndexesCountUp = (up : State) (start : Tables) (calls : Who → Option Call) (session : ℕ) (seen : List Event) → HasConduct up start calls session seen
    → CountUp (of_session session (history up start calls seen)) (count_of session (history up start calls seen))

-- whether an event decides its call
abbrev pub decides : State → Tables → Option Call → Event → Bool
decides up s None event = false
decides up s (Some call) event = is_some (decided up s call event.note.stage event.act)

-- the index that follows: at first 0, then that of the session's last event, or one more where that event decided
abbrev pub next_index : State → Tables → (Who → Option Call) → ℕ → List Event → ℕ
next_index up start calls session [] = 0
next_index up start calls session (e ∷ earlier) =
    cond (e.note.who.session == session) (cond (decides up (tables start earlier) (calls e.note.who) e) (suc e.note.who.index) e.note.who.index) (next_index up start calls session earlier)

-- each event of the session has the index that follows
abbrev pub InOrder : State → Tables → (Who → Option Call) → ℕ → List Event → Type 0
InOrder up start calls session [] = Unit {0}
InOrder up start calls session (e ∷ earlier) = InOrder up start calls session earlier × (e.note.who.session ≡ session → e.note.who.index ≡ next_index up start calls session earlier)

-- a session's indexes begin with 0, never fall, and go on by one just after an event that decides
abbrev pub IndexesGoOn : Type 0
IndexesGoOn = (up : State) (start : Tables) (calls : Who → Option Call) (session : ℕ) (seen : List Event) → HasConduct up start calls session seen → InOrder up start calls session seen

-- and where they do, the index that follows is the number of the session's entries
abbrev pub OrderCounts : Type 0
OrderCounts = (up : State) (start : Tables) (calls : Who → Option Call) (session : ℕ) (seen : List Event) → InOrder up start calls session seen
    → next_index up start calls session seen ≡ count_of session (history up start calls seen)
