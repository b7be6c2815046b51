-- What a replay of a run in code is given, and where it fails.
use Rattle.std.specs.Prelude.{◌≡◌, ℕ, ◌+◌, ◌^◌, ◌≤◌, List, [], ◌∷◌, cond, Some, None, IsSome}
use Rattle.std.specs.declared.option.Option.{Option}
use Rattle.cas_model.specs.Contents.{contents_state}
use Rattle.cas_model.specs.State.{State}
use Rattle.cas_model.specs.Step.{Entry}
use Rattle.cas_model.specs.Tables.{Tables, record_at}
use Rattle.cas_model.specs.declared.call.Call.{Call}
use Rattle.cas_model.specs.declared.call.Who.{Who}
use Rattle.cas_model.specs.declared.contents.Contents.{Contents}
use Rattle.cas_history.specs.Conduct.{same_who}
use Rattle.cas_history.specs.Cost.{asked_by}
use Rattle.cas_history.specs.declared.entry.Asked.{Asked}
use Rattle.cas_history.specs.declared.error.ReplayError.{ReplayError}
use Rattle.cas_history.specs.declared.error.ReplayError.TheVariants.{Memory, TooFar, Unlawful, Unbound}
use Rattle.cas_history.specs.declared.event.Act.{Act}
use Rattle.cas_history.specs.declared.event.Event.{Event}
use Rattle.cas_history.specs.Lawful.{MayHappen}

-- the map of the listed calls: the first of the list stands
abbrev pub calls_in : List Asked → Who → Option Call
calls_in [] who = None
calls_in (a ∷ as_) who = cond (same_who a.who who) (Some a.call) (calls_in as_ who)

-- the state that an upstream's contents hold
abbrev pub state_of : Contents → State
state_of contents = contents_state contents.objects.items contents.actions.items

-- each of these places is that of a record
abbrev pub AreRecords : Tables → List ℕ → Type 0
AreRecords s [] = Unit {0}
AreRecords s (n ∷ ns) = IsSome (record_at s.bound n) × AreRecords s ns

-- no memory is left, or this place has no record
abbrev pub IsNoRecord : Tables → ReplayError → Type 0
IsNoRecord s Memory = Unit {0}
IsNoRecord s TooFar = ⊥
IsNoRecord s Unlawful = ⊥
IsNoRecord s (Unbound place) = record_at s.bound place ≡ None

-- no memory is left, or a claim would move the counter past 64 bits
abbrev pub IsTooFar : Tables → Act → ReplayError → Type 0
IsTooFar s act Memory = Unit {0}
IsTooFar s act TooFar = 2 ^ 64 ≤ s.counter + asked_by act
IsTooFar s act Unlawful = ⊥
IsTooFar s act (Unbound place) = ⊥

-- why an event is not replayed after these tables
abbrev pub IsStopped : State → Tables → Event → ReplayError → Type 0
IsStopped up s event Memory = Unit {0}
IsStopped up s event TooFar = 2 ^ 64 ≤ s.counter + asked_by event.act
IsStopped up s event Unlawful = MayHappen up s event.note.who event.act → ⊥
IsStopped up s event (Unbound place) = record_at s.bound place ≡ None

-- what a replay shows: the tables after the events so far, and the calls that they have decided, the newest first
pub record Replayed : Type 0 where
  pub tables : Tables
  pub entries : List Entry
  pub upstream : Contents
  pub calls : List Asked
