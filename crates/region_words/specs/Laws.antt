-- What holds of the views and the words of running regions, whoever makes the steps.
use Rattle.std.specs.Prelude.{◌≡◌, ℕ, ◌<◌, ◌≤◌, List, [], ◌∷◌, ◌++◌, slice_index, slice_set}
use mathlib.Core.Option.{some}
use lib.ListN.{get_elem?}
use Rattle.cas_history.specs.declared.event.Event.{Event}
use Rattle.cas_history.specs.History.{events_of}
use Rattle.cas_model.specs.Start.{IsLawfulStart}
use Rattle.region_core.specs.Heap.{Block}
use Rattle.region_words.specs.Moves.{counter_limit}
use Rattle.region_words.specs.Numbers.{Has, own_number, ViewsGo}
use Rattle.region_words.specs.Rule.{splitting, next_view, joining, spent_view}
use Rattle.region_words.specs.Running.{Origin, IsRunning}
use Rattle.region_words.specs.declared.view.SeatView.{SeatView}

-- the events are of sessions with these numbers alone
abbrev pub AreOf : List ℕ → List Event → Type 0
AreOf numbers events = (n : ℕ) → (Has n numbers → ⊥) → events_of n events ≡ []

-- a step that adds events of the seat's own sessions, or none, and after which the seat has seen all
abbrev pub StepsKeepViews : Type 0
StepsKeepViews = (log : List Event) (views : List SeatView) (go : ViewsGo log views) (id : ℕ) (v w : SeatView) (more : List Event) → get_elem? views id ≡ some v
    → w.seen ≡ more ++ log → w.numbers ≡ v.numbers → w.given ≡ v.given → w.heard ≡ [] → AreOf v.numbers more → ViewsGo (more ++ log) (slice_set views id w)

-- a step that adds nothing, and after which the seat has seen what it had
abbrev pub QuietStepsKeepViews : Type 0
QuietStepsKeepViews = (log : List Event) (views : List SeatView) (go : ViewsGo log views) (id : ℕ) (v w : SeatView) → get_elem? views id ≡ some v
    → w.seen ≡ v.seen → w.numbers ≡ v.numbers → w.given ≡ v.given → w.heard ≡ v.heard → ViewsGo log (slice_set views id w)

-- a seat that the first one gives its next number
abbrev pub SplitsKeepViews : Type 0
SplitsKeepViews = (log : List Event) (views : List SeatView) (go : ViewsGo log views) (id : ℕ) (v : SeatView) → get_elem? views id ≡ some v → own_number v ≡ 64 → v.given < 64
    → ViewsGo log (slice_set views id (splitting v) ++ next_view v ∷ [])

-- two seats that become one, while nothing is left of the second
abbrev pub JoinsKeepViews : Type 0
JoinsKeepViews = (log : List Event) (views : List SeatView) (go : ViewsGo log views) (id other : ℕ) (v w : SeatView) → get_elem? views id ≡ some v → (other ≡ id → ⊥)
    → get_elem? (slice_set views id (joining v w)) other ≡ some w → Has (own_number v) v.numbers → ViewsGo log (slice_set (slice_set views id (joining v w)) other spent_view)

-- the counter in the words never passes its limit
abbrev pub CounterHasLimit : Type 0
CounterHasLimit = (first : List ℕ) (o : Origin) → IsLawfulStart o.start → (log : List Event) (heap : ℕ → Block) (words : List ℕ) (views : List SeatView) → IsRunning first o log heap words views
    → slice_index words 3 ≤ counter_limit o.start.size
