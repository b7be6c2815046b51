-- The numbers of seats, what each has seen, and how that goes with the run.
use Rattle.std.specs.Prelude.{◌≡◌, ◌⊎◌, ℕ, ◌<◌, ◌≤◌, List, [], ◌∷◌, ◌++◌, slice_index}
use mathlib.Core.Option.{some}
use lib.ListN.{get_elem?}
use Rattle.cas_history.specs.declared.event.Event.{Event}
use Rattle.cas_history.specs.History.{events_of}
use Rattle.cas_history.specs.Laws.{AreOfOtherSessions}
use Rattle.region_words.specs.declared.view.Heard.{Heard}
use Rattle.region_words.specs.declared.view.SeatView.{SeatView}

-- the number is in the list
abbrev pub Has : ℕ → List ℕ → Type 0
Has n [] = ⊥
Has n (m ∷ ms) = (n ≡ m) ⊎ Has n ms

-- the number of the seat itself, which is the session of its notes
abbrev pub own_number : SeatView → ℕ
own_number v = slice_index v.numbers 0

-- none of these events is of a session with a number of the list
abbrev pub AreOthers : List ℕ → List Event → Type 0
AreOthers numbers events = (n : ℕ) → Has n numbers → AreOfOtherSessions n events

-- what was seen goes on to the whole
abbrev pub Begins : List Event → List Event → Type 0
Begins seen log = (more : List Event) × (log ≡ more ++ seen)

-- no seat has the number
abbrev pub IsFree : List SeatView → ℕ → Type 0
IsFree views n = (j : ℕ) (v : SeatView) → get_elem? views j ≡ some v → Has n v.numbers → ⊥

-- the run has begun with what a joined seat had seen, and has no more events of the numbers that it brought
pub record IsHeard (log : List Event) (numbers : List ℕ) (h : Heard) : Type 0 where
  pub begins : Begins h.seen log
  pub own : (n : ℕ) → Has n h.numbers → Has n numbers × (events_of n log ≡ events_of n h.seen)

-- the views go with a run
pub record ViewsGo (log : List Event) (views : List SeatView) : Type 0 where
  -- each seat has seen how the run began, and one has seen all of it
  pub begins : (j : ℕ) (v : SeatView) → get_elem? views j ≡ some v → Begins v.seen log
  pub top : (j : ℕ) × (v : SeatView) × (get_elem? views j ≡ some v) × (v.seen ≡ log)
  -- a seat has seen all events of its numbers
  pub own : (j : ℕ) (v : SeatView) → get_elem? views j ≡ some v → (n : ℕ) → Has n v.numbers → events_of n log ≡ events_of n v.seen
  -- numbers are at most 64, no two seats have one, and each event is of a number that a seat has
  pub most : (j : ℕ) (v : SeatView) → get_elem? views j ≡ some v → (n : ℕ) → Has n v.numbers → n ≤ 64
  pub once : (j k : ℕ) (v w : SeatView) → get_elem? views j ≡ some v → get_elem? views k ≡ some w → (n : ℕ) → Has n v.numbers → Has n w.numbers → j ≡ k
  pub others : (n : ℕ) → IsFree views n → events_of n log ≡ []
  -- the first seat's next numbers are no seat's yet
  pub left : (j : ℕ) (v : SeatView) → get_elem? views j ≡ some v → own_number v ≡ 64 → (n : ℕ) → v.given ≤ n → n < 64 → IsFree views n
  pub heard : (j : ℕ) (v : SeatView) → get_elem? views j ≡ some v → (p : ℕ) (h : Heard) → get_elem? v.heard p ≡ some h → IsHeard log v.numbers h
