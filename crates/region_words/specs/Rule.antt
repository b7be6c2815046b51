-- The rule of a region's words, and what each step tells the seat that makes it.
use Rattle.std.specs.Prelude.{◌≡◌, ◌⊎◌, ℕ, ◌+◌, ◌<◌, ◌≤◌, List, [], ◌∷◌, ◌++◌, length, cond, nat_lt, Some, None, true, false}
use Rattle.std.specs.declared.option.Option.{Option}
use Rattle.std.specs.Option.{option_map}
use Rattle.std.specs.declared.snapshot.Snapshot.{Snapshot}
use mathlib.Core.Option.{some}
use lib.ListN.{get_elem?}
use Rattle.atomic_table.specs.Table.{State as Table, Me, Step}
use Rattle.cas_model.specs.declared.note.Note.{Note}
use Rattle.cas_model.specs.declared.note.Stage.TheVariants.{Own}
use Rattle.cas_model.specs.Primary.{primary}
use Rattle.cas_model.specs.State.{State, empty_state}
use Rattle.cas_model.specs.Tables.{empty_start}
use Rattle.cas_history.specs.declared.event.Act.{Act}
use Rattle.cas_history.specs.declared.event.Act.TheVariants.{Claim, Room}
use Rattle.cas_history.specs.declared.event.Event.{Event}
use Rattle.cas_history.specs.Laws.{AreOfOtherSessions}
use Rattle.cas_port.specs.View.{open_words, write_word}
use Rattle.frozen_store.specs.Seen.{FrozenSeen}
use Rattle.region_core.specs.Heap.{Block}
use Rattle.region_words.specs.Blocks.{held, holding, new_block}
use Rattle.region_words.specs.Moves.{counter_limit}
use Rattle.region_words.specs.Numbers.{Has, own_number, AreOthers, IsHeard, ViewsGo}
use Rattle.region_words.specs.Running.{Origin, IsRun, after, IsRunning}
use Rattle.region_words.specs.declared.hold.Hold.{Hold}
use Rattle.region_words.specs.declared.hold.Hold.TheVariants as holds
use Rattle.region_words.specs.declared.rule.Key.{Key}
use Rattle.region_words.specs.declared.view.Heard.{Heard}
use Rattle.region_words.specs.declared.view.SeatView.{SeatView}

-- ---- the rule

-- the first seat at the start
abbrev pub first_view : SeatView
first_view = record { seen = []; numbers = 64 ∷ []; given = 0; blocks = []; working = []; heard = []; known = []; loads = 0; exchanges = 0 }

-- the state of a closed region that may be there
abbrev pub state_of : Option FrozenSeen → State
state_of None = empty_state
state_of (Some frozen) = primary frozen.tables

abbrev pub origin : Key → Origin
origin key = record { upstream = state_of (option_map (λ (s : Snapshot FrozenSeen). s.value) key.upstream); start = key.primary.value.tables }

-- there are a run and a labelling with which the words and the views go
abbrev pub Holds : Key → Table (Unit {0}) SeatView → Type 0
Holds key s = (log : List Event) × (heap : ℕ → Block) × IsRunning key.primary.value.words (origin key) log heap s.words s.views × ViewsGo log s.views

-- ---- views after steps

abbrev pub event : Note → Act → Event
event note act = record { note = note; act = act }

-- the seat has seen all of these
abbrev pub seeing : SeatView → List Event → SeatView
seeing v events = record v { seen = events; heard = [] }

-- and has one more block
abbrev pub claiming : Hold → SeatView → List Event → ℕ → Note → ℕ → SeatView
claiming hold v events place note n = holding hold (seeing v events) (new_block place note.who n ∷ held hold v)

-- a word of a block was written
abbrev pub writing : Hold → SeatView → ℕ → ℕ → ℕ → SeatView
writing hold v place index word = holding hold v (write_word (held hold v) place index word)

-- ---- what the steps ask and tell

-- a claim of so many words, noted with the seat's own number
abbrev pub AsksFor : Note → ℕ → SeatView → Type 0
AsksFor note n v = (note.who.session ≡ own_number v) × (1 ≤ n) × (n ≤ 2162688)

-- the seat's last step on the counter was a load that found room
abbrev pub FoundRoom : Origin → ℕ → SeatView → Type 0
FoundRoom o n v = (after o v.seen).counter + n ≤ o.start.size

-- what a step on the counter found: the counter, after events of others
pub record FindsCounter (o : Origin) (v : SeatView) (found : ℕ) (between : List Event) : Type 0 where
  pub others : AreOthers v.numbers between
  pub counter : found ≡ (after o (between ++ v.seen)).counter
  pub most : found ≤ counter_limit o.start.size

-- the counter was loaded. Where there was no room, the claim is refused
pub record LoadsCounter (o : Origin) (note : Note) (n : ℕ) (v : SeatView) (found : ℕ) (w : SeatView) : Type 0 where
  pub between : List Event
  pub finds : FindsCounter o v found between
  pub run : IsRun o w.seen
  pub limit : (after o w.seen).counter ≤ counter_limit o.start.size
  pub then : ((found + n ≤ o.start.size) × (w ≡ seeing v (between ++ v.seen)))
      ⊎ ((o.start.size < found + n) × (w ≡ seeing v (event note (Room n false) ∷ between ++ v.seen)))

-- the counter was added to, which claimed a block, or found no room and moved the counter
pub record AddsToCounter (o : Origin) (hold : Hold) (note : Note) (n : ℕ) (v : SeatView) (found : ℕ) (w : SeatView) : Type 0 where
  pub between : List Event
  pub finds : FindsCounter o v found between
  pub run : IsRun o w.seen
  pub limit : (after o w.seen).counter ≤ counter_limit o.start.size
  pub then : ((found + n ≤ o.start.size) × (w ≡ claiming hold v (event note (Claim n) ∷ between ++ v.seen) found note n))
      ⊎ ((o.start.size < found + n) × (w ≡ seeing v (event note (Room n true) ∷ between ++ v.seen)))

-- the block at the place is held so, and has the index
abbrev pub HasWordIn : Hold → SeatView → ℕ → ℕ → Type 0
HasWordIn hold v place index = index < length (open_words (held hold v) place)

-- a load of word 0 told what the seat had not seen, and of the two that were joined
pub record Hears (o : Origin) (v w : SeatView) : Type 0 where
  pub between : List Event
  pub others : AreOthers v.numbers between
  pub run : IsRun o w.seen
  pub is : w ≡ seeing v (between ++ v.seen)
  pub heard : (p : ℕ) (h : Heard) → get_elem? v.heard p ≡ some h → IsHeard w.seen v.numbers h
  pub fresh : own_number v ≡ 64 → (n : ℕ) → v.given ≤ n → n < 64 → AreOfOtherSessions n w.seen
  pub whole : own_number v ≡ 64 → ((n : ℕ) → n < v.given → Has n v.numbers) → (n : ℕ) → (Has n v.numbers → ⊥) → AreOfOtherSessions n w.seen

-- ---- splitting and joining

-- the first seat with one more number given
abbrev pub splitting : SeatView → SeatView
splitting v = record v { given = v.given + 1; heard = [] }

-- the seat of that number, which has seen as much and has no block
abbrev pub next_view : SeatView → SeatView
next_view v = record { seen = v.seen; numbers = v.given ∷ []; given = 0; blocks = []; working = []; heard = []; known = v.known; loads = 0; exchanges = 0 }

abbrev pub longer : List Event → List Event → List Event
longer xs ys = cond (nat_lt (length xs) (length ys)) ys xs

abbrev pub hearing : SeatView → Heard
hearing v = record { seen = v.seen; numbers = v.numbers }

abbrev pub joining : SeatView → SeatView → SeatView
joining v w = record {
  seen = longer v.seen w.seen;
  numbers = v.numbers ++ w.numbers;
  given = v.given;
  blocks = v.blocks ++ w.blocks;
  working = v.working ++ w.working;
  heard = hearing v ∷ hearing w ∷ [];
  known = v.known ++ w.known;
  loads = v.loads;
  exchanges = v.exchanges;
}

-- what is left of a seat that was joined into another
abbrev pub spent_view : SeatView
spent_view = record { seen = []; numbers = []; given = 0; blocks = []; working = []; heard = []; known = []; loads = 0; exchanges = 0 }

-- the second list goes on from the first by events of sessions with other numbers
pub record GoesOn (numbers : List ℕ) (seen all : List Event) : Type 0 where
  pub above : List Event
  pub is : all ≡ above ++ seen
  pub others : AreOthers numbers above

-- the seat with the number 64 was split: the new seat has the next number, has seen as much, and has seen no event of its session
pub record SplitsOff (o : Origin) (v w new : SeatView) : Type 0 where
  pub between : List Event
  pub others : AreOthers v.numbers between
  pub run : IsRun o new.seen
  pub first : w ≡ splitting (seeing v (between ++ v.seen))
  pub second : new ≡ next_view (seeing v (between ++ v.seen))
  pub fresh : AreOfOtherSessions v.given new.seen

-- the seat is the first one, and has all numbers that it gave
abbrev pub HasAllNumbers : SeatView → Type 0
HasAllNumbers v = (own_number v ≡ 64) × ((n : ℕ) → n < v.given → Has n v.numbers)

-- none of the events is of a session with a number that the seat has not
abbrev pub AreOwn : SeatView → List Event → Type 0
AreOwn v events = (n : ℕ) → (Has n v.numbers → ⊥) → AreOfOtherSessions n events

-- a seat took in another: what it has seen goes on from what each had seen, and it has what both had
pub record TakesIn (o : Origin) (v u w : SeatView) : Type 0 where
  pub run : IsRun o w.seen
  pub first : GoesOn v.numbers v.seen w.seen
  pub second : GoesOn u.numbers u.seen w.seen
  pub rest : w ≡ record (joining v u) { seen = w.seen; heard = [] }
  pub whole : HasAllNumbers w → AreOwn w w.seen

-- ---- the steps, as the table tells them

abbrev pub Sat : Type 0
Sat = Me (Unit {0}) SeatView

abbrev pub loads_counter : Origin → Note → ℕ → Step (Unit {0}) → Sat → ℕ → Sat → Type 0
loads_counter o note n step me found me' = LoadsCounter o note n me.0 found me'.0 × (me'.1 ≡ me.1)

abbrev pub adds_to_counter : Origin → Hold → Note → ℕ → Step (Unit {0}) → Sat → ℕ → Sat → Type 0
adds_to_counter o hold note n step me found me' = AddsToCounter o hold note n me.0 found me'.0 × (me'.1 ≡ me.1)

abbrev pub writes : Hold → ℕ → ℕ → Step (Unit {0}) → Sat → ℕ → Sat → Type 0
writes hold place index step me found me' = (me'.0 ≡ writing hold me.0 place index step.first) × (me'.1 ≡ me.1)

abbrev pub hears : Origin → Step (Unit {0}) → Sat → ℕ → Sat → Type 0
hears o step me found me' = Hears o me.0 me'.0 × (me'.1 ≡ me.1)

-- ---- what a step is made for, where none is made

abbrev pub no_origin : Origin
no_origin = record { upstream = empty_state; start = empty_start 0 }

abbrev pub no_note : Note
no_note = record { who = record { session = 0; index = 0 }; stage = Own }

abbrev pub no_hold : Hold
no_hold = holds.Caller
