-- When the words of a running region go with a run, a labelling and the seats' blocks.
use Rattle.std.specs.Prelude.{◌≡◌, ◌≢◌, ℕ, ◌<◌, ◌≤◌, List, [], ◌∷◌, length, slice_index, Some}
use mathlib.Core.Option.{some}
use lib.ListN.{get_elem?}
use Rattle.cas_model.specs.State.{State}
use Rattle.cas_model.specs.Tables.{Tables, HasClaim}
use Rattle.cas_history.specs.declared.event.Event.{Event}
use Rattle.cas_history.specs.History.{events_of}
use Rattle.cas_history.specs.Lawful.{IsLawfulRun}
use Rattle.cas_history.specs.Run.{tables}
use Rattle.cas_port.specs.declared.block.OpenBlock.{OpenBlock}
use Rattle.cas_port.specs.View.{written_words}
use Rattle.region_core.specs.Goes.{Goes}
use Rattle.region_core.specs.Heap.{Block, Table, Claimed, Laid, memory_of}
use Rattle.region_words.specs.Blocks.{block_at, all_blocks, AreSingle}
use Rattle.region_words.specs.Moves.{moves_in, MovesAreSmall}
use Rattle.region_words.specs.declared.view.KnownTable.{KnownTable}
use Rattle.region_words.specs.declared.view.SeatView.{SeatView}

-- a region's upstream, and the tables of its start
pub record Origin : Type 0 where
  pub upstream : State
  pub start : Tables

-- the events are a lawful run
abbrev pub IsRun : Origin → List Event → Type 0
IsRun o log = IsLawfulRun o.upstream o.start log

-- the tables after a run
abbrev pub after : Origin → List Event → Tables
after o log = tables o.start log

-- a seat's block is claimed, with what was written in it and 0 where nothing was
pub record IsMine (heap : ℕ → Block) (t : Tables) (place : ℕ) (o : OpenBlock) : Type 0 where
  pub here : heap place ≡ Claimed (written_words o.words)
  pub claimed : HasClaim t.claims o.who place (length o.words)

-- each table is where a seat knows it
abbrev pub AreKnown : (ℕ → Block) → List KnownTable → Type 0
AreKnown heap [] = Unit {0}
AreKnown heap (k ∷ ks) = (heap k.place ≡ Table k.space k.way) × AreKnown heap ks

-- the words, of which the first ones began so
pub record IsRunning (first : List ℕ) (o : Origin) (log : List Event) (heap : ℕ → Block) (words : List ℕ) (views : List SeatView) : Type 0 where
  pub run : IsRun o log
  pub size : length words ≡ o.start.size
  -- the header is as it was, but for the counter, which is the run's
  pub counter : slice_index words 3 ≡ (after o log).counter
  pub header : (i : ℕ) → i < 8 → i ≢ 3 → slice_index words i ≡ slice_index first i
  -- the labels lie in the words that the start or a claim gave, and the words past these are 0
  pub laid : Laid heap (memory_of words) (after o log).given
  -- the labels are those of the run's tables
  pub goes : Goes heap (after o log)
  -- a seat's block is its own, and no other seat's
  pub mine : (j : ℕ) (v : SeatView) (q : ℕ) (b : OpenBlock) → get_elem? views j ≡ some v → block_at (all_blocks v) q ≡ Some b → IsMine heap (after o log) q b
  pub lone : (j k : ℕ) (v w : SeatView) (q : ℕ) (a b : OpenBlock) → get_elem? views j ≡ some v → get_elem? views k ≡ some w → block_at (all_blocks v) q ≡ Some a → block_at (all_blocks w) q ≡ Some b → j ≡ k
  pub single : (j : ℕ) (v : SeatView) → get_elem? views j ≡ some v → AreSingle (all_blocks v)
  -- the tables that seats know stay
  pub known : (j : ℕ) (v : SeatView) → get_elem? views j ≡ some v → AreKnown heap v.known
  -- no session has moved the counter past the end twice
  pub once : (n : ℕ) → moves_in (events_of n log) ≤ 1
  pub small : MovesAreSmall log
