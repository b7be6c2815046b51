-- What a region's history and words are when it is closed.
use Rattle.std.specs.Prelude.{◌≡◌, ℕ, ◌≤◌, List, length, take, min, slice_index, slice_set}
use Rattle.cas_history.specs.declared.event.Event.{Event}
use Rattle.cas_history.specs.Run.{primary_of}
use Rattle.cas_model.specs.Primary.{primary}
use Rattle.frozen_store.specs.Seen.{FrozenSeen}
use Rattle.region_core.specs.Stands.{Stands}
use Rattle.region_words.specs.Rule.{GoesOn, HasAllNumbers, AreOwn, origin}
use Rattle.region_words.specs.Running.{Origin, IsRun, after}
use Rattle.region_words.specs.declared.rule.Key.{Key}
use Rattle.region_words.specs.declared.view.SeatView.{SeatView}

-- the history at closing goes on from what the last seat had seen, by events of sessions whose numbers it has not. Where it is the first seat, and
-- has all numbers that it gave, there are no such events
pub record Ends (o : Origin) (v : SeatView) (log : List Event) : Type 0 where
  pub goes_on : GoesOn v.numbers v.seen log
  pub run : IsRun o log
  pub whole : HasAllNumbers v → AreOwn v log

-- the counter of the closed words: no claim lies past the end
abbrev pub closed_counter : Origin → List Event → ℕ
closed_counter o log = min (after o log).counter o.start.size

-- the closed words stand for the state at the end of the history
pub record StandFor (o : Origin) (log : List Event) (words : List ℕ) : Type 0 where
  pub long : length words ≡ closed_counter o log
  pub stands : Stands words o.start.size (primary_of o.start log)

-- and so do the tables that a reader of the closed region finds
pub record NamesTheEnd (o : Origin) (log : List Event) (frozen : FrozenSeen) : Type 0 where
  pub size : frozen.tables.size ≡ o.start.size
  pub counter : frozen.tables.counter ≡ closed_counter o log
  pub state : primary frozen.tables ≡ primary_of o.start log

-- the words below a place, with this place as their counter
abbrev pub cut_at : ℕ → List ℕ → List ℕ
cut_at n words = slice_set (take n words) 3 n

-- the words that a closing keeps
abbrev pub kept : ℕ → List ℕ → List ℕ
kept size words = cut_at (min (slice_index words 3) size) words

-- the words at closing are those of a history that goes on from what the last seat had seen, and stand for its end where they are cut
pub record ClosesWith (key : Key) (v : SeatView) (words : List ℕ) : Type 0 where
  pub least : 520 ≤ slice_index words 3
  pub log : List Event
  pub ends : Ends (origin key) v log
  pub stand : StandFor (origin key) log (kept (origin key).start.size words)
