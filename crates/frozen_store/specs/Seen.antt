-- What contracts see of closed words: the words, and the tables that they hold.
use Rattle.std.specs.Prelude.{◌≡◌, ℕ, zero, suc, List, Some, None, length, slice_index}
use Rattle.std.specs.declared.option.Option.{Option}
use Rattle.std.specs.FinMap as fin
use Rattle.cas_model.specs.declared.digest.Digest.{Digest}
use Rattle.cas_model.specs.declared.place.Place.{Place}
use Rattle.cas_model.specs.declared.place.Space.{Space}
use Rattle.cas_model.specs.Primary.{primary}
use Rattle.cas_model.specs.Start.{IsLawfulStart}
use Rattle.cas_model.specs.State.{State, IsClosed, IsStorable}
use Rattle.cas_model.specs.Tables.{Tables, place_of}
use Rattle.region_core.specs.Found.{tables_in}
use Rattle.region_core.specs.Stands.{AreWords, Stands}

pub record FrozenSeen : Type 0 where
  pub words : List ℕ
  pub tables : Tables

-- the words stand for a state, with so many objects and keys
pub record IsFrozen (words : List ℕ) (objects actions : ℕ) : Type 0 where
  pub state : State
  pub stands : Stands words (slice_index words 2) state
  pub words_are : AreWords words
  pub objects_are : objects ≡ fin.len state.objects
  pub actions_are : actions ≡ fin.len state.cache

-- words that stand for some state
pub record HasState (words : List ℕ) : Type 0 where
  pub state : State
  pub stands : Stands words (slice_index words 2) state

-- the tables are those that a reader finds in the words, which stand for the state that the tables name
pub record IsSeen (seen : FrozenSeen) : Type 0 where
  pub tables : seen.tables ≡ tables_in seen.words
  pub stands : Stands seen.words seen.tables.size (primary seen.tables)
  pub start : IsLawfulStart seen.tables
  pub counter : seen.tables.counter ≡ length seen.words
  pub words_are : AreWords seen.words
  pub closed : IsClosed (primary seen.tables)
  pub storable : IsStorable (primary seen.tables)

-- the place in a cell, and none in an empty one
abbrev pub place_in : ℕ → Option Place
place_in zero = None
place_in (suc n) = Some (record { at = suc n })

-- the place is that of a bound record
pub record IsBoundAt (seen : FrozenSeen) (p : Place) : Type 0 where
  pub space : Space
  pub digest : Digest
  pub is : place_of seen.tables.bound space digest ≡ Some p
