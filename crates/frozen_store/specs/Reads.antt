-- What is read of the contents of closed words.
use Rattle.std.specs.Prelude.{ℕ, ◌+◌, ◌<◌, List, [], ◌∷◌, length, slice_index}
use Rattle.cas_model.specs.State.{State}
use Rattle.region_core.specs.Leads.{IsContentOf, cell_there}
use Rattle.region_core.specs.Stands.{AreWords, Stands}

-- a content of words that stand for a state
pub record HasContentAt (words : List ℕ) (place : ℕ) : Type 0 where
  pub state : State
  pub stands : Stands words (slice_index words 2) state
  pub owner : ℕ
  pub content : IsContentOf words owner place

-- each is the place of a record within the words
abbrev pub ArePlacesWithin : List ℕ → List ℕ → Type 0
ArePlacesWithin words places = (i : ℕ) → i < length places → slice_index places i + 4 < length words

-- the cells of the records at these places
abbrev pub cells_there : List ℕ → List ℕ → List ℕ
cells_there words [] = []
cells_there words (p ∷ ps) = cell_there words p ∷ cells_there words ps

-- words of 64 bits that stand for a state
pub record IsWhole (words : List ℕ) : Type 0 where
  pub state : State
  pub stands : Stands words (slice_index words 2) state
  pub words_are : AreWords words
