-- What never changes as a run goes on.
use Rattle.std.specs.Prelude.{◌≡◌, ℕ, ◌<◌, List, Some}
use Rattle.cas_model.specs.declared.digest.Digest.{Digest}
use Rattle.cas_model.specs.declared.place.Place.{Place}
use Rattle.cas_model.specs.declared.place.Space.{Space}
use Rattle.cas_model.specs.declared.tables.Record.{Record}
use Rattle.cas_model.specs.Tables.{Tables, place_of, record_at, cell_of, words_at}

-- every bound place, filled cell and block of the first tables is the same in the second
pub record Grows (s t : Tables) : Type 0 where
  pub size : t.size ≡ s.size
  pub records : (n : ℕ) (r : Record) → record_at s.bound n ≡ Some r → record_at t.bound n ≡ Some r
  pub places : (space : Space) (digest : Digest) (p : Place) → place_of s.bound space digest ≡ Some p → place_of t.bound space digest ≡ Some p
  pub cells : (n : ℕ) → 0 < cell_of s.filled n → cell_of t.filled n ≡ cell_of s.filled n
  pub blocks : (n : ℕ) (words : List ℕ) → words_at s.blocks n ≡ Some words → words_at t.blocks n ≡ Some words
