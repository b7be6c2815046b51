-- What one more event changes in the tables, by its kind, as the look-ups say it.
use Rattle.std.specs.Prelude.{◌≡◌, ◌≢◌, ℕ, zero, suc, ◌+◌, List, [], ◌∷◌, cond, Some, None}
use Rattle.std.specs.declared.option.Option.{Option}
use Rattle.cas_model.specs.declared.call.Who.{Who}
use Rattle.cas_model.specs.declared.digest.Digest.{Digest}
use Rattle.cas_model.specs.declared.place.Place.{Place}
use Rattle.cas_model.specs.declared.place.Space.{Space}
use Rattle.cas_model.specs.Tables.{Tables, place_of, record_at, cell_of, words_at}
use Rattle.cas_history.specs.declared.event.Act.{Act}
use Rattle.cas_history.specs.declared.event.Act.TheVariants.{Look, Bind, Read, Claim, Room, Fill}
use Rattle.cas_history.specs.Run.{claimed_by}

-- the second tables have one more bound digest, with its record at this place, and differ in nothing else
pub record BindsOne (s t : Tables) (space : Space) (digest : Digest) (own : Place) : Type 0 where
  pub bound : place_of t.bound space digest ≡ Some own
  pub record_ : record_at t.bound own.at ≡ Some (record { space = space; digest = digest; place = own })
  pub other_digests : (its : Space) (d : Digest) → ((its ≡ space) × (d ≡ digest) → ⊥) → place_of t.bound its d ≡ place_of s.bound its d
  pub other_records : (n : ℕ) → n ≢ own.at → record_at t.bound n ≡ record_at s.bound n
  pub rest : t ≡ record s { bound = t.bound }

-- the content at this place is of these words, where there are any
abbrev pub Publishes : Tables → ℕ → List ℕ → Type 0
Publishes t value [] = Unit {0}
Publishes t value (w ∷ ws) = words_at t.blocks value ≡ Some (w ∷ ws)

-- the second tables have one more filled cell, and the words of its content, and differ in nothing else
pub record FillsOne (s t : Tables) (cell : Place) (value : ℕ) (words : List ℕ) : Type 0 where
  pub filled : cell_of t.filled cell.at ≡ value
  pub published : Publishes t value words
  pub other_cells : (n : ℕ) → n ≢ cell.at → cell_of t.filled n ≡ cell_of s.filled n
  pub other_contents : (n : ℕ) → n ≢ value → words_at t.blocks n ≡ words_at s.blocks n
  pub no_content : words ≡ [] → t.blocks ≡ s.blocks
  pub rest : t ≡ record s { filled = t.filled; blocks = t.blocks }

-- a bind changes the tables where the digest was bound to nothing
abbrev pub BindChanges : Tables → Tables → Space → Digest → Option Place → Option Place → Type 0
BindChanges s t space digest (Some p) own = t ≡ s
BindChanges s t space digest None None = t ≡ s
BindChanges s t space digest None (Some own) = BindsOne s t space digest own

-- a fill changes the tables where the cell was 0
abbrev pub FillChanges : Tables → Tables → ℕ → Place → ℕ → List ℕ → Type 0
FillChanges s t (suc had) cell value words = t ≡ s
FillChanges s t zero cell value words = FillsOne s t cell value words

-- what an act of a call changes
abbrev pub Changes : Tables → Who → Act → Tables → Type 0
Changes s who (Look space digest) t = t ≡ s
Changes s who (Bind space digest own) t = BindChanges s t space digest (place_of s.bound space digest) own
Changes s who (Read cell) t = t ≡ s
Changes s who (Claim n) t = t ≡ claimed_by s who n
Changes s who (Room n moved) t = t ≡ record s { counter = cond moved (s.counter + n) s.counter }
Changes s who (Fill cell value words) t = FillChanges s t (cell_of s.filled cell.at) cell value words
