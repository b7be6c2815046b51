-- The filled records of a trie, counted by a walk that lists none.
use Rattle.std.specs.Prelude.{◌≡◌, ℕ, ◌≤◌, List, [], length}
use Rattle.cas_model.specs.declared.place.Space.{Space}
use Rattle.frozen_store.specs.Gathers.{Gathers, GathersBelow, GathersSlot, AreFilled}

-- the walk of a table would list so many places
pub record Tallies (words : List ℕ) (table slots count : ℕ) : Type 0 where
  pub places : List ℕ
  pub gathers : Gathers words table slots [] places
  pub long : length places ≡ count
  pub few : count ≤ 67108864

-- the walk of the first n slots of a table would list so many
pub record TalliesBelow (words : List ℕ) (table slots n count : ℕ) : Type 0 where
  pub places : List ℕ
  pub gathers : GathersBelow words table slots n [] places
  pub long : length places ≡ count
  pub few : count ≤ 67108864

-- the walk of a slot would list so many
pub record TalliesSlot (words : List ℕ) (table index count : ℕ) : Type 0 where
  pub places : List ℕ
  pub gathers : GathersSlot words table index [] places
  pub long : length places ≡ count
  pub few : count ≤ 67108864

-- the trie has so many filled records
pub record AreSoMany (words : List ℕ) (space : Space) (count : ℕ) : Type 0 where
  pub places : List ℕ
  pub filled : AreFilled words space places
  pub long : length places ≡ count
