-- Contents that can be hashed.
use Rattle.std.specs.Prelude.{ℕ, ◌+◌, ◌<◌, ◌≤◌, List, length, slice_index}
use Rattle.region_check.specs.Flaws.{refs_told, bytes_told, end_told}

-- each is the place of a record within the words
abbrev pub AreWithin : List ℕ → List ℕ → Type 0
AreWithin words places = (i : ℕ) → i < length places → slice_index places i + 4 < length words

-- a content within the limits and the words, whose references are places of records within the words
pub record Fits (words : List ℕ) (place : ℕ) : Type 0 where
  pub inside : place < length words
  pub few : refs_told words place ≤ 65535
  pub short : bytes_told words place ≤ 16777215
  pub end : end_told words place ≤ length words
  pub references : (i : ℕ) → i < refs_told words place → slice_index words (place + 1 + i) + 4 < length words
