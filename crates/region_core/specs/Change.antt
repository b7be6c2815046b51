-- The changes of a single word, and of what begins at a single place.
use Rattle.std.specs.Prelude.{◌≡◌, ◌≢◌, ℕ}
use Rattle.region_core.specs.Heap.{Block}

-- one word is changed
pub record Wrote (before after : ℕ → ℕ) (at word : ℕ) : Type 0 where
  pub now : after at ≡ word
  pub same : (i : ℕ) → i ≢ at → after i ≡ before i

-- one place has another block
pub record Placed (before after : ℕ → Block) (at : ℕ) (block : Block) : Type 0 where
  pub now : after at ≡ block
  pub same : (p : ℕ) → p ≢ at → after p ≡ before p
