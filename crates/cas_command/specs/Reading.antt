-- Reading a source to its end, or to the first byte past a limit. What the source has left is told where it knows it.
use Rattle.std.specs.Prelude.{◌≡◌, ℕ, ◌+◌, ◌≤◌, List, length}
use Rattle.std.specs.declared.option.Option.{Option}
use Rattle.std.specs.Io.KnownBytes.{Consumes, IsAtEnd}
use Rattle.cas_outside.specs.Causes.{Rose}
use Rattle.cas_command.specs.declared.input.Stop.{Stop}
use Rattle.cas_command.specs.declared.input.Stop.TheVariants.{Fault, Large, Memory}

-- these bytes are all that was left, and within the limit
pub record HasReadAll (most : ℕ) (before after : Option (List ℕ)) (bytes : List ℕ) : Type 0 where
  pub consumed : Consumes before after bytes
  pub ended : IsAtEnd after
  pub fits : length bytes ≤ most

-- one byte more than the limit was there
pub record HasTooMany (most : ℕ) (before after : Option (List ℕ)) : Type 0 where
  pub bytes : List ℕ
  pub consumed : Consumes before after bytes
  pub many : length bytes ≡ most + 1

-- why reading stopped
abbrev pub StoppedBy : ℕ → Option (List ℕ) → Option (List ℕ) → ℕ → ℕ → Stop → Type 0
StoppedBy most before after was now Fault = Rose was now
StoppedBy most before after was now Large = HasTooMany most before after
StoppedBy most before after was now Memory = Unit {0}
