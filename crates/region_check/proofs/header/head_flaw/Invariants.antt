use Rattle.std.proofs.Common.{ℕ, ◌<◌}
use Rattle.region_check.specs.Flaws.{IsBadHead}
use Rattle.region_check.proofs.header.head_flaw.Given as goal

abbrev pub invariant-loop-at : goal.invariant-loop-at
invariant-loop-at l = (i : ℕ) → i < l.at → IsBadHead l.words i → ⊥
