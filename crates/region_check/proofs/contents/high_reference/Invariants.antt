use Rattle.std.proofs.Common.{ℕ, ◌+◌, ◌<◌, ◌≤◌, get_or}
use Rattle.region_core.specs.Leads.{cell_there}
use Rattle.region_check.proofs.contents.high_reference.Given as goal

abbrev pub invariant-loop-index : goal.invariant-loop-index
invariant-loop-index l = (i : ℕ) → i < l.index → l.place ≤ cell_there l.words (get_or l.words (l.place + 1 + i) 0) → ⊥
