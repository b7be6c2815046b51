use Rattle.std.proofs.Common.{◌≡◌, ◌++◌}
use Rattle.std.specs.Vec.{vec_capacity}
use Rattle.cas_port.specs.Blank.{none_written}
use Rattle.cas_port.proofs.block.extend_to.Given as goal

abbrev pub invariant-loop : goal.invariant-loop
invariant-loop l = (l.words.items ≡ l.fn.words.items ++ none_written l.counter) × (vec_capacity l.words ≡ vec_capacity l.fn.words)
