use Rattle.std.proofs.Common.{◌≡◌, map}
use Rattle.std.specs.Map.Iter.{deref_pair}
use Rattle.cell_port.proofs.PairRows.{pair_of}
use Rattle.cell_port.proofs.pairs.pairs.Given as goal

abbrev pub invariant-loop-bytes : goal.invariant-loop-bytes
invariant-loop-bytes l = l.pairs.items ≡ map pair_of (map deref_pair l.yielded)
