use Rattle.std.proofs.Common.{take}
use Rattle.generations.specs.Chain.{AreTwoHighest, IsListed}
use Rattle.generations.proofs.chain.Chain.of.Given as goal

-- the two highest of the names so far
abbrev pub invariant-loop-name : goal.invariant-loop-name
invariant-loop-name l = AreTwoHighest (IsListed (take l.name-index l.names)) l.chain.primary l.chain.upstream
