use Rattle.std.proofs.Common.{take, unwrap_or}
use Rattle.generations.proofs.PruningLemmas.{Gathered}
use Rattle.generations.proofs.pruning.unused_among.Given as goal

-- the numbers of the names so far
abbrev pub invariant-loop-name : goal.invariant-loop-name
invariant-loop-name l = Gathered (take l.name-index l.names) (unwrap_or l.chain.upstream 0) l.numbers.items
