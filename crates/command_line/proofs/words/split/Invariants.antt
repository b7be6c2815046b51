-- the words before the rest are taken apart
use Rattle.std.proofs.Common.{length}
use Rattle.command_line.proofs.SplitLemmas.{SoFar}
use Rattle.command_line.proofs.words.split.Given as goal

abbrev pub invariant-loop-rest : goal.invariant-loop-rest
invariant-loop-rest l = SoFar l.words l.rest l.count l.given

abbrev pub decreases-loop-rest : goal.decreases-loop-rest
decreases-loop-rest l = length l.rest
