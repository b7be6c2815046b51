-- the operands so far were read, and the rest has the others
use Rattle.std.proofs.Common.{length}
use Rattle.command_line.specs.Words.{operands_of}
use Rattle.command_line.proofs.WordLemmas.{OperandsSoFar}
use Rattle.command_line.proofs.words.read_operands.Given as goal

abbrev pub invariant-loop-operand : goal.invariant-loop-operand
invariant-loop-operand l = OperandsSoFar l.verb l.digests.items (operands_of l.words) (operands_of l.rest)

abbrev pub decreases-loop-operand : goal.decreases-loop-operand
decreases-loop-operand l = length l.rest
