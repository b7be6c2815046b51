-- the words before the rest are options and their values
use Rattle.std.proofs.Common.{◌≡◌, ◌≤◌, length}
use Rattle.command_line.specs.Words.{operands_of}
use Rattle.command_line.proofs.words.first_operand.Given as goal

abbrev pub invariant-loop-rest : goal.invariant-loop-rest
invariant-loop-rest l = record { same : operands_of l.rest ≡ operands_of l.words; fewer : length l.rest ≤ length l.words }

abbrev pub decreases-loop-rest : goal.decreases-loop-rest
decreases-loop-rest l = length l.rest
