use Rattle.region_check.specs.Sweep.{MarkedRun}
use Rattle.region_check.proofs.sweep.mark_block.Given as goal

abbrev pub invariant-loop-word : goal.invariant-loop-word
invariant-loop-word l = MarkedRun l.fn.roles l.roles l.at l.word
