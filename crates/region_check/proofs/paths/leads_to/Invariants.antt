use Rattle.region_check.proofs.Loops.{Walked}
use Rattle.region_check.proofs.paths.leads_to.Given as goal

abbrev pub invariant-loop-level : goal.invariant-loop-level
invariant-loop-level l = Walked l.words l.fn.space l.digest l.slot l.level l.table
