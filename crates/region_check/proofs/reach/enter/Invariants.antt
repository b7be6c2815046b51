use Rattle.region_check.specs.Reach.{Entered}
use Rattle.region_check.proofs.reach.enter.Given as goal

abbrev pub invariant-loop-index : goal.invariant-loop-index
invariant-loop-index l = Entered l.words l.table l.index l.fn.marks l.marks l.fn.tables.items l.tables.items
