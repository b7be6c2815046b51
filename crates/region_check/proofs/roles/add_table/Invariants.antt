use Rattle.region_check.specs.Roles.{Adds, TableSlot, TableCell}
use Rattle.region_check.proofs.roles.add_table.Given as goal

abbrev pub invariant-loop-index : goal.invariant-loop-index
invariant-loop-index l = Adds l.fn.roles l.roles (TableSlot l.table l.index) (TableCell l.words l.space l.table l.index)
