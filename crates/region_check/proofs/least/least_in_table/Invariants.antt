use Rattle.region_check.specs.Shown.{LeastWhere, TableShown}
use Rattle.region_check.proofs.least.least_in_table.Given as goal

abbrev pub invariant-loop-index : goal.invariant-loop-index
invariant-loop-index l = LeastWhere (TableShown l.words l.row l.space l.table l.index) l.least
