use Rattle.region_check.specs.Shown.{LeastWhere, CellsShown}
use Rattle.region_check.proofs.cells.least_in_cells.Given as goal

abbrev pub invariant-loop-cell : goal.invariant-loop-cell
invariant-loop-cell l = LeastWhere (CellsShown l.words l.row l.cell) l.least
