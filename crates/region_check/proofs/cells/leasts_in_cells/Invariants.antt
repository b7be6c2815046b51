use Rattle.region_check.specs.Shown.{LeastOfEach, CellsShown}
use Rattle.region_check.proofs.cells.leasts_in_cells.Given as goal

abbrev pub invariant-loop-cell : goal.invariant-loop-cell
invariant-loop-cell l = LeastOfEach (λ row. CellsShown l.words row l.cell) l.rows l.leasts
