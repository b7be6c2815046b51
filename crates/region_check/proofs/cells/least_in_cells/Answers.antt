use Rattle.std.proofs.Common.{◌≡◌, ◌+◌, ℕ, length, sym, subst, arith}
use Rattle.region_check.specs.Shown.{LeastWhere, CellsShown}
use Rattle.region_check.proofs.Celling.{cells_more}
use Rattle.region_check.proofs.cells.least_in_cells.Goals as goal

pub loop-cell-preserved : goal.loop-cell-preserved
loop-cell-preserved c =
    subst (LeastWhere (CellsShown c.args.words.now c.args.row (c.loop-cell.cell + 1))) (sym c.lower-least.ensures)
    (cells_more c.args.words.now c.args.row c.loop-cell.cell c.loop-cell.least c.least_in_cell.result c.loop-cell.invariant c.least_in_cell.ensures)

pub returns : goal.returns
returns c =
    let all : c.loop-cell.cell ≡ length c.args.words.now = omega (arith, c.loop-cell-test.false, c.loop-cell.auto.cell-end) in
    subst (λ (n : ℕ). LeastWhere (CellsShown c.args.words.now c.args.row n) c.loop-cell.least) all c.loop-cell.invariant
