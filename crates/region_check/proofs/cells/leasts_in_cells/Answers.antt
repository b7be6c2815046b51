use Rattle.std.proofs.Common.{◌≡◌, ℕ, length, subst, arith}
use Rattle.region_check.specs.Shown.{LeastOfEach, CellsShown}
use Rattle.region_check.proofs.Celling.{cells_none, each_cell}
use Rattle.region_check.proofs.Lowest.{each_none}
use Rattle.region_check.proofs.cells.leasts_in_cells.Goals as goal

pub loop-cell-init : goal.loop-cell-init
loop-cell-init c =
    each_none (λ row. CellsShown c.args.words.now row 0) c.args.rows c.none-leasts.result c.none-leasts.ensures.first c.none-leasts.ensures.second c.none-leasts.ensures.third (λ row n x. cells_none c.args.words.now row n x)

pub loop-cell-preserved : goal.loop-cell-preserved
loop-cell-preserved c =
    each_cell c.args.words.now c.args.rows c.loop-cell.cell c.loop-cell.leasts c.leasts_in_cell.result c.lower-leasts.result c.lower-leasts.ensures.first c.lower-leasts.ensures.second c.lower-leasts.ensures.third c.loop-cell.invariant c.leasts_in_cell.ensures

pub returns : goal.returns
returns c =
    let all : c.loop-cell.cell ≡ length c.args.words.now = omega (arith, c.loop-cell-test.false, c.loop-cell.auto.cell-end) in
    subst (λ (n : ℕ). LeastOfEach (λ row. CellsShown c.args.words.now row n) c.args.rows c.loop-cell.leasts) all c.loop-cell.invariant
