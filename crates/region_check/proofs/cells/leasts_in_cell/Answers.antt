use Rattle.region_check.specs.Shown.{CellShown}
use Rattle.region_check.proofs.Celling.{cell_shows_each}
use Rattle.region_check.proofs.Lowest.{each_none}
use Rattle.region_check.proofs.cells.leasts_in_cell.Goals as goal

pub returns-in-None : goal.returns-in-None
returns-in-None c =
    each_none (λ row. CellShown c.args.words.now row c.args.cell) c.args.rows c.none.result c.none.ensures.first c.none.ensures.second c.none.ensures.third (λ row n x. c.in-None.ensures x.0 x.1 x.2 x.3)

pub returns-in-Some : goal.returns-in-Some
returns-in-Some c = cell_shows_each c.args.words.now c.args.cell c.args.rows c.in-Some.owned.owner c.in-Some.owned.place c.content_flaws.result c.in-Some.ensures.0 c.in-Some.ensures.1 c.content_flaws.ensures
