use Rattle.region_check.proofs.Celling.{cell_shows}
use Rattle.region_check.proofs.cells.least_in_cell.Goals as goal

pub returns-in-None : goal.returns-in-None
returns-in-None c = λ n x. c.in-None.ensures x.0 x.1 x.2 x.3

pub returns-in-Some : goal.returns-in-Some
returns-in-Some c = cell_shows c.args.words.now c.args.cell c.args.row c.in-Some.owned.owner c.in-Some.owned.place c.content_flaw.result c.in-Some.ensures.0 c.in-Some.ensures.1 c.content_flaw.ensures
