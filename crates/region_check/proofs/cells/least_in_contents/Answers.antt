use Rattle.region_check.proofs.Celling.{contents_least}
use Rattle.region_check.proofs.cells.least_in_contents.Goals as goal

pub returns : goal.returns
returns c = contents_least c.args.words.now c.args.row c.least_in_cells.result c.requires.contents c.least_in_cells.ensures
