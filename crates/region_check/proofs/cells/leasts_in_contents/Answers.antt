use Rattle.region_check.specs.declared.slot_flaws.Row.TheVariants.{Padding, Reference, Order}
use Rattle.region_check.proofs.Celling.{contents_least}
use Rattle.region_check.proofs.cells.leasts_in_contents.Goals as goal

pub returns-clause-padding : goal.returns-clause-padding
returns-clause-padding c = contents_least c.args.words.now Padding c.leasts_in_cells.result.first tt c.leasts_in_cells.ensures.first

pub returns-clause-reference : goal.returns-clause-reference
returns-clause-reference c = contents_least c.args.words.now Reference c.leasts_in_cells.result.second tt c.leasts_in_cells.ensures.second

pub returns-clause-order : goal.returns-clause-order
returns-clause-order c = contents_least c.args.words.now Order c.leasts_in_cells.result.third tt c.leasts_in_cells.ensures.third
