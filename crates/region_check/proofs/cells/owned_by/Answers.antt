use Rattle.std.proofs.Common.{arith}
use Rattle.region_check.proofs.Celling.{owned}
use Rattle.region_check.proofs.cells.owned_by.Goals as goal

pub returns : goal.returns
returns c = owned c.args.words.now c.args.roles.now c.requires.roles c.args.cell (omega (arith, c.if-roles-cell-eq0.false)) (omega (arith, c.if-place-lt520.false)) (omega (arith, c.if-place-words.false))
