use Rattle.std.proofs.Common.{◌<◌, arith}
use Rattle.cell_port.proofs.Depths.{index-first, index-high, index-low}
use Rattle.cell_port.proofs.depth.index_at.Goals as goal

pub returns-then-level-eq0 : goal.returns-then-level-eq0
returns-then-level-eq0 c = index-first c.args.digest.now.bytes c.args.level c.if-level-eq0.true

pub returns-then-half-eq0 : goal.returns-then-half-eq0
returns-then-half-eq0 c = let some : 0 < c.args.level = omega arith in index-high c.args.digest.now.bytes c.args.level some c.if-half-eq0.true

pub returns-else-half-eq0 : goal.returns-else-half-eq0
returns-else-half-eq0 c = let some : 0 < c.args.level = omega arith in index-low c.args.digest.now.bytes c.args.level some c.if-half-eq0.false
