use Rattle.std.proofs.Common.{arith}
use Rattle.region_check.proofs.Reaching.{table_inside}
use Rattle.region_check.proofs.Roling.{table_more}
use Rattle.region_check.proofs.roles.add_table.Goals as goal

pub add_roles-requires-clause-slot : goal.add_roles-requires-clause-slot
add_roles-requires-clause-slot c = omega (arith, c.loop-index-test.true, c.slots-index-end.ensures, table_inside c.args.words.now c.args.space c.args.table.now c.requires.least c.requires.led)

pub loop-index-preserved : goal.loop-index-preserved
loop-index-preserved c = table_more c.args.words.now c.args.roles.now c.loop-index.roles c.add_roles.new.roles c.args.space c.args.table.now c.loop-index.index c.loop-index.invariant c.add_roles.ensures
