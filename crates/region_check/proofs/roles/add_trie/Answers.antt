use Rattle.std.proofs.Common.{refl}
use Rattle.region_check.specs.Reach.{table_of}
use Rattle.region_check.proofs.Roling.{trie_more}
use Rattle.region_check.proofs.roles.add_trie.Goals as goal

pub loop-table-preserved : goal.loop-table-preserved
loop-table-preserved c = trie_more c.args.words.now c.args.roles.now c.loop-table.roles c.add_table.new.roles c.args.space c.args.tables.now c.loop-table.table-index (table_of c.args.tables.now c.loop-table.table-index) refl c.loop-table.invariant c.add_table.ensures
