use Rattle.std.proofs.Common.{◌≡◌, ◌+◌, ℕ, length, refl, sym, subst, arith}
use Rattle.region_check.specs.Reach.{table_of}
use Rattle.region_check.specs.Shown.{LeastWhere, TrieShown}
use Rattle.region_check.proofs.Lowest.{trie_more}
use Rattle.region_check.proofs.least.least_in_trie.Goals as goal

pub loop-table-preserved : goal.loop-table-preserved
loop-table-preserved c =
    subst (LeastWhere (TrieShown c.args.words.now c.args.row c.args.space c.args.tables.now (c.loop-table.table-index + 1))) (sym c.lower-least.ensures)
    (trie_more c.args.words.now c.args.row c.args.space c.args.tables.now c.loop-table.table-index (table_of c.args.tables.now c.loop-table.table-index) c.loop-table.least c.least_in_table.result refl c.loop-table.invariant c.least_in_table.ensures)

pub returns : goal.returns
returns c =
    let all : c.loop-table.table-index ≡ length c.args.tables.now = omega (arith, c.loop-table-test.false, c.loop-table.auto.table-index-end) in
    subst (λ (n : ℕ). LeastWhere (TrieShown c.args.words.now c.args.row c.args.space c.args.tables.now n) c.loop-table.least) all c.loop-table.invariant
