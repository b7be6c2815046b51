use Rattle.std.proofs.Common.{◌≡◌, ℕ, length, subst, arith}
use Rattle.region_check.specs.Shown.{LeastOfEach, TrieShown}
use Rattle.region_check.proofs.Lowest.{each_none, each_more, trie_none}
use Rattle.region_check.proofs.least.leasts_in_trie.Goals as goal

pub loop-table-init : goal.loop-table-init
loop-table-init c =
    each_none (λ row. TrieShown c.args.words.now row c.args.space c.args.tables.now 0) c.args.rows c.none-leasts.result c.none-leasts.ensures.first c.none-leasts.ensures.second c.none-leasts.ensures.third
    (λ row. trie_none c.args.words.now row c.args.space c.args.tables.now)

pub loop-table-preserved : goal.loop-table-preserved
loop-table-preserved c =
    each_more c.args.words.now c.args.space c.args.rows c.args.tables.now c.loop-table.table-index c.loop-table.leasts c.leasts_in_table.result c.lower-leasts.result c.lower-leasts.ensures.first c.lower-leasts.ensures.second c.lower-leasts.ensures.third c.loop-table.invariant
    c.leasts_in_table.ensures

pub returns : goal.returns
returns c =
    let all : c.loop-table.table-index ≡ length c.args.tables.now = omega (arith, c.loop-table-test.false, c.loop-table.auto.table-index-end) in
    subst (λ (n : ℕ). LeastOfEach (λ row. TrieShown c.args.words.now row c.args.space c.args.tables.now n) c.args.rows c.loop-table.leasts) all c.loop-table.invariant
