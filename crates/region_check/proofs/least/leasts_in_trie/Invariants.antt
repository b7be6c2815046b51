use Rattle.region_check.specs.Shown.{LeastOfEach, TrieShown}
use Rattle.region_check.proofs.least.leasts_in_trie.Given as goal

abbrev pub invariant-loop-table : goal.invariant-loop-table
invariant-loop-table l = LeastOfEach (λ row. TrieShown l.words row l.space l.tables l.table-index) l.rows l.leasts
