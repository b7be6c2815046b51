use Rattle.region_check.specs.Shown.{LeastWhere, TrieShown}
use Rattle.region_check.proofs.least.least_in_trie.Given as goal

abbrev pub invariant-loop-table : goal.invariant-loop-table
invariant-loop-table l = LeastWhere (TrieShown l.words l.row l.space l.tables l.table-index) l.least
