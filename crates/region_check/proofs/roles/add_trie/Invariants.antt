use Rattle.region_check.specs.Roles.{Adds, TrieSlot, TrieCell}
use Rattle.region_check.proofs.roles.add_trie.Given as goal

abbrev pub invariant-loop-table : goal.invariant-loop-table
invariant-loop-table l = Adds l.fn.roles l.roles (TrieSlot l.tables l.table-index) (TrieCell l.words l.space l.tables l.table-index)
