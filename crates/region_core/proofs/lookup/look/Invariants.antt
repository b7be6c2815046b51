use Rattle.std.proofs.Common.{◌≡◌, ℕ, length}
use Rattle.cas_model.specs.Trie.{path}
use Rattle.region_core.specs.Heap.{Block, Table, Laid, memory_of}
use Rattle.region_core.proofs.lookup.look.Given as goal

abbrev pub invariant-loop-level : goal.invariant-loop-level
invariant-loop-level l = (heap : ℕ → Block) → Laid heap (memory_of l.words) (length l.words) → heap l.table ≡ Table l.fn.space (path l.digest.bytes l.level)
