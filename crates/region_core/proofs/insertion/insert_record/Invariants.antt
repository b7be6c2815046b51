use Rattle.std.proofs.Common.{◌≤◌, ℕ, List, length}
use Rattle.cas_model.specs.declared.digest.Digest.{Digest}
use Rattle.region_core.specs.Heap.{Block}
use Rattle.region_core.specs.Inserts.{Descent, IsReady, SameHead}
use Rattle.region_core.proofs.insertion.insert_record.Given as goal

abbrev pub invariant-loop-level : goal.invariant-loop-level
invariant-loop-level l = record {
  fits : length l.words.items ≤ l.size;
  head : SameHead l.fn.words.items l.words.items;
  way : (heap : ℕ → Block) (known : List Digest) → IsReady heap known l.fn.words.items l.fn.space l.digest → Descent heap known l.words.items l.fn.space l.digest l.level l.table l.place;
}
