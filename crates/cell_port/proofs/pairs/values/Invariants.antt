use Rattle.std.proofs.Common.{◌≡◌, ◌≤◌, drop, length}
use Rattle.std.specs.BTreeMap as tree
use Rattle.std.specs.FinMap as fin
use Rattle.cas_model.specs.declared.digest.Digest.{Digest}
use Rattle.cas_model.specs.Contents.{actions_map}
use Rattle.std.specs.Ordering.{nat_cmp}
use Rattle.std.specs.Cmp.Lexicographic.{slice_cmp}
use Rattle.cell_port.specs.FilledRows.{filled_pairs}
use Rattle.cell_port.proofs.pairs.values.Given as goal

abbrev pub invariant-loop-i : goal.invariant-loop-i
invariant-loop-i l =
    (l.i ≤ length l.tables.filled) × ((q : Digest) → tree.get (slice_cmp nat_cmp) l.values q.bytes ≡ fin.get (actions_map (filled_pairs l.tables.bound (drop l.i l.tables.filled))) q)

abbrev pub decreases-loop-i : goal.decreases-loop-i
decreases-loop-i l = l.i
