use Rattle.std.proofs.Common.{◌≤◌}
use Rattle.fault_in.proofs.Ordered.{IsInOrder}
use Rattle.fault_in.proofs.Walked.{IsUnderWay}
use Rattle.fault_in.proofs.Work.{work}
use Rattle.fault_in.proofs.walking.bring_tree.Given as goal

-- the objects that wait, and the newest open one
abbrev pub invariant-tree : goal.invariant-tree
invariant-tree g l = record {
  way : IsUnderWay l.fn.who l.fn.root.digest l.up.tables (g.P.CellPort.view l.fn.port) (g.P.CellPort.view l.port) l.waiting.items l.top;
  order : IsInOrder l.fn.who l.up.tables (g.P.CellPort.view l.fn.port) (g.P.CellPort.view l.port) l.waiting.items l.top;
}

abbrev pub decreases-tree : goal.decreases-tree
decreases-tree g l = work l.up.tables l.waiting.items l.top

-- the same, with no more work than before
abbrev pub invariant-refs : goal.invariant-refs
invariant-refs g l = record {
  way : IsUnderWay l.fn.who l.fn.root.digest l.up.tables (g.P.CellPort.view l.fn.port) (g.P.CellPort.view l.port) l.waiting.items l.top;
  order : IsInOrder l.fn.who l.up.tables (g.P.CellPort.view l.fn.port) (g.P.CellPort.view l.port) l.waiting.items l.top;
  less : work l.up.tables l.waiting.items l.top ≤ work l.up.tables l.initial.waiting.items l.initial.top;
}

abbrev pub decreases-refs : goal.decreases-refs
decreases-refs g l = work l.up.tables l.waiting.items l.top
