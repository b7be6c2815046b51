use Rattle.std.proofs.Common.{◌≡◌, ◌≤◌, ◌-◌, true}
use Rattle.cell_port.specs.Depth.{shares}
use Rattle.cell_port.proofs.depth.common_level.Given as goal

abbrev pub invariant-loop-level : goal.invariant-loop-level
invariant-loop-level l = (l.level ≤ 62) × (shares l.a l.b l.level ≡ true)

abbrev pub decreases-loop-level : goal.decreases-loop-level
decreases-loop-level l = 62 - l.level
