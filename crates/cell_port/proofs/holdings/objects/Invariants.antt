use Rattle.std.proofs.Common.{◌≡◌, ◌≤◌, drop, length, reverse}
use Rattle.cell_port.specs.FilledRows.{filled_objects}
use Rattle.cell_port.specs.Shown.{contents_of}
use Rattle.cell_port.proofs.holdings.objects.Given as goal

abbrev pub invariant-loop-i : goal.invariant-loop-i
invariant-loop-i l = (l.i ≤ length l.tables.filled) × (l.objects.items ≡ reverse (filled_objects l.tables.bound (contents_of l.events.items l.shown l.tables) (drop l.i l.tables.filled)))

abbrev pub decreases-loop-i : goal.decreases-loop-i
decreases-loop-i l = l.i
