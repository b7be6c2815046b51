use Rattle.std.proofs.Common.{◌≡◌, ◌+◌, drop}
use Rattle.cell_port.specs.Tables.{first_at}
use Rattle.cell_port.proofs.searches.find_open.Given as goal

abbrev pub invariant-loop-i : goal.invariant-loop-i
invariant-loop-i l = l.i + first_at (drop l.i l.opened.items) l.place ≡ first_at l.opened.items l.place
