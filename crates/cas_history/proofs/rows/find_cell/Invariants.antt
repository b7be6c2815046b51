-- it is not among the cells so far
use Rattle.std.proofs.Common.{◌≡◌, drop}
use Rattle.cas_model.specs.Tables.{cell_of}
use Rattle.cas_history.proofs.rows.find_cell.Given as goal

abbrev pub invariant-loop-c : goal.invariant-loop-c
invariant-loop-c l = cell_of (drop l.c-index l.filled) l.place ≡ cell_of l.filled l.place
