-- it is not among the records so far
use Rattle.std.proofs.Common.{◌≡◌, drop}
use Rattle.cas_model.specs.Tables.{place_of}
use Rattle.cas_history.proofs.rows.find_place.Given as goal

abbrev pub invariant-loop-r : goal.invariant-loop-r
invariant-loop-r l = place_of (drop l.r-index l.bound) l.fn.space l.digest ≡ place_of l.bound l.fn.space l.digest
