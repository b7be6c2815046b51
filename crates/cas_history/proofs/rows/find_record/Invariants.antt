-- it is not among the records so far
use Rattle.std.proofs.Common.{◌≡◌, drop}
use Rattle.cas_model.specs.Tables.{record_at}
use Rattle.cas_history.proofs.rows.find_record.Given as goal

abbrev pub invariant-loop-r : goal.invariant-loop-r
invariant-loop-r l = record_at (drop l.r-index l.bound) l.place ≡ record_at l.bound l.place
