use Rattle.std.proofs.Common.{◌≡◌, All}
use Rattle.region_tests.proofs.seat_tests.joined_backwards.Given as goal

abbrev pub invariant-loop-seat : goal.invariant-loop-seat
invariant-loop-seat l = (l.first.table_id ≡ l.region.table_id) × All (λ s. s.table_id ≡ l.region.table_id) l.seats.items

abbrev pub decreases-loop-seat : goal.decreases-loop-seat
decreases-loop-seat l = goal.left-loop-seat l
