use Rattle.std.proofs.Common.{◌≡◌, All}
use Rattle.std.specs.Vec.Iter.{into_iter_items}
use Rattle.region_tests.proofs.seat_tests.joined.Given as goal

abbrev pub invariant-loop-seat : goal.invariant-loop-seat
invariant-loop-seat l = (goal.iterator-loop-seat).can_next l.seat-iterator × (goal.iterator-loop-seat).is_finite l.seat-iterator × (l.first.table_id ≡ l.region.table_id) × All (λ s. s.table_id ≡ l.region.table_id) (into_iter_items l.seat-iterator)
