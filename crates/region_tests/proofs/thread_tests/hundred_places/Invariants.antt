use Rattle.std.proofs.Common.{◌≡◌}
use Rattle.region_tests.proofs.thread_tests.hundred_places.Given as goal

abbrev pub invariant-loop : goal.invariant-loop
invariant-loop l = (l.seat.table_id ≡ l.region.table_id) × (l.seat.view.numbers ≡ l.fn.seat.view.numbers)
