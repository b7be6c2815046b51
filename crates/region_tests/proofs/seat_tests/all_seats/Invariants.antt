use Rattle.std.proofs.Common.{◌≡◌, All}
use Rattle.region_words.specs.Numbers.{own_number}
use Rattle.region_tests.proofs.seat_tests.all_seats.Given as goal

abbrev pub invariant-loop : goal.invariant-loop
invariant-loop l = (l.first.table_id ≡ l.region.table_id) × (own_number l.first.view ≡ 64) × (l.first.view.given ≡ l.counter) × All (λ s. s.table_id ≡ l.region.table_id) l.seats.items
