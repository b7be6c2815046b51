use Rattle.std.proofs.Common.{◌≡◌, ◌+◌}
use Rattle.std.specs.VecDeque.{deque_len, deque_capacity}
use Rattle.cell_port.specs.Plain.{bind_claims}
use Rattle.cell_port.proofs.moves.add_claims.Given as goal

abbrev pub invariant-loop : goal.invariant-loop
invariant-loop l =
    (l.events.items ≡ bind_claims l.fn.note l.counter l.fn.events.items)
    × (deque_len l.events ≡ deque_len l.fn.events + l.counter + 1) × (deque_capacity l.events ≡ deque_capacity l.fn.events)
