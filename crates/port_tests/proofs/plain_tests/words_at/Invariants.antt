use Rattle.std.proofs.Common.{◌≡◌}
use Rattle.port_tests.proofs.plain_tests.words_at.Given as goal

-- the port is as it was
abbrev pub invariant-loop-index : goal.invariant-loop-index
invariant-loop-index g l = g.P.CellPort.view l.port ≡ g.P.CellPort.view l.fn.port
