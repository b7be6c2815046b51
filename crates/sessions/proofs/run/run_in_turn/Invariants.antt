-- the sessions before the number ran
use Rattle.graph_db.specs.Storing.{IsLawfulOrSame}
use Rattle.sessions.proofs.Ordered.{HaveAddedInTurn}
use Rattle.sessions.proofs.Turned.{HaveTurned}
use Rattle.sessions.proofs.run.run_in_turn.Given as goal

abbrev pub invariant-loop-number : goal.invariant-loop-number
invariant-loop-number g l = record {
  turned : HaveTurned l.fn.script.sessions l.number l.replies.items (g.P.CellPort.view l.fn.port) (g.P.CellPort.view l.port);
  in_turn : HaveAddedInTurn l.number (g.P.CellPort.view l.fn.port) (g.P.CellPort.view l.port);
  lawful : IsLawfulOrSame (g.P.CellPort.view l.fn.port) (g.P.CellPort.view l.port);
}
