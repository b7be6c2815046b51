-- the lines before the index ran
use Rattle.sessions.proofs.LinesRun.{HaveRunLines}
use Rattle.sessions.proofs.session.run_session.Given as goal

abbrev pub invariant-loop-line : goal.invariant-loop-line
invariant-loop-line g l = HaveRunLines l.fn.turn.session l.fn.session.lines l.line-index l.replies.items (g.P.CellPort.view l.fn.port) (g.P.CellPort.view l.port)
