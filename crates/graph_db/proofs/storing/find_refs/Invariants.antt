use Rattle.graph_db.specs.Storing.{FindsFirst}
use Rattle.graph_db.proofs.storing.find_refs.Given as goal

-- the references before the index were found
abbrev pub invariant-loop-index : goal.invariant-loop-index
invariant-loop-index g l = FindsFirst l.fn.who l.refs l.index (g.P.CellPort.view l.fn.port) (g.P.CellPort.view l.port)
