use Rattle.std.proofs.Common.{take}
use Rattle.unified_cas.specs.Over.{BringsRefs}
use Rattle.unified_cas.proofs.storing.bring_refs.Given as goal

-- the references before the index are in
abbrev pub invariant-loop-digest : goal.invariant-loop-digest
invariant-loop-digest g l = BringsRefs l.fn.who l.refs (take l.digest-index l.refs) (g.P.CellPort.view l.fn.port) (g.P.CellPort.view l.port)
