use Rattle.std.proofs.Common.{take}
use Rattle.unified_cas.specs.Over.{SeeksRefs}
use Rattle.unified_cas.proofs.storing.find_refs.Given as goal

-- the references before the index are there
abbrev pub invariant-loop-index : goal.invariant-loop-index
invariant-loop-index g l = SeeksRefs l.fn.who l.refs (take l.index l.refs) l.lacking (g.P.CellPort.view l.fn.port) (g.P.CellPort.view l.port)
