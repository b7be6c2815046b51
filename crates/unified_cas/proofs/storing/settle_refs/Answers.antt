-- what settling the references leaves
use Rattle.graph_db.proofs.Steps.{err-made}
use Rattle.fault_in.specs.declared.error.FaultInError.TheVariants.{Memory}
use Rattle.unified_cas.proofs.AloneLemmas.{on-error}
use Rattle.unified_cas.proofs.StoresOver.{settle-early, settle-stops, settles-absent, settles-all, settles-brought}
use Rattle.unified_cas.proofs.UnderWay.{lawful-then-or}
use Rattle.unified_cas.proofs.storing.settle_refs.Goals as goal

pub returns-in_err-find_refs-clause-err : goal.returns-in_err-find_refs-clause-err
returns-in_err-find_refs-clause-err g c =
    err-made _ Memory _ c.from_residual.ensures.1 (settle-stops c.args.who c.args.refs.now (g.P.CellPort.view c.args.port.now) _ c.in_err-find_refs.ensures.err)

pub returns-in_err-bring_refs-in-Lacking-clause-err : goal.returns-in_err-bring_refs-in-Lacking-clause-err
returns-in_err-bring_refs-in-Lacking-clause-err g c =
    err-made _ _ _ c.from_residual-in_err-bring_refs-in-Lacking.ensures.1
    (settle-early c.args.who c.args.refs.now (g.P.CellPort.view c.args.port.now) _ (rw c.in-Lacking.is at c.in_ok-find_refs.ensures.ok) _ _ c.in_err-bring_refs-in-Lacking.ensures.err)

pub returns-in-All-clause-ok : goal.returns-in-All-clause-ok
returns-in-All-clause-ok g c = settles-all c.args.who c.args.refs.now (g.P.CellPort.view c.args.port.now) _ (rw c.in-All.is at c.in_ok-find_refs.ensures.ok)

pub returns-in_ok-bring_refs-in-Lacking-clause-ok : goal.returns-in_ok-bring_refs-in-Lacking-clause-ok
returns-in_ok-bring_refs-in-Lacking-clause-ok g c =
    settles-brought c.args.who c.args.refs.now (g.P.CellPort.view c.args.port.now) _ (rw c.in-Lacking.is at c.in_ok-find_refs.ensures.ok) _ c.in_ok-bring_refs-in-Lacking.ensures.ok

pub returns-in-Absent-clause-ok : goal.returns-in-Absent-clause-ok
returns-in-Absent-clause-ok g c =
    settles-absent c.args.who c.args.refs.now (g.P.CellPort.view c.args.port.now) _ c.in-Absent.index c.in-Absent.digest (rw c.in-Absent.is at c.in_ok-find_refs.ensures.ok)

pub returns-in_err-bring_refs-in-Lacking-clause-asked : goal.returns-in_err-bring_refs-in-Lacking-clause-asked
returns-in_err-bring_refs-in-Lacking-clause-asked g c =
    let h = rw c.in-Lacking.is at c.in_ok-find_refs.ensures.ok in
    on-error _ (lawful-then-or _ _ _ h.misses.lawful c.bring_refs.ensures.lawful)
