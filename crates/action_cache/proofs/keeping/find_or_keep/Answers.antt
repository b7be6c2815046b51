use Rattle.cas_port.specs.declared.block.PortError.TheVariants.{Memory}
use Rattle.graph_db.proofs.Steps.{err-made, ok-then}
use Rattle.action_cache.proofs.KeySteps.{err-then}
use Rattle.action_cache.proofs.KeyKept.{key-stops, sought-keeps, filled-stays, agrees-stays, value-stays, miss-keeps, miss-stops}
use Rattle.action_cache.proofs.KeyLater.{missed-reads}
use Rattle.action_cache.proofs.keeping.find_or_keep.Goals as goal

pub returns-in_err-cell-clause-err : goal.returns-in_err-cell-clause-err
returns-in_err-cell-clause-err g c = err-made _ Memory _ c.from_residual.ensures.1 (key-stops _ _ _ _ _ c.in_err-cell.ensures.err)

pub returns-then-cell-ne0-clause-ok : goal.returns-then-cell-ne0-clause-ok
returns-then-cell-ne0-clause-ok g c = sought-keeps _ _ _ _ _ _ c.if-cell-ne0.true c.in_ok-cell.ensures.ok

pub keep-requires-clause-filled : goal.keep-requires-clause-filled
keep-requires-clause-filled g c = filled-stays _ _ _ _ _ _ c.in_ok-cell.ensures.ok c.in_ok-cell.ensures.lawful c.requires.filled

pub keep-requires-clause-agrees : goal.keep-requires-clause-agrees
keep-requires-clause-agrees g c = agrees-stays _ _ _ _ _ _ c.in_ok-cell.ensures.ok c.in_ok-cell.ensures.lawful c.requires.filled c.requires.agrees

pub returns-clause-ok : goal.returns-clause-ok
returns-clause-ok g c =
    ok-then _ (λ cell k. miss-keeps _ _ _ _ _ (rw c.if-cell-ne0.false at c.in_ok-cell.ensures.ok) _ cell (rw (value-stays _ _ _ _ _ _ c.in_ok-cell.ensures.ok c.in_ok-cell.ensures.lawful c.requires.filled) at k)) c.keep.ensures.ok

pub returns-clause-err : goal.returns-clause-err
returns-clause-err g c =
    err-then _ (λ e k. miss-stops _ _ _ _ _ (rw c.if-cell-ne0.false at c.in_ok-cell.ensures.ok) _ e (rw (value-stays _ _ _ _ _ _ c.in_ok-cell.ensures.ok c.in_ok-cell.ensures.lawful c.requires.filled) at k)) c.keep.ensures.err

pub returns-then-cell-ne0-clause-reads : goal.returns-then-cell-ne0-clause-reads
returns-then-cell-ne0-clause-reads g c = λ held. c.in_ok-cell.ensures.ok.reads

pub returns-clause-reads : goal.returns-clause-reads
returns-clause-reads g c = missed-reads c.args.who c.args.key.now _ _ _ c.keep.result c.in_ok-cell.ensures.lawful (rw c.if-cell-ne0.false at c.in_ok-cell.ensures.ok)
