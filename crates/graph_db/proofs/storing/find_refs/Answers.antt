use Rattle.std.proofs.lemmas.Option.{slice_get-get_or}
use Rattle.graph_db.specs.declared.error.StoreError.TheVariants.{Memory}
use Rattle.graph_db.proofs.Found.{finds-none, finds-next, is-dangling, ref-stops, lawful-same-then}
use Rattle.graph_db.proofs.Steps.{err-made, ends-on}
use Rattle.graph_db.proofs.storing.find_refs.Goals as goal

pub loop-index-init : goal.loop-index-init
loop-index-init g c = finds-none _ _ _

pub loop-index-preserved : goal.loop-index-preserved
loop-index-preserved g c =
    finds-next _ _ _ _ _ _ _ (slice_get-get_or _ _ _ c.loop-index-test.true) c.loop-index.invariant c.in_ok-seek.ensures.lawful _ c.if-branch-eq0.false c.in_ok-seek.ensures.ok

pub returns-in_err-seek-clause-err : goal.returns-in_err-seek-clause-err
returns-in_err-seek-clause-err g c =
    err-made _ Memory _ c.from_residual.ensures.1 (λ bytes. ref-stops _ _ _ _ _ _ _ (slice_get-get_or _ _ _ c.loop-index-test.true) c.loop-index.invariant c.seek.ensures.lawful bytes c.in_err-seek.ensures.err)

pub returns-then-branch-eq0-clause-err : goal.returns-then-branch-eq0-clause-err
returns-then-branch-eq0-clause-err g c = λ bytes.
    is-dangling _ _ _ _ _ _ _ (slice_get-get_or _ _ _ c.loop-index-test.true) c.loop-index.invariant c.in_ok-seek.ensures.lawful bytes (rw c.if-branch-eq0.true at c.in_ok-seek.ensures.ok)

pub returns-in_err-seek-clause-asked : goal.returns-in_err-seek-clause-asked
returns-in_err-seek-clause-asked g c = ends-on _ (lawful-same-then _ _ _ c.loop-index.invariant.lawful c.seek.ensures.lawful)

pub returns-then-branch-eq0-clause-asked : goal.returns-then-branch-eq0-clause-asked
returns-then-branch-eq0-clause-asked g c = lawful-same-then _ _ _ c.loop-index.invariant.lawful c.seek.ensures.lawful
