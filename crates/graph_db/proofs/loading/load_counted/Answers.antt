use Rattle.graph_db.proofs.Loaded.{found-content, load-found, load-missing, load-stops, found-stops}
use Rattle.graph_db.proofs.Steps.{ends-on}
use Rattle.graph_db.proofs.loading.load_counted.Goals as goal

pub read_object-requires : goal.read_object-requires
read_object-requires g c = found-content _ _ _ _ _ c.in_ok-content.ensures.ok c.in_ok-content.ensures.lawful c.if-content-eq0.false

pub returns-in_err-content-clause-err : goal.returns-in_err-content-clause-err
returns-in_err-content-clause-err g c = ends-on _ (load-stops _ _ _ _ c.in_err-content.ensures.err)

pub returns-then-content-eq0-clause-ok : goal.returns-then-content-eq0-clause-ok
returns-then-content-eq0-clause-ok g c = load-missing _ _ _ _ (rw c.if-content-eq0.true at c.in_ok-content.ensures.ok)

pub returns-in_err-object-clause-err : goal.returns-in_err-object-clause-err
returns-in_err-object-clause-err g c = ends-on _ (found-stops _ _ _ _ _ _ c.read_object.ensures.same (load-found _ _ _ _ _ c.in_ok-content.ensures.ok c.in_ok-content.ensures.lawful c.if-content-eq0.false))

pub returns-clause-ok : goal.returns-clause-ok
returns-clause-ok g c =
    rw c.read_object.ensures.same (rw c.in_ok-object.ensures.ok (load-found _ _ _ _ _ c.in_ok-content.ensures.ok c.in_ok-content.ensures.lawful c.if-content-eq0.false))
