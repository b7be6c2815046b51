use Rattle.graph_db.specs.declared.error.StoreError.TheVariants.{Memory}
use Rattle.graph_db.proofs.Steps.{err-made}
use Rattle.graph_db.proofs.Stored.{seek-refused, stored-found, stored-brought, bring-refused, miss-refs, miss-lacks}
use Rattle.graph_db.proofs.storing.store_counted.Goals as goal
use Rattle.graph_db.proofs.storing.store_counted.Goals.{then-branch-eq0+in_ok-bring, else-branch-eq0}

pub returns-in_err-find_refs-clause-err : goal.returns-in_err-find_refs-clause-err
returns-in_err-find_refs-clause-err g c = err-made _ _ _ c.from_residual.ensures.1 (c.in_err-find_refs.ensures.err c.args.data.now)

pub returns-in_err-find_refs-clause-lawful : goal.returns-in_err-find_refs-clause-lawful
returns-in_err-find_refs-clause-lawful g c = c.in_err-find_refs.ensures.asked

pub returns-in_err-seek-clause-err : goal.returns-in_err-seek-clause-err
returns-in_err-seek-clause-err g c = err-made _ Memory _ c.from_residual-in_err-seek.ensures.1 (seek-refused _ _ _ _ _ _ c.requires.digest c.in_ok-find_refs.ensures.ok _ c.in_err-seek.ensures.err)

pub bring-requires-clause-refs : goal.bring-requires-clause-refs
bring-requires-clause-refs g c =
    miss-refs _ _ _ _ _ _ c.requires.digest c.in_ok-find_refs.ensures.ok _ (rw c.if-branch-eq0.true at c.in_ok-seek.ensures.ok) c.in_ok-seek.ensures.lawful

pub bring-requires-clause-lacks : goal.bring-requires-clause-lacks
bring-requires-clause-lacks g c =
    miss-lacks _ _ _ _ _ _ c.requires.digest c.in_ok-find_refs.ensures.ok _ (rw c.if-branch-eq0.true at c.in_ok-seek.ensures.ok) c.in_ok-seek.ensures.lawful c.find_refs.ensures.lawful c.requires.brought

pub returns-in_err-bring-clause-err : goal.returns-in_err-bring-clause-err
returns-in_err-bring-clause-err g c =
    err-made _ _ _ c.from_residual-in_err-bring.ensures.1
    (bring-refused _ _ _ _ _ _ c.requires.digest c.in_ok-find_refs.ensures.ok _ (rw c.if-branch-eq0.true at c.in_ok-seek.ensures.ok) c.in_ok-seek.ensures.lawful _ _ c.requires.speaks c.in_err-bring.ensures.err)

pub returns-clause-ok : goal.returns-clause-ok
returns-clause-ok g c = elim c.if-branch-eq0.branch [
  | then-branch-eq0+in_ok-bring w ↦ rw w.port-is
      (stored-brought _ _ _ _ _ _ c.requires.digest c.in_ok-find_refs.ensures.ok _ (rw w.if-branch-eq0.true at c.in_ok-seek.ensures.ok) c.in_ok-seek.ensures.lawful c.find_refs.ensures.lawful _ w.in_ok-bring.ensures.ok)
  | else-branch-eq0 w ↦ rw w.port-is (stored-found _ _ _ _ _ _ c.requires.digest c.in_ok-find_refs.ensures.ok _ _ w.if-branch-eq0.false c.in_ok-seek.ensures.ok)
]
