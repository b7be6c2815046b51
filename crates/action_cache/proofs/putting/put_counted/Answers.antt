use Rattle.graph_db.proofs.Steps.{err-made}
use Rattle.action_cache.proofs.PutGot.{value-refused, value-filled, value-agrees, put-kept, put-refused}
use Rattle.action_cache.proofs.putting.put_counted.Goals as goal

pub returns-in_err-place-clause-err : goal.returns-in_err-place-clause-err
returns-in_err-place-clause-err g c = err-made _ _ _ c.from_residual.ensures.1 (value-refused _ c.args.key.now _ _ _ _ c.in_err-place.ensures.err)

pub settle-requires-clause-filled : goal.settle-requires-clause-filled
settle-requires-clause-filled g c = value-filled _ c.args.key.now _ _ _ _ c.in_ok-place.ensures.ok c.in_ok-place.ensures.lawful

pub settle-requires-clause-agrees : goal.settle-requires-clause-agrees
settle-requires-clause-agrees g c = value-agrees _ _ _ _ _ _ c.in_ok-place.ensures.ok c.in_ok-place.ensures.lawful c.requires.lacks

pub returns-in_err-kept-clause-err : goal.returns-in_err-kept-clause-err
returns-in_err-kept-clause-err g c =
    err-made _ _ _ c.from_residual-in_err-kept.ensures.1 (put-refused _ _ _ _ _ _ c.in_ok-place.ensures.ok c.in_ok-place.ensures.lawful _ _ c.requires.lacks c.in_err-kept.ensures.err)

pub returns-clause-ok : goal.returns-clause-ok
returns-clause-ok g c = put-kept _ _ _ _ _ _ c.in_ok-place.ensures.ok c.in_ok-place.ensures.lawful _ _ c.requires.lacks c.in_ok-kept.ensures.ok c.in_ok-kept.ensures.reads
