-- why it was refused, one clause a kind
use Rattle.graph_db.proofs.Refusals.{to-dangling, to-full, to-memory}
use Rattle.graph_db.proofs.storing.store_with_digest.Goals as goal

pub returns-clause-dangling : goal.returns-clause-dangling
returns-clause-dangling g c = to-dangling _ _ _ _ c.store_counted.result c.store_counted.ensures.err

pub returns-clause-full : goal.returns-clause-full
returns-clause-full g c = to-full _ _ _ _ c.store_counted.result c.store_counted.ensures.err

pub returns-clause-memory : goal.returns-clause-memory
returns-clause-memory g c = to-memory _ _ _ _ c.store_counted.result c.store_counted.ensures.err
