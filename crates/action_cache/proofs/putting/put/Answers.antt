-- why it was refused, one clause a kind
use Rattle.action_cache.proofs.Refusals.{to-dangling, to-full, to-memory}
use Rattle.action_cache.proofs.putting.put.Goals as goal

pub returns-clause-dangling : goal.returns-clause-dangling
returns-clause-dangling g c = to-dangling _ _ _ _ _ c.put_counted.result c.put_counted.ensures.err

pub returns-clause-full : goal.returns-clause-full
returns-clause-full g c = to-full _ _ _ _ _ c.put_counted.result c.put_counted.ensures.err

pub returns-clause-memory : goal.returns-clause-memory
returns-clause-memory g c = to-memory _ _ _ _ _ c.put_counted.result c.put_counted.ensures.err
