use Rattle.graph_db.proofs.Steps.{ok-then, on-err-then}
use Rattle.action_cache.proofs.PutGot.{has-got, get-stops}
use Rattle.action_cache.proofs.getting.get.Goals as goal

pub returns-clause-got : goal.returns-clause-got
returns-clause-got g c = ok-then _ (λ found h. has-got _ _ _ _ found c.find_key.ensures.lawful h) c.find_key.ensures.found

pub returns-clause-memory : goal.returns-clause-memory
returns-clause-memory g c = on-err-then _ (λ h. get-stops _ _ _ _ h) c.find_key.ensures.memory
