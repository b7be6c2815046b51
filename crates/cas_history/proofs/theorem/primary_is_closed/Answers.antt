use Rattle.cas_history.proofs.Sound.{sound-run}
use Rattle.cas_history.proofs.Under.{carried-is, closed, storable}
use Rattle.cas_history.proofs.Visible.{closed-over}
use Rattle.cas_history.proofs.theorem.primary_is_closed.Goals as goal

pub returns-clause-closed : goal.returns-clause-closed
returns-clause-closed c = λ up start seen lawful. closed _ (sound-run up start seen lawful)

pub returns-clause-storable : goal.returns-clause-storable
returns-clause-storable c = λ up start seen lawful. storable _ (sound-run up start seen lawful)

pub returns-clause-carried : goal.returns-clause-carried
returns-clause-carried c = carried-is

pub returns-clause-visible : goal.returns-clause-visible
returns-clause-visible c = λ up start seen is lawful. closed-over _ up (closed _ (sound-run up start seen lawful)) is
