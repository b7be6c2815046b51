use Rattle.cas_history.proofs.Others.{others-conduct, others-events, others-entries, others-leave, events-keep}
use Rattle.cas_history.proofs.laws.sessions_stay_apart.Goals as goal

pub returns-clause-conduct : goal.returns-clause-conduct
returns-clause-conduct c = others-conduct

pub returns-clause-entries : goal.returns-clause-entries
returns-clause-entries c = λ up start calls session more seen others. (others-events session more seen others, others-entries up start calls session more seen others)

pub returns-clause-others : goal.returns-clause-others
returns-clause-others c = others-leave

pub returns-clause-events : goal.returns-clause-events
returns-clause-events c = events-keep
