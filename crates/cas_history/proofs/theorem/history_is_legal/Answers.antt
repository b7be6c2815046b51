use Rattle.cas_history.proofs.Legal.{legal-run}
use Rattle.cas_history.proofs.theorem.history_is_legal.Goals as goal

pub returns : goal.returns
returns c = legal-run
