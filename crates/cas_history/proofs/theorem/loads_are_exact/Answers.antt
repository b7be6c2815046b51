use Rattle.cas_history.proofs.Exact.{loads-exact}
use Rattle.cas_history.proofs.theorem.loads_are_exact.Goals as goal

pub returns : goal.returns
returns c = loads-exact
