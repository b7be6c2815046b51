use Rattle.cas_history.proofs.Others.{found-named}
use Rattle.cas_history.proofs.Promised.{promise-whole}
use Rattle.cas_history.proofs.theorem.promises_are_whole.Goals as goal

pub returns-clause-found : goal.returns-clause-found
returns-clause-found c = found-named

pub returns-clause-whole : goal.returns-clause-whole
returns-clause-whole c = promise-whole
