use Rattle.generations.proofs.PruningLemmas.{pruned-chain, stopped-chain}
use Rattle.generations.proofs.laws.pruning_keeps_the_chain.Goals as goal

pub returns-clause-whole : goal.returns-clause-whole
returns-clause-whole c = pruned-chain

pub returns-clause-stopped : goal.returns-clause-stopped
returns-clause-stopped c = stopped-chain
