use Rattle.generations.proofs.ChainStates.{saved-chain}
use Rattle.generations.proofs.laws.saving_keeps_the_upstream.Goals as goal

pub returns : goal.returns
returns c = saved-chain
