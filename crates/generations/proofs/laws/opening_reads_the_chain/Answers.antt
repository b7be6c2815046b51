use Rattle.generations.proofs.ChainStates.{opened-chain}
use Rattle.generations.proofs.laws.opening_reads_the_chain.Goals as goal

pub returns : goal.returns
returns c = opened-chain
