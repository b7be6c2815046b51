use Rattle.generations.proofs.ChainStates.{rotated-chain}
use Rattle.generations.proofs.laws.rotating_lowers_the_primary.Goals as goal

pub returns : goal.returns
returns c = rotated-chain
