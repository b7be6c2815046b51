use Rattle.std.proofs.Common.{arith}
use Rattle.frozen_store.proofs.walk.words_fit.Goals as goal

pub returns : goal.returns
returns c = record { small = λ i. let h = c.type_inv.words i in omega (arith, h) }
