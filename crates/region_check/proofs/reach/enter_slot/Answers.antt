use Rattle.std.proofs.Common.{inr, refl}
use Rattle.region_check.proofs.reach.enter_slot.Goals as goal

pub returns-in-None : goal.returns-in-None
returns-in-None c = inr (refl, refl, λ t named. absurd (c.in-None.ensures t named))
