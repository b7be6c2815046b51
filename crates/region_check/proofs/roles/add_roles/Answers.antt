use Rattle.region_check.proofs.Roling.{names_none}
use Rattle.region_check.proofs.roles.add_roles.Goals as goal

pub returns-in-None : goal.returns-in-None
returns-in-None c = names_none c.args.words.now c.args.roles.now c.add_slot.new.roles c.args.space c.args.slot c.add_slot.ensures (λ w x. c.in-None.ensures x.1.0 x.1.1)
