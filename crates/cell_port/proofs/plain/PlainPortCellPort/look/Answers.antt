use Rattle.std.proofs.Common.{refl}
use Rattle.cell_port.proofs.PlainKeeps.{keeps-one}
use Rattle.cell_port.proofs.PlainTies.{tied-look}
use Rattle.cell_port.proofs.plain.PlainPortCellPort.look.Goals as goal

pub invariant_of-self-2 : goal.invariant_of-self-2
invariant_of-self-2 g c =
    rw c.in_ok-push_front.ensures.items
    (keeps-one _ _ _ _ _ c.self.invariant _ c.self.inside.tables _ refl (tied-look _ _ _ _ c.self.invariant.tied c.args.note c.args.space c.args.digest.now))
