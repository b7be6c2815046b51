use Rattle.std.proofs.Common.{refl}
use Rattle.cell_port.proofs.PlainKeeps.{keeps-one}
use Rattle.cell_port.proofs.PlainTies.{tied-read}
use Rattle.cell_port.proofs.plain.PlainPortCellPort.read.Goals as goal

pub invariant_of-self-2 : goal.invariant_of-self-2
invariant_of-self-2 g c =
    let there = rw (← c.self.view_is) at c.requires.bound in
    rw c.in_ok-push_front.ensures.items
    (keeps-one _ _ _ _ _ c.self.invariant _ c.self.inside.tables _ refl (tied-read _ _ _ _ c.self.invariant.tied c.args.note c.args.record_ there))
