use Rattle.cell_port.proofs.PlainKeeps.{keeps-place}
use Rattle.cell_port.proofs.PlainTies.{tied-place}
use Rattle.cell_port.proofs.plain.PlainPortCellPort.fill_place.Goals as goal

pub invariant_of-self-2 : goal.invariant_of-self-2
invariant_of-self-2 g c =
    let lawful = rw (← c.self.view_is) at c.requires.lawful in
    rw (c.in_ok-filled.ensures.rows, c.in_ok-filled.ensures.events)
    (keeps-place _ _ _ _ _ c.self.invariant c.args.note c.args.record_ c.args.value.at _ _
    (tied-place _ _ _ _ c.self.invariant.tied c.args.note c.args.record_ c.args.value.at lawful.found lawful.bound lawful.action lawful.lawful))
