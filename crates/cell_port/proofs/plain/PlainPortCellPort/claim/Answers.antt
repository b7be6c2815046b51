use Rattle.std.proofs.Common.{◌+◌, ◌<◌, ◌≤◌, refl, arith}
use Rattle.cell_port.proofs.PlainKeeps.{keeps-one}
use Rattle.cell_port.proofs.PlainTies.{tied-room, tied-open}
use Rattle.cell_port.proofs.plain.PlainPortCellPort.claim.Goals as goal

pub invariant_of-self-then-size-at : goal.invariant_of-self-then-size-at
invariant_of-self-then-size-at g c =
    let full : c.self.inside.tables.start.size < c.self.inside.tables.counter + c.args.words = omega (arith, c.size-size.ensures.size, c.counter-at.ensures.counter) in
    rw (c.push_front_reserved.ensures.items, c.in_ok-reserve.ensures.items) (keeps-one _ _ _ _ _ c.self.invariant _ c.self.inside.tables _ refl (tied-room _ _ _ _ c.self.invariant.tied c.args.note c.args.words c.requires full))

pub invariant_of-self-2 : goal.invariant_of-self-2
invariant_of-self-2 g c =
    let fits : c.self.inside.tables.counter + c.args.words ≤ c.self.inside.tables.start.size =
    omega (arith, c.size-size.ensures.size, c.counter-at.ensures.counter, c.self.invariant.tied.within) in
    rw (c.advance.ensures, c.push_front_reserved-2.ensures.items, c.in_ok-reserve-2.ensures.items, c.push_front_reserved-3.ensures.items, c.in_ok-reserve.ensures.items, c.in_ok-none.ensures, c.counter-at.ensures.counter)
    (keeps-one _ _ _ _ _ c.self.invariant _ (record c.self.inside.tables { counter = c.self.inside.tables.counter + c.args.words }) _ refl
    (tied-open _ _ _ _ c.self.invariant.tied c.args.note c.args.words c.requires fits))
