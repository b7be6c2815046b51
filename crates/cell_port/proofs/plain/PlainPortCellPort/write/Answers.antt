use Rattle.cell_port.proofs.PlainKeeps.{keeps-opens}
use Rattle.cell_port.proofs.PlainTies.{tied-write}
use Rattle.cell_port.proofs.plain.PlainPortCellPort.write.Goals as goal

pub invariant_of-self : goal.invariant_of-self
invariant_of-self g c = rw c.write_open.ensures (keeps-opens _ _ _ _ _ c.self.invariant _ (tied-write _ _ _ _ c.self.invariant.tied _ _ _))
