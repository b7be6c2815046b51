-- where nothing is due
use Rattle.cas_command.proofs.ClosingLemmas.{nothing-due}
use Rattle.cas_command.proofs.closing.images_due.Goals as goal

pub returns-then-is_off : goal.returns-then-is_off
returns-then-is_off c = nothing-due _ _ _ _ _ _ (c.holds_same-is_same.ensures.same c.if-is_same.true) (c.is_off.ensures c.if-is_off.true _)
