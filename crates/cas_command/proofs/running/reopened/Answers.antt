-- what a region held fits into it again
use Rattle.std.proofs.Common.{ℕ, subst, sym}
use Rattle.cas_model.specs.Claims.{Fit, contents_claims}
use Rattle.cas_model.proofs.Fitting.{none-refused}
use Rattle.cell_port.specs.Claims.{Refuses}
use Rattle.cas_command.proofs.running.reopened.Goals as goal

pub unreachable-requires : goal.unreachable-requires
unreachable-requires c =
    let claims = contents_claims c.in_ok-contents.contents.objects.items c.in_ok-contents.contents.actions.items in
    none-refused c.size.result 520 claims c.in-Err-Full.field-0-0 (subst (λ (n : ℕ). Fit n 520 claims) (sym c.size.ensures) c.in_ok-contents.ensures.fits)
    (subst (Refuses c.size.result 520 claims) c.in-Err-Full.field-0-is c.in-Err-Full.ensures.refused)
