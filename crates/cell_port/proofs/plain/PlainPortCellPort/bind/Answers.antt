use Rattle.std.proofs.Common.{◌≡◌, None, refl, sym, ◌∙◌}
use Rattle.cas_model.specs.Tables.{place_of}
use Rattle.cell_port.proofs.Depths.{needed-most}
use Rattle.cell_port.proofs.PlainBinds.{bound-new, lawful-new, refused-stays, lawful-stays, err-made}
use Rattle.cell_port.proofs.PlainKeeps.{keeps-one, keeps-new, keeps-stays, binds-whole, stays-whole}
use Rattle.cell_port.proofs.PlainTies.{tied-again}
use Rattle.cell_port.proofs.plain.PlainPortCellPort.bind.Goals as goal

pub invariant_of-self-in-Some : goal.invariant_of-self-in-Some
invariant_of-self-in-Some g c =
    let again = tied-again _ _ _ _ c.self.invariant.tied c.args.note c.args.space c.args.digest.now c.in-Some.place (sym c.place_of.ensures ∙ c.in-Some.is) in
    rw (c.push_front_reserved.ensures.items, c.in_ok-reserve.ensures.items) (keeps-one _ _ _ _ _ c.self.invariant _ c.self.inside.tables _ refl again)

pub invariant_of-self-in_err-place : goal.invariant_of-self-in_err-place
invariant_of-self-in_err-place g c = keeps-stays _ _ _ _ _ c.self.invariant c.args.note c.args.space c.args.digest.now _ _ _ _ c.in_err-place.ensures.err

pub returns-in_err-place-clause-stopped : goal.returns-in_err-place-clause-stopped
returns-in_err-place-clause-stopped g c =
    let stays = stays-whole _ _ _ _ _ c.self.invariant c.args.note c.args.space c.args.digest.now _ _ _ _ c.in_err-place.ensures.err in
    err-made _ _ _ c.from_residual-in_err-place.ensures.1
    (rw (← c.self.view_is) (refused-stays _ _ _ _ c.self.invariant.tied c.args.note c.args.space c.args.digest.now _ (needed-most _ _ _) _ _ _ stays))

pub returns-in_err-place-clause-lawful : goal.returns-in_err-place-clause-lawful
returns-in_err-place-clause-lawful g c =
    let stays = stays-whole _ _ _ _ _ c.self.invariant c.args.note c.args.space c.args.digest.now _ _ _ _ c.in_err-place.ensures.err in
    rw (← c.self.view_is) (lawful-stays _ _ _ _ c.self.invariant.tied c.args.note c.args.space c.args.digest.now _ _ _ _ stays)

unbound : (g : _) (c : goal.In_ok-place g) → place_of c.self.inside.tables.bound c.args.space c.args.digest.now ≡ None
unbound g c = sym c.place_of.ensures ∙ c.in_default.is

pub invariant_of-self-2 : goal.invariant_of-self-2
invariant_of-self-2 g c = keeps-new _ _ _ _ _ c.self.invariant c.args.note c.args.space c.args.digest.now _ _ _ (unbound g c) c.in_ok-place.ensures.ok

pub returns-clause-bound : goal.returns-clause-bound
returns-clause-bound g c =
    let binds = binds-whole _ _ _ _ _ c.self.invariant c.args.note c.args.space c.args.digest.now _ _ _ c.in_ok-place.ensures.ok in
    rw (← c.self.view_is) (bound-new _ _ _ _ c.self.invariant.tied c.args.note c.args.space c.args.digest.now (unbound g c) _ _ _ binds)

pub returns-clause-lawful : goal.returns-clause-lawful
returns-clause-lawful g c =
    let binds = binds-whole _ _ _ _ _ c.self.invariant c.args.note c.args.space c.args.digest.now _ _ _ c.in_ok-place.ensures.ok in
    rw (← c.self.view_is) (lawful-new _ _ _ _ c.self.invariant.tied c.args.note c.args.space c.args.digest.now (unbound g c) _ _ _ binds)
