use Rattle.std.proofs.Common.{sym, ap, ◌∙◌}
use Rattle.cas_model.specs.declared.place.Space.TheVariants.{Objects}
use Rattle.frozen_store.specs.Seen.{place_in}
use Rattle.frozen_store.proofs.Facts.{content_none, place_some}
use Rattle.frozen_store.proofs.frozen.Frozen.content_place.Goals as goal

pub cell-cell-requires : goal.cell-cell-requires
cell-cell-requires c = record { space = Objects; digest = c.args.digest.now; is = sym c.in_ok-owner.ensures }

pub returns-then-cell-eq0 : goal.returns-then-cell-eq0
returns-then-cell-eq0 c = sym (ap place_in (c.cell-cell.ensures.cell Objects c.args.digest.now (sym c.in_ok-owner.ensures) ∙ c.if-cell-eq0.true))

pub returns : goal.returns
returns c = sym (ap place_in (c.cell-cell.ensures.cell Objects c.args.digest.now (sym c.in_ok-owner.ensures)) ∙ place_some c.cell-cell.result c.if-cell-eq0.false)

pub returns-in_err-owner : goal.returns-in_err-owner
returns-in_err-owner c = c.from_residual.ensures ∙ sym (content_none c.args.self.now.tables c.args.digest.now c.look.result c.in_err-owner.was c.look.ensures)
