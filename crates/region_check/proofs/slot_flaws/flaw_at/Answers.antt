use Rattle.std.proofs.Common.{◌≡◌, sym, subst}
use Rattle.cas_model.specs.declared.place.Space.TheVariants.{Actions}
use Rattle.region_check.specs.declared.slot_flaws.Row.{Row}
use Rattle.region_check.specs.Shown.{LeastWhere, Shown}
use Rattle.region_check.proofs.Rows.{least_with, ValueShown}
use Rattle.region_check.proofs.slot_flaws.flaw_at.Goals as goal

pub returns-in-Range : goal.returns-in-Range
returns-in-Range c = subst (λ (r : Row). LeastWhere (λ p. Shown c.args.words.now r c.args.space c.args.level c.args.slot p) c.range_flaw.result) (sym c.in-Range.is) c.range_flaw.ensures

pub returns-in-Actions : goal.returns-in-Actions
returns-in-Actions c =
    subst (λ (r : Row). LeastWhere (λ p. Shown c.args.words.now r c.args.space c.args.level c.args.slot p) c.value_flaw.result) (sym c.in-Value.is)
    (least_with (c.args.space ≡ Actions) (ValueShown c.args.words.now c.args.slot) c.value_flaw.result c.in-Actions.is c.value_flaw.ensures)
