use Rattle.std.proofs.Common.{◌≡◌, ◌+◌, ℕ, length, sym, ap, subst, ◌∙◌, arith}
use Rattle.std.specs.declared.option.Option.{Option}
use Rattle.region_check.specs.declared.slot_flaws.Row.TheVariants.{Length}
use Rattle.region_check.specs.Flaws.{BySlot}
use Rattle.region_check.specs.Shown.{LeastWhere, CellsShown, lower_of}
use Rattle.region_check.specs.Sweep.{IsBefore, Swept}
use Rattle.region_check.proofs.Celling.{cells_more, contents_least}
use Rattle.region_check.proofs.Sweeping.{one_roles, cell_roles, cell_swept, swept_place, swept_end}
use Rattle.region_check.proofs.sweep.sweep_words.Goals as goal

pub sweep_cell-requires-clause-roles : goal.sweep_cell-requires-clause-roles
sweep_cell-requires-clause-roles c = one_roles c.args.words.now (BySlot c.loop-at.at) c.loop-at.roles c.sweep_slot.new.roles c.sweep_slot.result c.loop-at.invariant.0 c.sweep_slot.ensures

pub loop-at-preserved : goal.loop-at-preserved
loop-at-preserved c =
    let mid = one_roles c.args.words.now (BySlot c.loop-at.at) c.loop-at.roles c.sweep_slot.new.roles c.sweep_slot.result c.loop-at.invariant.0 c.sweep_slot.ensures in
    let is : lower_of (lower_of c.loop-at.shared c.sweep_slot.result) c.sweep_cell.result ≡ c.lower-shared-in-loop-at.result = sym (c.lower-shared-in-loop-at.ensures ∙ ap (λ (o : Option ℕ). lower_of o c.sweep_cell.result) c.lower-shared.ensures) in (
      cell_roles c.args.words.now c.loop-at.at c.sweep_slot.new.roles c.sweep_cell.new.roles c.sweep_cell.result mid c.sweep_cell.ensures,
      subst (LeastWhere (CellsShown c.args.words.now Length (c.loop-at.at + 1))) (sym c.lower-long.ensures) (cells_more c.args.words.now Length c.loop-at.at c.loop-at.long c.least_in_cell.result c.loop-at.invariant.1 c.least_in_cell.ensures),
      λ none. subst (λ (o : Option ℕ). Swept c.args.words.now (IsBefore (c.loop-at.at + 1)) c.sweep_cell.new.roles o) is
          (swept_place c.args.words.now c.loop-at.at c.loop-at.roles c.sweep_slot.new.roles c.sweep_cell.new.roles c.loop-at.shared c.sweep_slot.result c.sweep_cell.result (c.loop-at.invariant.2 none) c.sweep_slot.ensures
          (cell_swept c.args.words.now c.loop-at.at c.sweep_slot.new.roles c.sweep_cell.new.roles c.sweep_cell.result none c.sweep_cell.ensures)),
    )

pub returns-clause-long : goal.returns-clause-long
returns-clause-long c =
    let all : c.loop-at.at ≡ length c.args.words.now = omega (arith, c.loop-at-test.false, c.loop-at.auto.at-end) in
    contents_least c.args.words.now Length c.loop-at.long tt (subst (λ (n : ℕ). LeastWhere (CellsShown c.args.words.now Length n) c.loop-at.long) all c.loop-at.invariant.1)

pub returns-clause-shared : goal.returns-clause-shared
returns-clause-shared c = λ none.
    swept_end c.args.words.now c.loop-at.roles c.loop-at.at c.loop-at.shared c.requires.least (omega (arith, c.loop-at-test.false, c.loop-at.auto.at-end)) (c.loop-at.invariant.2 none)
