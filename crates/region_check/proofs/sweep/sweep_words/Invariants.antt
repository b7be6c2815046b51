use Rattle.region_check.specs.declared.slot_flaws.Row.TheVariants.{Length}
use Rattle.region_check.specs.Passes.{HasNoneBefore}
use Rattle.region_check.specs.Roles.{AreRoles}
use Rattle.region_check.specs.Shown.{LeastWhere, CellsShown}
use Rattle.region_check.specs.Sweep.{IsBefore, Swept}
use Rattle.region_check.proofs.sweep.sweep_words.Given as goal

abbrev pub invariant-loop-at : goal.invariant-loop-at
invariant-loop-at l = AreRoles l.words l.roles × LeastWhere (CellsShown l.words Length l.at) l.long × (HasNoneBefore l.words 6 → Swept l.words (IsBefore l.at) l.roles l.shared)
