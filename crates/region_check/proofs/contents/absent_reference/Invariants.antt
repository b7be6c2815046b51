use Rattle.std.proofs.Common.{ℕ, ◌+◌, ◌<◌, get_or}
use Rattle.cas_model.specs.declared.place.Space.TheVariants.{Objects}
use Rattle.region_core.specs.Leads.{IsFilledOf}
use Rattle.region_check.proofs.contents.absent_reference.Given as goal

abbrev pub invariant-loop-index : goal.invariant-loop-index
invariant-loop-index l = (i : ℕ) → i < l.index → (IsFilledOf l.words Objects (get_or l.words (l.place + 1 + i) 0) → ⊥) → ⊥
