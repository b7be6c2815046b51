use Rattle.std.proofs.Common.{◌≡◌, true, false, inl, inr}
use Rattle.region_check.proofs.slot_flaws.range_flaw.Goals as goal

pub returns-in-None : goal.returns-in-None
returns-in-None c = λ n x. elim x [
  | inl out ↦ let clash : false ≡ true = c.if-names_outside.ensures.1 out.1 in cc
  | inr cell ↦ c.in-None.ensures cell.1.0 cell.1.1
]
