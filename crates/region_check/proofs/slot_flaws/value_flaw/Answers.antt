use Rattle.std.proofs.Common.{refl}
use Rattle.region_check.proofs.Rows.{present_value}
use Rattle.region_check.proofs.slot_flaws.value_flaw.Goals as goal

pub returns-then-is_present : goal.returns-then-is_present
returns-then-is_present c = present_value c.args.words.now c.args.slot c.in-Some.owner _ c.in-Some.ensures refl (c.if-is_present.ensures.0 refl)

pub returns-in-None : goal.returns-in-None
returns-in-None c = λ n x. c.in-None.ensures x.0 x.1
