use Rattle.std.proofs.Common.{get_or}
use Rattle.region_check.specs.Flaws.{IsNoSlot}
use Rattle.region_check.proofs.Rows.{least_here, no_slot_from, slot_says}
use Rattle.region_check.proofs.slot_flaws.slot_flaw.Goals as goal

pub returns-in-None : goal.returns-in-None
returns-in-None c = least_here (IsNoSlot (get_or c.args.words.now c.args.slot 0)) c.args.slot (no_slot_from (get_or c.args.words.now c.args.slot 0) c.in-None.ensures)

pub returns-in-Some : goal.returns-in-Some
returns-in-Some c = λ n x. slot_says (get_or c.args.words.now c.args.slot 0) c.in-Some.field-0 c.in-Some.ensures x.1
