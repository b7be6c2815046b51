use Rattle.region_check.proofs.Rows.{no_deep}
use Rattle.region_check.proofs.slot_flaws.is_too_deep.Goals as goal

pub returns-in-None : goal.returns-in-None
returns-in-None c = (λ h. absurd (cc), λ x. absurd (no_deep c.args.words.now c.args.level c.args.slot c.in-None.ensures x))
