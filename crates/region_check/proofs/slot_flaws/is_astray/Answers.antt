use Rattle.std.proofs.Common.{arith}
use Rattle.region_check.proofs.Rows.{no_astray, astray}
use Rattle.region_check.proofs.slot_flaws.is_astray.Goals as goal

pub returns-in-None : goal.returns-in-None
returns-in-None c = (λ h. absurd (cc), λ x. absurd (no_astray c.args.words.now c.args.space c.args.level c.args.slot c.in-None.ensures x))

pub returns-in-Some : goal.returns-in-Some
returns-in-Some c =
    astray c.args.words.now c.args.space c.args.level c.args.slot c.in-Some.owner c.record_digest-digest.result c.leads_to.result (omega (arith, c.if-level-gt63.false)) c.in-Some.ensures c.record_digest-digest.ensures.fits c.record_digest-digest.ensures.words c.leads_to.ensures
