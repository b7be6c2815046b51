use Rattle.std.proofs.Common.{sym, arith}
use Rattle.region_check.proofs.Loops.{walked_on, walked_end}
use Rattle.region_check.proofs.paths.leads_to.Goals as goal

pub returns-in-None : goal.returns-in-None
returns-in-None c = (
  λ h. absurd (cc),
  λ x. absurd (walked_end c.args.words.now c.args.space c.args.digest.now c.args.slot c.loop-level.level c.loop-level.table c.loop-level.invariant (omega (arith, c.loop-level-test.true)) c.index_at.result c.index_at.ensures.value (λ e. c.if-at-slot.false (sym e)) c.in-None.ensures x),
)

pub loop-level-preserved : goal.loop-level-preserved
loop-level-preserved c =
    walked_on c.args.words.now c.args.space c.args.digest.now c.args.slot c.loop-level.level c.loop-level.table c.loop-level.invariant (omega (arith, c.loop-level-test.true)) c.index_at.result c.in-Some.next c.index_at.ensures.value c.index_at.ensures.within (λ e. c.if-at-slot.false (sym e)) c.in-Some.ensures
