use Rattle.std.proofs.Common.{sym, ◌∙◌, refl}
use Rattle.cas_history.proofs.Firsts.{value-hit, value-miss, no-value}
use Rattle.cas_history.proofs.below.value_under.Goals as goal

pub returns-then-eq : goal.returns-then-eq
returns-then-eq c =
    sym (sym c.loop-pair.invariant ∙ value-hit c.args.actions.now c.loop-pair.pair-index _ _ c.args.key.now c.loop-pair-test.true refl (sym c.eq.ensures ∙ c.if-eq.true))

pub loop-pair-preserved : goal.loop-pair-preserved
loop-pair-preserved c =
    value-miss c.args.actions.now c.loop-pair.pair-index _ _ c.args.key.now c.loop-pair-test.true refl (sym c.eq.ensures ∙ c.if-eq.false) ∙ c.loop-pair.invariant

pub returns : goal.returns
returns c = sym (sym c.loop-pair.invariant ∙ no-value c.args.actions.now c.loop-pair.pair-index c.args.key.now c.loop-pair-test.false)
