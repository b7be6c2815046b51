use Rattle.std.proofs.Common.{◌≡◌, sym, ◌∙◌}
use Rattle.cas_model.specs.Object.{object_digest}
use Rattle.cas_history.proofs.Firsts.{object-hit, object-miss, no-object}
use Rattle.cas_history.proofs.below.object_under.Goals as goal

pub returns-then-eq : goal.returns-then-eq
returns-then-eq c =
    let named : c.of.result ≡ object_digest c.object-item.result = cc in
    sym c.loop-object.invariant ∙ object-hit c.args.objects.now c.loop-object.object-index c.object-item.result c.of.result c.args.digest.now c.loop-object-test.true c.object-item.is named (sym c.eq.ensures ∙ c.if-eq.true)

pub loop-object-preserved : goal.loop-object-preserved
loop-object-preserved c =
    let named : c.of.result ≡ object_digest c.object-item.result = cc in
    object-miss c.args.objects.now c.loop-object.object-index c.object-item.result c.of.result c.args.digest.now c.loop-object-test.true c.object-item.is named (sym c.eq.ensures ∙ c.if-eq.false) ∙ c.loop-object.invariant

pub returns : goal.returns
returns c = sym c.loop-object.invariant ∙ no-object c.args.objects.now c.loop-object.object-index c.args.digest.now c.loop-object-test.false
