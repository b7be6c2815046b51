-- one more piece: an operand, or an option and its value
use Rattle.std.proofs.Common.{sym, refl, arith}
use Rattle.command_line.proofs.SplitLemmas.{bad-option, operand-step, operands-few, option-step, so-far-first, where-none}
use Rattle.command_line.proofs.words.split.Goals as goal

pub loop-rest-init : goal.loop-rest-init
loop-rest-init c = so-far-first c.args.words.now c.none-given.result c.none-given.ensures

pub loop-rest-preserved-in-Some : goal.loop-rest-preserved-in-Some
loop-rest-preserved-in-Some c =
    option-step c.args.words.now c.loop-rest.rest.now _ c.word-item.result c.value-item.result c.in-Some.setting c.loop-rest.count c.loop-rest.given c.in_ok-given-in-Some.given
    c.in-len1-up.len_at_least c.word-item.is refl c.in-len1-up-more.len_at_least c.value-item.is (sym c.in-Some.ensures) c.in_ok-given-in-Some.ensures c.loop-rest.invariant

pub returns-in_err-given-in-Some-clause-none : goal.returns-in_err-given-in-Some-clause-none
returns-in_err-given-in-Some-clause-none c =
    where-none c.from_residual.result
    (bad-option c.args.words.now c.loop-rest.rest.now _ c.word-item.result c.value-item.result c.in-Some.setting c.loop-rest.count c.loop-rest.given
    c.in-len1-up.len_at_least c.word-item.is refl c.in-len1-up-more.len_at_least c.value-item.is (sym c.in-Some.ensures) c.in_err-given-in-Some.ensures c.loop-rest.invariant)

pub overflow_add-count : goal.overflow_add-count
overflow_add-count c =
    let few = operands-few c.args.words.now in
    let so_far = c.loop-rest.invariant.operands in
    omega (arith, few, so_far, c.well_formed.0.1)

pub loop-rest-preserved : goal.loop-rest-preserved
loop-rest-preserved c =
    operand-step c.args.words.now c.loop-rest.rest.now c.word-item.result c.loop-rest.count c.loop-rest.given c.in-len1-up.len_at_least c.word-item.is
    (sym c.in-None.ensures) (sym c.if-begins_dash.ensures) c.loop-rest.invariant
