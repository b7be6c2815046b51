-- one more operand
use Rattle.std.proofs.Common.{◌≡◌, length, rules}
use Rattle.command_line.proofs.WordLemmas.{operands-bad, operands-done, operands-next, operands-none, pushed}
use Rattle.command_line.proofs.words.read_operands.Goals as goal

pub loop-operand-init : goal.loop-operand-init
loop-operand-init c = operands-none c.args.verb c.new-digests.result.items _ c.new-digests.ensures.items

pub returns-in-Err-clause-err : goal.returns-in-Err-clause-err
returns-in-Err-clause-err c =
    let at : c.len.result ≡ length c.loop-operand.digests.items = search rules in
    let told : c.len-index.result ≡ length c.loop-operand.digests.items = search rules in
    operands-bad c.args.verb c.loop-operand.digests.items _ _ _ c.in-Some.operand.now c.in-Err.error c.len.result c.len-index.result c.is_key.result c.as_bytes.result.now
    c.in-Some.ensures.some at told c.is_key.ensures c.as_bytes.ensures.value c.in-Err.ensures c.loop-operand.invariant

pub loop-operand-preserved : goal.loop-operand-preserved
loop-operand-preserved c =
    let at : c.len.result ≡ length c.loop-operand.digests.items = search rules in
    operands-next c.args.verb c.loop-operand.digests.items c.push.new.self.items _ _ _ c.in-Some.operand.now c.in-Ok.digest c.len.result c.is_key.result c.as_bytes.result.now
    c.in-Some.ensures.some at c.is_key.ensures c.as_bytes.ensures.value c.in-Ok.ensures
    (pushed c.push.result _ _ c.in-Ok.digest c.is_err.result c.is_err.ensures.value c.if-is_err.false c.push.ensures.items) c.loop-operand.invariant

pub returns-clause-ok : goal.returns-clause-ok
returns-clause-ok c = operands-done c.args.verb c.loop-operand.digests.items _ _ c.in_default.ensures.none c.loop-operand.invariant
