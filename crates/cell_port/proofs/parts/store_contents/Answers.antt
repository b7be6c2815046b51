use Rattle.std.proofs.Common.{◌≡◌, ◌<◌, length, arith}
use Rattle.cell_port.proofs.PartsLoops.{stores-none, is-next, stores-more, object-refuses, puts-none, key-unbound, puts-more, action-refuses}
use Rattle.cell_port.proofs.PlainBinds.{err-made}
use Rattle.cell_port.proofs.parts.store_contents.Goals as goal

pub loop-i-init : goal.loop-i-init
loop-i-init c = rw c.in_ok-tables.ensures (stores-none c.args.size _ _ c.requires.least c.requires.most c.requires.lawful)

pub store_object-requires : goal.store_object-requires
store_object-requires c =
    let lt : c.loop-i.i < length c.args.contents.now.objects.items = omega (arith, c.loop-i-test.true) in
    let next = is-next _ _ _ _ c.loop-i.invariant c.index.result.now lt c.index.ensures in
    record { few_refs = next.few_refs; short = next.short; unbound = next.unbound }

pub returns-in_err-store_object-clause-err : goal.returns-in_err-store_object-clause-err
returns-in_err-store_object-clause-err c =
    let lt : c.loop-i.i < length c.args.contents.now.objects.items = omega (arith, c.loop-i-test.true) in
    err-made _ _ _ c.from_residual-in_err-store_object.ensures.1 (object-refuses _ _ _ _ c.loop-i.invariant c.index.result.now lt c.index.ensures _ _ c.in_err-store_object.ensures.err)

pub loop-i-preserved : goal.loop-i-preserved
loop-i-preserved c =
    let lt : c.loop-i.i < length c.args.contents.now.objects.items = omega (arith, c.loop-i-test.true) in
    stores-more _ _ _ _ c.loop-i.invariant c.index.result.now lt c.index.ensures _ c.in_ok-store_object.ensures.ok c.in_ok-store_object.ensures.bytes c.in_ok-store_object.ensures.fits

pub loop-i-2-init : goal.loop-i-2-init
loop-i-2-init c =
    let end : c.loop-i.i ≡ length c.args.contents.now.objects.items = omega (arith, c.loop-i-test.false, c.loop-i.auto.i-end) in
    puts-none _ _ _ c.loop-i.i c.loop-i.tables c.requires.lawful end c.loop-i.invariant

pub put_action-requires : goal.put_action-requires
put_action-requires c =
    let lt : c.loop-i-2.i < length c.args.contents.now.actions.items = omega (arith, c.loop-i-2-test.true) in
    record { unbound = key-unbound _ _ _ _ _ c.loop-i-2.invariant c.index-in-loop-i-2.result.now lt c.index-in-loop-i-2.ensures }

pub returns-in_err-put_action-clause-err : goal.returns-in_err-put_action-clause-err
returns-in_err-put_action-clause-err c =
    let lt : c.loop-i-2.i < length c.args.contents.now.actions.items = omega (arith, c.loop-i-2-test.true) in
    err-made _ _ _ c.from_residual-in_err-put_action.ensures.1
    (action-refuses _ _ _ _ _ c.loop-i-2.invariant c.index-in-loop-i-2.result.now lt c.index-in-loop-i-2.ensures _ c.in_err-put_action.ensures.err)

pub loop-i-2-preserved : goal.loop-i-2-preserved
loop-i-2-preserved c =
    let lt : c.loop-i-2.i < length c.args.contents.now.actions.items = omega (arith, c.loop-i-2-test.true) in
    puts-more _ _ _ _ _ c.loop-i-2.invariant c.index-in-loop-i-2.result.now lt c.index-in-loop-i-2.ensures _ c.in_ok-put_action.ensures.ok c.in_ok-put_action.ensures.fits
