use Rattle.std.proofs.Common.{sym}
use Rattle.cas_history.proofs.Sound.{sound-start}
use Rattle.fault_in.specs.declared.error.FaultInError.TheVariants.{Memory}
use Rattle.graph_db.proofs.Steps.{ends-on, err-made}
use Rattle.fault_in.proofs.Ordered.{down-order, filled-order, found-order, order-starts, out-order, stops-order, up-order}
use Rattle.fault_in.proofs.Walked.{bring-stops, brought-after, child-there, found-after, goes-down, goes-found, goes-out, goes-up, is-ready, missed-after, starts, stops-after}
use Rattle.fault_in.proofs.Work.{later-is, less-down, less-found, less-still, less-then, less-up}
use Rattle.fault_in.proofs.walking.bring_tree.Goals as goal

pub tree-init : goal.tree-init
tree-init g c =
    rw c.new-waiting.ensures.items (record {
      way = starts c.args.who c.args.up.now.tables (g.P.CellPort.view c.args.port.now) c.args.root c.requires.speaks c.requires.upstream c.requires.run c.requires.missing c.requires.root;
      order = order-starts c.args.who c.args.up.now.tables (g.P.CellPort.view c.args.port.now) c.args.root c.requires.root c.requires.missing;
    })

pub returns-in_err-place-clause-err : goal.returns-in_err-place-clause-err
returns-in_err-place-clause-err g c =
    err-made _ Memory _ c.from_residual.ensures.1 (stops-after _ _ _ _ _ _ _ c.refs.invariant.way _ c.in_err-place.ensures.err c.in_err-place.ensures.cost)

pub refs-smaller-in-Continue-branch-3 : goal.refs-smaller-in-Continue-branch-3
refs-smaller-in-Continue-branch-3 g c = less-found c.args.up.now.tables c.refs.waiting.items c.refs.top c.add.new.self _ c.in-Some.child (sym c.in-Some.ensures) c.in_ok-add-in-Some-2.ensures

pub refs-preserved-in-Continue-branch-3 : goal.refs-preserved-in-Continue-branch-3
refs-preserved-in-Continue-branch-3 g c = record {
  way = goes-found _ _ _ _ _ _ _ c.refs.invariant.way _ c.in-Some.child c.in-Some-2.place _ (sym c.in-Some.ensures) c.in_ok-place.ensures.lawful (rw c.in-Some-2.is at c.in_ok-place.ensures.ok) c.in_ok-place.ensures.cost
      c.in_ok-add-in-Some-2.ensures;
  order = found-order _ _ _ _ _ _ _ c.refs.invariant.way c.refs.invariant.order _ c.in-Some.child c.in-Some-2.place _ (sym c.in-Some.ensures) c.in_ok-place.ensures.lawful (rw c.in-Some-2.is at c.in_ok-place.ensures.ok)
      c.seek.ensures.quiet c.in_ok-add-in-Some-2.ensures;
  less = less-still _ _ _ (less-found c.args.up.now.tables c.refs.waiting.items c.refs.top c.add.new.self _ c.in-Some.child (sym c.in-Some.ensures) c.in_ok-add-in-Some-2.ensures) c.refs.invariant.less;
}

pub returns-in_err-add-in-Some-2-clause-err : goal.returns-in_err-add-in-Some-2-clause-err
returns-in_err-add-in-Some-2-clause-err g c =
    err-made _ Memory _ c.from_residual-in_err-add-in-Some-2.ensures.1
    (found-after _ _ _ _ _ _ _ c.refs.invariant.way _ c.in-Some.child c.in-Some-2.place (rw c.in-Some-2.is at c.in_ok-place.ensures.ok) c.in_ok-place.ensures.cost)

pub open_object-requires : goal.open_object-requires
open_object-requires g c = child-there _ _ _ _ _ _ _ c.refs.invariant.way c.in-Some.child c.requires.seen.closed (sym c.in-Some.ensures)

pub returns-in_err-next-in-None-clause-err : goal.returns-in_err-next-in-None-clause-err
returns-in_err-next-in-None-clause-err g c =
    err-made _ Memory _ c.from_residual-in_err-next-in-None.ensures.1
    (missed-after _ _ _ _ _ _ _ c.refs.invariant.way _ c.in-Some.child (rw c.in-None.is at c.in_ok-place.ensures.ok) c.in_ok-place.ensures.cost)

pub refs-smaller : goal.refs-smaller
refs-smaller g c =
    less-down c.args.up.now.tables c.refs.waiting.items c.wait.new.waiting.items c.refs.top c.replace-parent.new.dest c.in-Some.child (sound-start _ c.requires.seen.start) c.requires.seen.storable c.refs.invariant.way.newest.below.is
    (sym c.in-Some.ensures) (rw c.replace-parent.ensures.after c.in_ok-next-in-None.ensures) (later-is _ _ _ _ c.in_ok-wait-in-None.ensures c.replace-parent.ensures.value)

pub refs-preserved : goal.refs-preserved
refs-preserved g c = record {
  way = goes-down _ _ _ _ _ _ _ c.refs.invariant.way _ c.in-Some.child c.replace-parent.new.dest c.wait.new.waiting.items (sym c.in-Some.ensures) c.in_ok-place.ensures.lawful (rw c.in-None.is at c.in_ok-place.ensures.ok)
      c.in_ok-place.ensures.cost (rw c.replace-parent.ensures.after c.in_ok-next-in-None.ensures) (later-is _ _ _ _ c.in_ok-wait-in-None.ensures c.replace-parent.ensures.value);
  order = down-order _ _ _ _ _ _ _ c.refs.invariant.way c.refs.invariant.order _ c.in-Some.child c.replace-parent.new.dest c.wait.new.waiting.items (rw c.in-None.is at c.in_ok-place.ensures.ok)
      c.seek.ensures.quiet (rw c.replace-parent.ensures.after c.in_ok-next-in-None.ensures) (later-is _ _ _ _ c.in_ok-wait-in-None.ensures c.replace-parent.ensures.value);
  less = less-still _ _ _
      (less-down c.args.up.now.tables c.refs.waiting.items c.wait.new.waiting.items c.refs.top c.replace-parent.new.dest c.in-Some.child (sound-start _ c.requires.seen.start) c.requires.seen.storable c.refs.invariant.way.newest.below.is
      (sym c.in-Some.ensures) (rw c.replace-parent.ensures.after c.in_ok-next-in-None.ensures) (later-is _ _ _ _ c.in_ok-wait-in-None.ensures c.replace-parent.ensures.value)) c.refs.invariant.less;
}

pub returns-in_err-wait-in-None-clause-err : goal.returns-in_err-wait-in-None-clause-err
returns-in_err-wait-in-None-clause-err g c =
    err-made _ Memory _ c.from_residual-in_err-wait-in-None.ensures.1
    (missed-after _ _ _ _ _ _ _ c.refs.invariant.way _ c.in-Some.child (rw c.in-None.is at c.in_ok-place.ensures.ok) c.in_ok-place.ensures.cost)

pub bring-requires-clause-ready : goal.bring-requires-clause-ready
bring-requires-clause-ready g c = rw c.as_slice.ensures.value (is-ready _ _ _ _ _ _ _ c.refs.invariant.way (sym c.in_default.ensures) c.requires.seen.storable)

pub returns-in_err-place-2-clause-err : goal.returns-in_err-place-2-clause-err
returns-in_err-place-2-clause-err g c =
    err-made _ _ _ c.from_residual-in_err-place-2.ensures.1 (bring-stops _ _ _ _ _ _ _ c.refs.invariant.way _ _ c.in_err-place-2.ensures.err c.in_err-place-2.ensures.cost)

pub returns-in-None-resume-clause-ok : goal.returns-in-None-resume-clause-ok
returns-in-None-resume-clause-ok g c =
    goes-out _ _ _ _ _ _ _ c.refs.invariant.way _ _ c.in_ok-place-2.ensures.ok c.in_ok-place-2.ensures.lawful c.in_ok-place-2.ensures.cost c.in-None-resume.ensures

pub tree-smaller : goal.tree-smaller
tree-smaller g c =
    less-then _ _ _ (less-up c.args.up.now.tables c.refs.waiting.items _ c.refs.top c.in-Some-resume.parent _ _ c.args.root.digest c.refs.invariant.way.linked c.in-Some-resume.ensures c.in_ok-add-in-Some-resume.ensures) c.refs.invariant.less

pub tree-preserved : goal.tree-preserved
tree-preserved g c = record {
  way = goes-up _ _ _ _ _ _ _ c.refs.invariant.way _ _ _ _ _ (sound-start _ c.requires.seen.start) c.in_ok-place-2.ensures.ok c.in_ok-place-2.ensures.lawful c.in_ok-place-2.ensures.cost c.in-Some-resume.ensures
      c.in_ok-add-in-Some-resume.ensures;
  order = up-order _ _ _ _ _ _ _ c.refs.invariant.way c.refs.invariant.order (g.P.CellPort.view c.bring.new.port) _ _ _ _ (sym c.in_default.ensures) c.in_ok-place-2.ensures.last c.in-Some-resume.ensures c.in_ok-add-in-Some-resume.ensures;
}

pub returns-in_err-add-in-Some-resume-clause-err : goal.returns-in_err-add-in-Some-resume-clause-err
returns-in_err-add-in-Some-resume-clause-err g c =
    err-made _ Memory _ c.from_residual-in_err-add-in-Some-resume.ensures.1 (brought-after _ _ _ _ _ _ _ c.refs.invariant.way _ _ c.in_ok-place-2.ensures.ok c.in_ok-place-2.ensures.cost)

pub returns-in_err-place-clause-order_so_far : goal.returns-in_err-place-clause-order_so_far
returns-in_err-place-clause-order_so_far g c = ends-on _ (stops-order _ _ _ _ _ _ _ c.refs.invariant.way c.refs.invariant.order (g.P.CellPort.view c.seek.new.port) c.seek.ensures.quiet)

pub returns-in_err-add-in-Some-2-clause-order_so_far : goal.returns-in_err-add-in-Some-2-clause-order_so_far
returns-in_err-add-in-Some-2-clause-order_so_far g c = ends-on _ (stops-order _ _ _ _ _ _ _ c.refs.invariant.way c.refs.invariant.order (g.P.CellPort.view c.seek.new.port) c.seek.ensures.quiet)

pub returns-in_err-next-in-None-clause-order_so_far : goal.returns-in_err-next-in-None-clause-order_so_far
returns-in_err-next-in-None-clause-order_so_far g c = ends-on _ (stops-order _ _ _ _ _ _ _ c.refs.invariant.way c.refs.invariant.order (g.P.CellPort.view c.seek.new.port) c.seek.ensures.quiet)

pub returns-in_err-wait-in-None-clause-order_so_far : goal.returns-in_err-wait-in-None-clause-order_so_far
returns-in_err-wait-in-None-clause-order_so_far g c = ends-on _ (stops-order _ _ _ _ _ _ _ c.refs.invariant.way c.refs.invariant.order (g.P.CellPort.view c.seek.new.port) c.seek.ensures.quiet)

pub returns-in_err-place-2-clause-order_so_far : goal.returns-in_err-place-2-clause-order_so_far
returns-in_err-place-2-clause-order_so_far g c = ends-on _ (stops-order _ _ _ _ _ _ _ c.refs.invariant.way c.refs.invariant.order (g.P.CellPort.view c.bring.new.port) c.in_err-place-2.ensures.quiet)

pub returns-in-None-resume-clause-order : goal.returns-in-None-resume-clause-order
returns-in-None-resume-clause-order g c =
    out-order _ _ _ _ _ _ _ c.refs.invariant.way c.refs.invariant.order (g.P.CellPort.view c.bring.new.port) (sym c.in_default.ensures) c.in_ok-place-2.ensures.last c.in-None-resume.ensures

pub returns-in_err-add-in-Some-resume-clause-order_so_far : goal.returns-in_err-add-in-Some-resume-clause-order_so_far
returns-in_err-add-in-Some-resume-clause-order_so_far g c =
    ends-on _ (filled-order _ _ _ _ _ _ _ c.refs.invariant.way c.refs.invariant.order (g.P.CellPort.view c.bring.new.port) (sym c.in_default.ensures) c.in_ok-place-2.ensures.last)
