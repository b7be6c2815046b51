use Rattle.std.proofs.Common.{◌∙◌}
use Rattle.fault_in.specs.declared.error.FaultInError.TheVariants.{Memory}
use Rattle.graph_db.proofs.Steps.{ends-on, err-made}
use Rattle.fault_in.specs.Order.{stops}
use Rattle.fault_in.proofs.Ordered.{root-passed, root-stopped, root-visited}
use Rattle.fault_in.proofs.Ended.{found-there, missed-stops, none-told, root-missing, root-speaks, root-start, root-upstream, some-told, tree-stops, tree-there}
use Rattle.fault_in.proofs.walking.bring_missing.Goals as goal
use Rattle.fault_in.proofs.walking.bring_missing.Goals.{then-is_none+in_ok-root+in_ok-bring_tree, else-is_none}

pub returns-in_err-root-clause-err : goal.returns-in_err-root-clause-err
returns-in_err-root-clause-err g c =
    err-made _ Memory _ c.from_residual-in_err-root.ensures.1
    (missed-stops c.args.who c.args.digest.now _ _ c.in_ok-seek.ensures.lawful c.in_ok-seek.field-0 c.in_ok-seek.ensures.ok c.in_ok-seek.ensures.cost (none-told _ _ c.is_none.ensures c.if-is_none.true))

pub bring_tree-requires-clause-speaks : goal.bring_tree-requires-clause-speaks
bring_tree-requires-clause-speaks g c =
    root-speaks c.args.who c.args.digest.now _ _ c.in_ok-seek.ensures.lawful c.in_ok-seek.field-0 c.in_ok-seek.ensures.ok c.in_ok-seek.ensures.cost (none-told _ _ c.is_none.ensures c.if-is_none.true) c.requires.speaks

pub bring_tree-requires-clause-upstream : goal.bring_tree-requires-clause-upstream
bring_tree-requires-clause-upstream g c =
    root-upstream c.args.who c.args.digest.now _ _ c.in_ok-seek.ensures.lawful c.in_ok-seek.field-0 c.in_ok-seek.ensures.ok c.in_ok-seek.ensures.cost (none-told _ _ c.is_none.ensures c.if-is_none.true) ∙ c.requires.upstream

pub bring_tree-requires-clause-missing : goal.bring_tree-requires-clause-missing
bring_tree-requires-clause-missing g c =
    root-missing c.args.who c.args.digest.now _ _ c.in_ok-seek.ensures.lawful c.in_ok-seek.field-0 c.in_ok-seek.ensures.ok c.in_ok-seek.ensures.cost (none-told _ _ c.is_none.ensures c.if-is_none.true) _ c.in_ok-root.ensures.digest_is

pub returns-in_err-bring_tree-clause-err : goal.returns-in_err-bring_tree-clause-err
returns-in_err-bring_tree-clause-err g c =
    err-made _ _ _ c.from_residual-in_err-bring_tree.ensures.1
    (tree-stops c.args.who c.args.digest.now _ _ c.in_ok-seek.ensures.lawful c.in_ok-seek.field-0 c.in_ok-seek.ensures.ok c.in_ok-seek.ensures.cost (none-told _ _ c.is_none.ensures c.if-is_none.true) _ _ _ c.in_ok-root.ensures.digest_is
    c.in_err-bring_tree.ensures.err)

pub returns-clause-ok : goal.returns-clause-ok
returns-clause-ok g c = elim c.if-is_none.branch [
  | then-is_none+in_ok-root+in_ok-bring_tree w ↦ rw w.port-is
      (tree-there c.args.who c.args.digest.now _ _ c.in_ok-seek.ensures.lawful c.in_ok-seek.field-0 c.in_ok-seek.ensures.ok c.in_ok-seek.ensures.cost (none-told _ _ c.is_none.ensures w.if-is_none.true) _ _ w.in_ok-root.ensures.digest_is
      w.in_ok-bring_tree.ensures.ok)
  | else-is_none w ↦ rw w.port-is
      (found-there c.args.who c.args.digest.now _ _ c.in_ok-seek.ensures.lawful c.in_ok-seek.field-0 c.in_ok-seek.ensures.ok c.in_ok-seek.ensures.cost (some-told _ _ c.is_none.ensures w.if-is_none.false))
]

pub returns-in_err-seek-clause-order_so_far : goal.returns-in_err-seek-clause-order_so_far
returns-in_err-seek-clause-order_so_far g c = ends-on _ (stops c.in_err-seek.ensures.quiet)

pub returns-in_err-root-clause-order_so_far : goal.returns-in_err-root-clause-order_so_far
returns-in_err-root-clause-order_so_far g c = ends-on _ (stops c.in_ok-seek.ensures.quiet)

pub returns-in_err-bring_tree-clause-order_so_far : goal.returns-in_err-bring_tree-clause-order_so_far
returns-in_err-bring_tree-clause-order_so_far g c =
    ends-on _ (root-stopped _ c.args.who c.args.digest.now _ (g.P.CellPort.view c.args.port.now) (g.P.CellPort.view c.seek.new.port) (g.P.CellPort.view c.bring_tree.new.port) c.in_ok-root.ensures.digest_is
    (root-start c.args.who c.args.digest.now _ _ c.in_ok-seek.ensures.lawful c.in_ok-seek.field-0 c.in_ok-seek.ensures.ok c.in_ok-seek.ensures.cost (none-told _ _ c.is_none.ensures c.if-is_none.true)) c.in_ok-seek.ensures.quiet
    c.in_err-bring_tree.ensures.order_so_far)

pub returns-clause-order : goal.returns-clause-order
returns-clause-order g c = elim c.if-is_none.branch [
  | then-is_none+in_ok-root+in_ok-bring_tree w ↦ rw w.port-is
      (root-visited _ c.args.who c.args.digest.now _ (g.P.CellPort.view c.args.port.now) (g.P.CellPort.view c.seek.new.port) (g.P.CellPort.view w.bring_tree.new.port) w.in_ok-root.ensures.digest_is
      (root-start c.args.who c.args.digest.now _ _ c.in_ok-seek.ensures.lawful c.in_ok-seek.field-0 c.in_ok-seek.ensures.ok c.in_ok-seek.ensures.cost (none-told _ _ c.is_none.ensures w.if-is_none.true)) c.in_ok-seek.ensures.quiet
      w.in_ok-bring_tree.ensures.order)
  | else-is_none w ↦ rw w.port-is
      (root-passed _ c.args.who c.args.digest.now (g.P.CellPort.view c.args.port.now) (g.P.CellPort.view c.seek.new.port) _ c.in_ok-seek.ensures.lawful c.in_ok-seek.ensures.quiet c.in_ok-seek.ensures.ok
      (some-told _ _ c.is_none.ensures w.if-is_none.false))
]
