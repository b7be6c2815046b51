use Rattle.std.proofs.Common.{◌∙◌}
use Rattle.cell_port.proofs.Depths.{needed-is}
use Rattle.cell_port.proofs.tables.PlainTables.new_subtries.Goals as goal

pub returns-clause-count : goal.returns-clause-count
returns-clause-count c =
    c.new_subtries.ensures.count ∙ rw (← c.self.view_is) (needed-is _ c.args.space c.args.digest.now _ (λ level. c.self.invariant.2.digests c.args.space c.args.digest.now level))
