use Rattle.std.proofs.Common.{sym, ◌∙◌}
use Rattle.cell_port.proofs.PairRows.{pair-added}
use Rattle.cell_port.proofs.pairs.add_pair.Goals as goal

pub returns-in_ok-insert : goal.returns-in_ok-insert
returns-in_ok-insert c =
    λ q. c.in_ok-insert.ensures.updates.0 q.bytes
    ∙ pair-added _ _ c.in-Some.record_ _ _ q _ (sym c.record_at.ensures ∙ c.in-Some.is) (sym c.is_same_space.ensures ∙ c.if-is_same_space.true) c.digest_of_record-value.ensures
