use Rattle.std.proofs.Common.{ℕ, ◌+◌, ◌*◌, ◌%◌, ap, ◌∙◌}
use Rattle.cas_script.specs.Workload.{header_lines, work_line, work_number}
use Rattle.cas_script.proofs.MadeLists.{item-more-after}
use Rattle.cas_script.proofs.workloads.session_of.Goals as goal

pub loop-round-preserved : goal.loop-round-preserved
loop-round-preserved c =
    item-more-after header_lines (λ round. work_line (work_number c.args.rounds c.args.session round)) c.loop-round.round _ _ _ c.loop-round.invariant c.in_ok-push.ensures.items
    (c.in_ok-line_of.ensures ∙ ap (λ (n : ℕ). work_line ((7 * c.args.session + c.loop-round.round * c.loop-round.round) % (2 * n + 1))) c.from.ensures)
