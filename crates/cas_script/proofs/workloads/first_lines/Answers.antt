use Rattle.std.proofs.Common.{◌∙◌, arith}
use Rattle.cas_script.specs.Workload.{header_line, header_lines}
use Rattle.cas_script.proofs.MadeLists.{item-more, items-all, same-header}
use Rattle.cas_script.proofs.workloads.first_lines.Goals as goal

pub loop-number-preserved : goal.loop-number-preserved
loop-number-preserved c = item-more header_line c.loop-number.number _ _ _ c.loop-number.invariant c.in_ok-push.ensures.items
    (same-header c.from_vec-refs.result c.from_vec-data.result c.loop-number.number (c.from_vec-refs.ensures ∙ c.new.ensures.items) (c.from_vec-data.ensures ∙ c.in_ok-named.ensures))

pub returns : goal.returns
unfolding header_lines
returns c = items-all header_line c.loop-number.number 4 _ (omega arith) c.loop-number.invariant
