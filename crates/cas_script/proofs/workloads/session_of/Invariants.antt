-- the headers, and the work of the rounds before this one
use Rattle.std.proofs.Common.{◌≡◌, ◌++◌}
use Rattle.cas_script.specs.Workload.{header_lines, work_lines}
use Rattle.cas_script.proofs.workloads.session_of.Given as goal

abbrev pub invariant-loop-round : goal.invariant-loop-round
invariant-loop-round l = l.lines.items ≡ header_lines ++ work_lines l.rounds l.session l.round
