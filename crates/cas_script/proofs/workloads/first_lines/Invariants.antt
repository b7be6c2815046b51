-- the headers before the number are stored
use Rattle.std.proofs.Common.{◌≡◌, map}
use Rattle.std.specs.List.{range_with_len}
use Rattle.cas_script.specs.Workload.{header_line}
use Rattle.cas_script.proofs.workloads.first_lines.Given as goal

abbrev pub invariant-loop-number : goal.invariant-loop-number
invariant-loop-number l = l.lines.items ≡ map header_line (range_with_len 0 l.number)
