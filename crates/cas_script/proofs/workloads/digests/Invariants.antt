-- the digests of the headers before the number
use Rattle.std.proofs.Common.{◌≡◌, map}
use Rattle.std.specs.List.{range_with_len}
use Rattle.cas_script.specs.Workload.{header_digest}
use Rattle.cas_script.proofs.workloads.digests.Given as goal

abbrev pub invariant-loop-number : goal.invariant-loop-number
invariant-loop-number l = l.digests.items ≡ map header_digest (range_with_len 0 l.number)
