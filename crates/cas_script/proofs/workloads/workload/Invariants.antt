-- the sessions before the number
use Rattle.std.proofs.Common.{◌≡◌, map}
use Rattle.std.specs.List.{range_with_len}
use Rattle.cas_script.specs.Workload.{work_session}
use Rattle.cas_script.proofs.workloads.workload.Given as goal

abbrev pub invariant-loop-session : goal.invariant-loop-session
invariant-loop-session l = l.sessions.items ≡ map (work_session l.rounds) (range_with_len 0 l.session)
