-- it is not among the calls so far
use Rattle.std.proofs.Common.{◌≡◌, drop}
use Rattle.cas_history.specs.Replays.{calls_in}
use Rattle.cas_history.proofs.entry.call_of.Given as goal

abbrev pub invariant-loop-asked : goal.invariant-loop-asked
invariant-loop-asked l = calls_in (drop l.asked-index l.calls) l.who ≡ calls_in l.calls l.who
