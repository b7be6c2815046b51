-- the sessions before the number are counted
use Rattle.std.proofs.Common.{◌≡◌, ◌+◌, ◌*◌, ◌≤◌, drop}
use Rattle.sessions.specs.Summary.{full_in}
use Rattle.sessions.proofs.tally.full_lines.Given as goal

abbrev pub invariant-loop-number : goal.invariant-loop-number
invariant-loop-number l = record {
  is : l.full + full_in (drop l.number l.script.sessions) (drop l.number l.replies.sessions) ≡ full_in l.script.sessions l.replies.sessions;
  few : l.full ≤ 65536 * l.number;
}
