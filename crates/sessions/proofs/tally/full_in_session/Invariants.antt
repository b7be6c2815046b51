-- the lines before the index are counted
use Rattle.std.proofs.Common.{◌≡◌, ◌+◌, ◌≤◌, drop}
use Rattle.sessions.specs.Summary.{full_in_session}
use Rattle.sessions.proofs.tally.full_in_session.Given as goal

abbrev pub invariant-loop-line : goal.invariant-loop-line
invariant-loop-line l = record {
  is : l.full + full_in_session (drop l.line-index l.lines) l.rest ≡ full_in_session l.lines l.replies;
  few : l.full ≤ l.line-index;
}
