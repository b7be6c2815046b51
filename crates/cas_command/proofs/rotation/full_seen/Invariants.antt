use Rattle.std.proofs.Common.{◌≡◌, drop}
use Rattle.cas_command.specs.Rotation.{full_seen}
use Rattle.cas_command.proofs.rotation.full_seen.Given as goal

-- no reply of the sessions so far says so
abbrev pub invariant-loop-session : goal.invariant-loop-session
invariant-loop-session l = full_seen (drop l.session-index l.session-items) ≡ full_seen l.replies.sessions
