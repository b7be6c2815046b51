use Rattle.std.proofs.Common.{◌≡◌, drop}
use Rattle.cas_command.specs.Rotation.{any_outgrows}
use Rattle.cas_command.proofs.rotation.any_outgrows.Given as goal

-- no reply so far says so
abbrev pub invariant-loop-reply : goal.invariant-loop-reply
invariant-loop-reply l = any_outgrows (drop l.reply-index l.replies) ≡ any_outgrows l.replies
