-- the sessions before the number are written
use Rattle.std.proofs.Common.{◌≡◌, ◌++◌, drop}
use Rattle.sessions.specs.Rendering.{sessions_text, batch_text}
use Rattle.sessions.proofs.rendering.render.Given as goal

abbrev pub invariant-loop-number : goal.invariant-loop-number
invariant-loop-number l =
    l.text.items ++ sessions_text l.number (drop l.number l.script.sessions) (drop l.number l.replies.sessions) ≡ batch_text l.script.sessions l.replies.sessions
