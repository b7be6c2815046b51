-- the ids before the index are written
use Rattle.std.proofs.Common.{◌≡◌, ◌++◌, drop}
use Rattle.sessions.specs.Rendering.{refs_text}
use Rattle.sessions.proofs.reply_text.push_refs.Given as goal

abbrev pub invariant-loop-digest : goal.invariant-loop-digest
invariant-loop-digest l = l.text.items ++ refs_text (drop l.digest-index l.refs) ≡ l.fn.text.items ++ refs_text l.refs
