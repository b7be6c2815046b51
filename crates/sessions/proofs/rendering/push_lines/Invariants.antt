-- the lines before the index are written
use Rattle.std.proofs.Common.{◌≡◌, ◌++◌}
use Rattle.sessions.specs.Rendering.{lines_text}
use Rattle.sessions.proofs.Rendered.{left_text}
use Rattle.sessions.proofs.rendering.push_lines.Given as goal

abbrev pub invariant-loop-index : goal.invariant-loop-index
invariant-loop-index l = l.text.items ++ left_text l.session l.index l.lines l.rest ≡ l.fn.text.items ++ lines_text l.session 1 l.lines l.replies
