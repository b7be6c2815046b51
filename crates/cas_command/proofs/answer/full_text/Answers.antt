-- the pieces of the line
use Rattle.std.proofs.Common.{append_assoc, ◌∙◌}
use Rattle.cas_command.proofs.answer.full_text.Goals as goal

pub returns : goal.returns
returns c = rw c.into_bytes.ensures.value (c.in_ok-line.ensures.ok ∙ simp append_assoc)
