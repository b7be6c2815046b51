-- the lines of the ids so far, and of those that follow
use Rattle.std.proofs.Common.{◌≡◌, ◌++◌, drop}
use Rattle.cas_command.specs.Output.{ref_lines}
use Rattle.cas_command.proofs.output.lines_of.Given as goal

abbrev pub invariant-loop-digest : goal.invariant-loop-digest
invariant-loop-digest l = l.text.items ++ ref_lines (drop l.digest-index l.digests) ≡ ref_lines l.digests
