use Rattle.std.proofs.Common.{length, option_copied}
use Rattle.cas_script.specs.Text.{more_pieces}
use Rattle.cas_script.specs.Parsing.{IsWhole, sessions_of}
use Rattle.cas_script.proofs.Progress.{HasDone}
use Rattle.cas_script.proofs.parse.read_lines.Given as goal

-- the lines so far are the sessions that the parser has read
abbrev pub invariant-loop-rest : goal.invariant-loop-rest
invariant-loop-rest l = record {
  whole : IsWhole l.parser;
  done : HasDone l.text (option_copied l.rest) l.number (sessions_of l.parser);
}

abbrev pub decreases-loop-rest : goal.decreases-loop-rest
decreases-loop-rest l = length (more_pieces 10 (option_copied l.rest))
