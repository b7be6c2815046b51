use Rattle.std.proofs.Common.{◌++◌, List, length, option_copied}
use Rattle.cas_model.specs.declared.digest.Digest.{Digest}
use Rattle.cas_script.specs.declared.error.LineKind.{LineKind}
use Rattle.cas_script.specs.Text.{more_pieces}
use Rattle.cas_script.specs.Arguments.{AreNames, AreNoNames}
use Rattle.cas_script.proofs.line.refs_of.Given as goal

-- names of what is left complete those so far, and what refuses the rest refuses all
abbrev pub invariant-loop-rest : goal.invariant-loop-rest
invariant-loop-rest l = record {
  names : (refs : List Digest) → AreNames l.stored (more_pieces 32 (option_copied l.rest)) refs
      → AreNames l.stored (more_pieces 32 (option_copied l.tokens)) (l.refs.items ++ refs);
  none : (kind : LineKind) → AreNoNames l.stored (more_pieces 32 (option_copied l.rest)) kind
      → AreNoNames l.stored (more_pieces 32 (option_copied l.tokens)) kind;
}

abbrev pub decreases-loop-rest : goal.decreases-loop-rest
decreases-loop-rest l = length (more_pieces 32 (option_copied l.rest))
