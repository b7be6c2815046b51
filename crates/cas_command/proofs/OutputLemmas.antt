-- Lines of ids, one after the other.
use Rattle.std.proofs.Common.{◌≡◌, ℕ, ◌≤◌, List, ◌++◌, length, drop, ap, sym, ◌∙◌, append-nil}
use Rattle.std.proofs.lemmas.List.{drop_all}
use Rattle.cas_model.specs.declared.digest.Digest.{Digest}
use Rattle.cas_command.specs.Output.{ref_lines}

pub lines-all : (digests : List Digest) (i : ℕ) (text whole : List ℕ) → length digests ≤ i → text ++ ref_lines (drop i digests) ≡ whole → text ≡ whole
lines-all digests i text whole le so_far = sym (append-nil text) ∙ sym (ap (λ ds. text ++ ref_lines ds) (drop_all i digests le)) ∙ so_far
