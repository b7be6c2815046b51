use Rattle.std.proofs.Common.{◌≡◌, ◌++◌, take}
use Rattle.std.specs.Vec.{vec_capacity}
use Rattle.cas_port.specs.View.{written_words}
use Rattle.cas_port.proofs.block.append_written.Given as goal

abbrev pub invariant-loop-word : goal.invariant-loop-word
invariant-loop-word l = (l.words.items ≡ l.fn.words.items ++ written_words (take l.word-index l.more)) × (vec_capacity l.words ≡ vec_capacity l.fn.words)
