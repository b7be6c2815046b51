-- the words so far
use Rattle.std.proofs.Common.{◌≡◌}
use Rattle.cas_model.specs.Content.{words_from}
use Rattle.image_file.proofs.reading.words_of.Given as goal

abbrev pub invariant-loop-index : goal.invariant-loop-index
invariant-loop-index l = l.words.items ≡ words_from l.index l.bytes
