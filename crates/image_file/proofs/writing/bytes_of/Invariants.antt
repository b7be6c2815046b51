-- the bytes of the words so far, and of those that follow
use Rattle.std.proofs.Common.{◌≡◌, ◌++◌, drop}
use Rattle.cas_model.specs.Content.{bytes_of}
use Rattle.image_file.proofs.writing.bytes_of.Given as goal

abbrev pub invariant-loop-word : goal.invariant-loop-word
invariant-loop-word l = l.bytes.items ++ bytes_of (drop l.word-index l.words) ≡ bytes_of l.words
