use Rattle.std.proofs.Common.{◌≡◌, take}
use Rattle.cas_model.specs.Content.{bytes_of}
use Rattle.frozen_store.proofs.reading.bytes_at.Given as goal

abbrev pub invariant-loop-word : goal.invariant-loop-word
invariant-loop-word l = l.bytes.items ≡ bytes_of (take l.word-index l.words)
