-- it is not among the contents so far
use Rattle.std.proofs.Common.{◌≡◌, drop}
use Rattle.cas_model.specs.Tables.{words_at}
use Rattle.cas_history.proofs.reading.find_words.Given as goal

abbrev pub invariant-loop-content : goal.invariant-loop-content
invariant-loop-content l = words_at (drop l.content-index l.blocks) l.place ≡ words_at l.blocks l.place
