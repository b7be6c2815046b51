use Rattle.std.proofs.Common.{◌≡◌, drop}
use Rattle.cas_model.specs.Tables.{words_at}
use Rattle.cell_port.proofs.searches.find_words.Given as goal

-- it is not among the rows so far
abbrev pub invariant-loop-i : goal.invariant-loop-i
invariant-loop-i l = words_at (drop l.i l.contents.items) l.place ≡ words_at l.contents.items l.place
