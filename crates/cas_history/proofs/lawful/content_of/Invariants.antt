-- the words so far: the head, the places, and so many words of the data
use Rattle.std.proofs.Common.{◌≡◌, ◌∷◌, ◌++◌, length}
use Rattle.cas_model.specs.Content.{content_head, words_from}
use Rattle.cas_history.proofs.lawful.content_of.Given as goal

abbrev pub invariant-loop-index : goal.invariant-loop-index
invariant-loop-index l = l.words.items ≡ content_head (length l.places) (length l.data) ∷ l.places ++ words_from l.index l.data
