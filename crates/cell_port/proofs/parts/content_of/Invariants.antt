use Rattle.std.proofs.Common.{◌≡◌, ◌++◌, ◌∷◌, take, length}
use Rattle.cas_model.specs.Content.{content_head, data_words}
use Rattle.cell_port.specs.Parts.{places_of}
use Rattle.cell_port.proofs.parts.content_of.Given as goal

-- the head, and the places of the references so far
abbrev pub invariant-loop-r : goal.invariant-loop-r
invariant-loop-r l = l.words.items ≡ content_head (length l.object.refs) (length l.object.data) ∷ places_of l.tables.bound (take l.r-index l.object.refs)

-- the head and the places, and the words of the data so far
abbrev pub invariant-loop-i : goal.invariant-loop-i
invariant-loop-i l =
    l.words.items ≡ (content_head (length l.object.refs) (length l.object.data) ∷ places_of l.tables.bound l.object.refs) ++ take l.i (data_words l.object.data)
