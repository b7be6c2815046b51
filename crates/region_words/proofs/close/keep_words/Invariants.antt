use Rattle.std.proofs.Common.{◌≡◌, ◌≤◌, take}
use Rattle.std.specs.Slots.{slots_items}
use Rattle.std.specs.Vec.{vec_capacity}
use Rattle.region_words.proofs.close.keep_words.Given as goal

abbrev pub invariant-loop-i : goal.invariant-loop-i
invariant-loop-i l = (l.words.items ≡ take l.i (slots_items l.rows.words)) × (l.size ≤ vec_capacity l.words)
