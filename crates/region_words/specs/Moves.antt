-- Refused claims that have moved the counter.
use Rattle.std.specs.Prelude.{◌≡◌, ℕ, ◌+◌, ◌*◌, ◌≤◌, List, [], ◌∷◌, true, false}
use Rattle.cas_history.specs.declared.event.Act.{Act}
use Rattle.cas_history.specs.declared.event.Act.TheVariants.{Look, Bind, Read, Claim, Room, Fill}
use Rattle.cas_history.specs.declared.event.Event.{Event}

-- by how much a refused claim has moved the counter
abbrev pub moved_by : Act → ℕ
moved_by (Room n true) = n
moved_by (Room n false) = 0
moved_by (Claim n) = 0
moved_by (Look space digest) = 0
moved_by (Bind space digest own) = 0
moved_by (Read cell) = 0
moved_by (Fill cell value words) = 0

-- how often the act is a refused claim that has moved the counter
abbrev pub moves : Act → ℕ
moves (Room n true) = 1
moves (Room n false) = 0
moves (Claim n) = 0
moves (Look space digest) = 0
moves (Bind space digest own) = 0
moves (Read cell) = 0
moves (Fill cell value words) = 0

abbrev pub moves_in : List Event → ℕ
moves_in [] = 0
moves_in (e ∷ es) = moves e.act + moves_in es

abbrev pub moved_in : List Event → ℕ
moved_in [] = 0
moved_in (e ∷ es) = moved_by e.act + moved_in es

-- each of them is of a session of at most 64, and asked for at most as many words as the largest content has
abbrev pub MovesAreSmall : List Event → Type 0
MovesAreSmall [] = Unit {0}
MovesAreSmall (e ∷ es) = (moves e.act ≡ 1 → (e.note.who.session ≤ 64) × (moved_by e.act ≤ 2162688)) × MovesAreSmall es

-- what the counter never passes: 65 sessions move it past the size once each
abbrev pub counter_limit : ℕ → ℕ
counter_limit size = size + 65 * 2162688
