-- The blocks that a seat has claimed and not published.
use Rattle.std.specs.Prelude.{◌≡◌, ℕ, ◌+◌, ◌≤◌, ◌==◌, List, [], ◌∷◌, ◌++◌, length, cond, Some, None}
use Rattle.std.specs.declared.option.Option.{Option}
use Rattle.cas_model.specs.declared.call.Who.{Who}
use Rattle.cas_port.specs.declared.block.OpenBlock.{OpenBlock}
use Rattle.cas_port.specs.Blank.{none_written}
use Rattle.region_words.specs.declared.hold.Hold.{Hold}
use Rattle.region_words.specs.declared.hold.Hold.TheVariants.{Caller, Bind}
use Rattle.region_words.specs.declared.view.SeatView.{SeatView}

-- the block at a place
abbrev pub block_at : List OpenBlock → ℕ → Option OpenBlock
block_at [] place = None
block_at (o ∷ os) place = cond (o.place == place) (Some o) (block_at os place)

-- no two of the blocks are at one place
abbrev pub AreSingle : List OpenBlock → Type 0
AreSingle [] = Unit {0}
AreSingle (o ∷ os) = (block_at os o.place ≡ None) × AreSingle os

-- each of the blocks ends at or below a place
abbrev pub EndBy : ℕ → List OpenBlock → Type 0
EndBy most [] = Unit {0}
EndBy most (o ∷ os) = (o.place + length o.words ≤ most) × EndBy most os

-- all blocks of the seat, those for its caller first
abbrev pub all_blocks : SeatView → List OpenBlock
all_blocks v = v.blocks ++ v.working

-- the blocks that are held so
abbrev pub held : Hold → SeatView → List OpenBlock
held Caller v = v.blocks
held Bind v = v.working

-- the seat with these blocks held so
abbrev pub holding : Hold → SeatView → List OpenBlock → SeatView
holding Caller v os = record v { blocks = os }
holding Bind v os = record v { working = os }

-- a block of so many words that a call claimed at a place, with nothing written
abbrev pub new_block : ℕ → Who → ℕ → OpenBlock
new_block place who n = record { place = place; who = who; words = none_written n }
