-- The run of a region: what each event does to its tables.
-- Events are listed with the newest first, so what was seen before is the tail of what is seen after.
use Rattle.std.specs.Prelude.{ℕ, zero, suc, ◌+◌, List, [], ◌∷◌, cond, Some, None}
use Rattle.std.specs.declared.option.Option.{Option}
use Rattle.cas_model.specs.declared.call.Who.{Who}
use Rattle.cas_model.specs.declared.digest.Digest.{Digest}
use Rattle.cas_model.specs.declared.place.Place.{Place}
use Rattle.cas_model.specs.declared.place.Space.{Space}
use Rattle.cas_model.specs.declared.tables.Content.{Content}
use Rattle.cas_model.specs.Primary.{primary}
use Rattle.cas_model.specs.State.{State}
use Rattle.cas_model.specs.Tables.{Tables, place_of, cell_of}
use Rattle.cas_history.specs.declared.event.Act.{Act}
use Rattle.cas_history.specs.declared.event.Act.TheVariants.{Look, Bind, Read, Claim, Room, Fill}
use Rattle.cas_history.specs.declared.event.Event.{Event}

-- binds a digest to a record of the event's own, where it is not bound yet
abbrev pub bound_by : Tables → Space → Digest → Option Place → Option Place → Tables
bound_by s space digest (Some _) own = s
bound_by s space digest None None = s
bound_by s space digest None (Some own) = record s { bound = (record { space = space; digest = digest; place = own }) ∷ s.bound }

-- a fill with words publishes them
abbrev pub published : ℕ → List ℕ → List Content → List Content
published value [] blocks = blocks
published value (w ∷ ws) blocks = (record { place = value; words = w ∷ ws }) ∷ blocks

-- fills a cell, where it is 0
abbrev pub filled_by : Tables → ℕ → Place → ℕ → List ℕ → Tables
filled_by s (suc _) cell value words = s
filled_by s zero cell value words = record s { filled = (record { of = cell; value = value }) ∷ s.filled; blocks = published value words s.blocks }

-- a claim gives its call the block at the counter, and moves the counter past it
abbrev pub claimed_by : Tables → Who → ℕ → Tables
claimed_by s who n = record s { counter = s.counter + n; given = s.counter + n; claims = (record { who = who; place = s.counter; length = n }) ∷ s.claims }

-- the tables after an act of a call
abbrev pub after_act : Tables → Who → Act → Tables
after_act s who (Look space digest) = s
after_act s who (Bind space digest own) = bound_by s space digest (place_of s.bound space digest) own
after_act s who (Read cell) = s
after_act s who (Claim n) = claimed_by s who n
after_act s who (Room n moved) = record s { counter = cond moved (s.counter + n) s.counter }
after_act s who (Fill cell value words) = filled_by s (cell_of s.filled cell.at) cell value words

abbrev pub after : Tables → Event → Tables
after s event = after_act s event.note.who event.act

-- the tables after these events
abbrev pub tables : Tables → List Event → Tables
tables start [] = start
tables start (event ∷ earlier) = after (tables start earlier) event

-- the primary state after these events
abbrev pub primary_of : Tables → List Event → State
primary_of start seen = primary (tables start seen)
