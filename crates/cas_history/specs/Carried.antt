-- The primary state carried along a run: only a fill that wins adds to it.
use Rattle.std.specs.Prelude.{ℕ, zero, suc, List, [], ◌∷◌, Some, None}
use Rattle.std.specs.declared.option.Option.{Option}
use Rattle.std.specs.FinMap as fin
use Rattle.cas_model.specs.declared.digest.Digest.{Digest}
use Rattle.cas_model.specs.declared.object.Object.{Object}
use Rattle.cas_model.specs.declared.place.Space.{Space}
use Rattle.cas_model.specs.declared.place.Space.TheVariants.{Objects, Actions}
use Rattle.cas_model.specs.declared.tables.Record.{Record}
use Rattle.cas_model.specs.Primary.{primary}
use Rattle.cas_model.specs.State.{State}
use Rattle.cas_model.specs.Tables.{Tables, record_at, cell_of, object_of, digest_at}
use Rattle.cas_history.specs.declared.event.Act.{Act}
use Rattle.cas_history.specs.declared.event.Act.TheVariants.{Look, Bind, Read, Claim, Room, Fill}
use Rattle.cas_history.specs.declared.event.Event.{Event}
use Rattle.cas_history.specs.Run.{tables}

-- the state with an object added under a digest, or a value under a key
abbrev pub filled_state : State → Space → Digest → Object → Digest → State
filled_state p Objects digest o value = record p { objects = fin.insert p.objects digest o }
filled_state p Actions digest o value = record p { cache = fin.insert p.cache digest value }

-- what a fill of a record's cell adds, where the cell is 0
abbrev pub state_filled_by : State → Tables → ℕ → Option Record → ℕ → List ℕ → State
state_filled_by p s (suc _) found value words = p
state_filled_by p s zero None value words = p
state_filled_by p s zero (Some r) value words = filled_state p r.space r.digest (object_of s.bound words) (digest_at s.bound value)

-- the state after an act
abbrev pub carried_by : State → Tables → Act → State
carried_by p s (Look space digest) = p
carried_by p s (Bind space digest own) = p
carried_by p s (Read cell) = p
carried_by p s (Claim n) = p
carried_by p s (Room n moved) = p
carried_by p s (Fill cell value words) = state_filled_by p s (cell_of s.filled cell.at) (record_at s.bound cell.at) value words

-- the state after these events
abbrev pub carried : Tables → List Event → State
carried start [] = primary start
carried start (event ∷ earlier) = carried_by (carried start earlier) (tables start earlier) event.act
