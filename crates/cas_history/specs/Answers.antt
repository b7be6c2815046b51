-- What each act answers, from the tables before it.
use Rattle.std.specs.Prelude.{ℕ, zero, suc, Some, None}
use Rattle.std.specs.declared.option.Option.{Option}
use Rattle.cas_model.specs.declared.place.Place.{Place}
use Rattle.cas_model.specs.Tables.{Tables, place_of, cell_of}
use Rattle.cas_history.specs.declared.event.Act.{Act}
use Rattle.cas_history.specs.declared.event.Act.TheVariants.{Look, Bind, Read, Claim, Room, Fill}
use Rattle.cas_history.specs.declared.event.Answer.{Answer}
use Rattle.cas_history.specs.declared.event.Answer.TheVariants.{Looked, Bound, Value, Given, Refused, Won, Lost}

-- the place that was bound before, or else the own one
abbrev pub bound_place : Option Place → Option Place → Option Place
bound_place (Some p) own = Some p
bound_place None own = own

-- a fill wins where the cell is 0
abbrev pub fill_answer : ℕ → ℕ → Answer
fill_answer zero value = Won value
fill_answer (suc had) value = Lost (suc had)

abbrev pub answer : Tables → Act → Answer
answer s (Look space digest) = Looked (place_of s.bound space digest)
answer s (Bind space digest own) = Bound (bound_place (place_of s.bound space digest) own)
answer s (Read cell) = Value (cell_of s.filled cell.at)
answer s (Claim n) = Given s.counter
answer s (Room n moved) = Refused s.counter
answer s (Fill cell value words) = fill_answer (cell_of s.filled cell.at) value
