-- A plain port: what it keeps goes with the run that it has seen.
use Rattle.std.specs.Prelude.{◌≡◌, ℕ, zero, suc, ◌+◌, ◌-◌, ◌*◌, ◌/◌, ◌<◌, ◌≤◌, List, [], ◌∷◌, ◌⊎◌, cond, nat_lt, false, Some, None, length}
use Rattle.std.specs.declared.option.Option.{Option}
use Rattle.cas_model.specs.declared.digest.Digest.{Digest}
use Rattle.cas_model.specs.declared.note.Note.{Note}
use Rattle.cas_model.specs.declared.place.Full.{Full as Refusal}
use Rattle.cas_model.specs.declared.place.Place.{Place}
use Rattle.cas_model.specs.declared.place.Space.{Space}
use Rattle.cas_model.specs.declared.place.Space.TheVariants.{Objects, Actions}
use Rattle.cas_model.specs.Claims.{record_words, block_words}
use Rattle.cas_model.specs.State.{State, empty_state}
use Rattle.cas_model.specs.Tables.{Tables}
use Rattle.cas_history.specs.declared.event.Act.TheVariants.{Bind, Claim, Room}
use Rattle.cas_history.specs.declared.event.Event.{Event}
use Rattle.cas_history.specs.Lawful.{IsLawfulRun, IsFreeBlock}
use Rattle.cas_history.specs.Run.{tables, published}
use Rattle.cas_port.specs.declared.block.OpenBlock.{OpenBlock}
use Rattle.cas_port.specs.declared.block.PortError.{PortError}
use Rattle.cas_port.specs.declared.block.PortError.TheVariants.{Full, Memory}
use Rattle.cell_port.specs.declared.shown.Shown.{Shown}
use Rattle.cas_port.specs.Calls.{event_of}
use Rattle.cell_port.specs.FilledRows.{AreRows}
use Rattle.cell_port.specs.Needed.{needed, bound_in}
use Rattle.cell_port.specs.Shown.{AreBelow, contents_of}
use Rattle.cell_port.specs.Tables.{PlainRows}

-- what contracts see of a plain port
pub record PlainValue (U : Type 0) : Type 0 where
  pub up : Option U
  pub start : Tables
  pub seen : List Event
  pub opened : List OpenBlock

-- what contracts see of the events that a plain port leaves
pub record EventsValue : Type 0 where
  pub start : Tables
  pub seen : List Event

-- the state of an upstream, empty where there is none
abbrev pub upstream_of : {U : Type 0} → (U → State) → Option U → State
upstream_of state None = empty_state
upstream_of state (Some u) = state u

-- ---- what a plain port does

-- so many claims of subtries
abbrev pub claims_on : Note → ℕ → List Event → List Event
claims_on note zero seen = seen
claims_on note (suc n) seen = event_of note (Claim 16) ∷ claims_on note n seen

-- a claim of a record, and so many of subtries
abbrev pub bind_claims : Note → ℕ → List Event → List Event
bind_claims note n seen = claims_on note n (event_of note (Claim 5) ∷ seen)

-- the digest is bound at the counter, after its claims
pub record BindsNew (note : Note) (space : Space) (digest : Digest) (r new : PlainRows) (seen after : List Event) (place : Place) : Type 0 where
  pub fits : r.counter + (5 + 16 * needed r.bound space digest) ≤ r.start.size
  pub at : place ≡ record { at = r.counter }
  pub rows : new ≡ record r {
    counter = r.counter + (5 + 16 * needed r.bound space digest);
    bound = (record { space = space; digest = digest; place = record { at = r.counter } }) ∷ r.bound;
  }
  pub events : after ≡ event_of note (Bind space digest (Some (record { at = r.counter }))) ∷ bind_claims note (needed r.bound space digest) seen

-- how many subtries are claimed before one is refused, where the record's claim is not
abbrev pub granted : PlainRows → ℕ
granted r = (r.start.size - r.counter - 5) / 16

-- the first of the claims that does not fit is refused
abbrev pub BindIsRefused : Note → PlainRows → PlainRows → List Event → List Event → Refusal → Type 0
BindIsRefused note r new seen after full =
    ((r.start.size < r.counter + 5) × (new ≡ r) × (after ≡ event_of note (Room 5 false) ∷ seen) × (full ≡ record { at = r.counter; asked = 5; size = r.start.size }))
    ⊎ ((r.counter + 5 ≤ r.start.size) × (new ≡ record r { counter = r.counter + (5 + 16 * granted r) })
    × (after ≡ event_of note (Room 16 false) ∷ bind_claims note (granted r) seen) × (full ≡ record { at = r.counter + (5 + 16 * granted r); asked = 16; size = r.start.size }))

-- a bind that was refused: one of its claims did not fit, or memory was wanted and nothing changed
abbrev pub BindStays : Note → ℕ → PlainRows → PlainRows → List Event → List Event → PortError → Type 0
BindStays note n r new seen after Memory = (new ≡ r) × (after ≡ seen)
BindStays note n r new seen after (Full full) = (r.start.size < r.counter + (5 + 16 * n)) × BindIsRefused note r new seen after full

-- the rows after a fill of a cell that had this value
abbrev pub rows_filled : ℕ → PlainRows → Place → ℕ → List ℕ → PlainRows
rows_filled (suc _) r cell value words = r
rows_filled zero r cell value words = record r { filled = (record { of = cell; value = value }) ∷ r.filled; blocks = published value words r.blocks }

-- what a plain port sees in a bind, from these tables: a bound digest needs no record, and an unbound one its claims
abbrev pub bind_events : Note → Space → Digest → Option Place → Tables → List Event → List Event
bind_events note space digest (Some _) s seen = event_of note (Bind space digest None) ∷ seen
bind_events note space digest None s seen =
    event_of note (Bind space digest (Some (record { at = s.counter }))) ∷ bind_claims note (needed s.bound space digest) seen

-- and in a bind that is refused: those of its claims that fit, and the first that does not
abbrev pub refused_events : Note → Tables → List Event → List Event
refused_events note s seen =
    cond (nat_lt (s.size - s.counter) 5) (event_of note (Room 5 false) ∷ seen)
    (event_of note (Room 16 false) ∷ bind_claims note ((s.size - s.counter - 5) / 16) seen)

-- a plain port that wanted memory has seen nothing more, and one whose claim was refused has seen these events
abbrev pub HasSeen : List Event → List Event → List Event → PortError → Type 0
HasSeen old new refused Memory = new ≡ old
HasSeen old new refused (Full _) = new ≡ refused

-- ---- what a plain port keeps

-- each open block is a claimed one that nothing names; the newest is the highest
abbrev pub OpensBelow : Tables → ℕ → List OpenBlock → Type 0
OpensBelow s n [] = Unit {0}
OpensBelow s n (o ∷ os) = (o.place < n) × IsFreeBlock s o.who o.place (length o.words) × OpensBelow s o.place os

-- the words of the open blocks
abbrev pub open_total : List OpenBlock → ℕ
open_total [] = 0
open_total (o ∷ os) = length o.words + open_total os

-- the counter pays for the header and the roots, for all records with their subtries, for all contents, and for all open blocks
abbrev pub IsPaid : PlainRows → List OpenBlock → Type 0
IsPaid r opened = 520 + (record_words (bound_in Objects r.bound) + record_words (bound_in Actions r.bound) + block_words r.blocks) + open_total opened ≤ r.counter

-- the tables of the run are those that the port keeps
pub record Ties (s : Tables) (r : PlainRows) : Type 0 where
  pub size_is : s.size ≡ r.start.size
  pub counter_is : s.counter ≡ r.counter
  pub given_is : s.given ≡ r.counter
  pub bound_is : s.bound ≡ r.bound
  pub filled_is : s.filled ≡ r.filled
  pub blocks_is : s.blocks ≡ r.blocks

pub record Tied (up : State) (r : PlainRows) (opened : List OpenBlock) (seen : List Event) : Type 0 where
  pub ties : Ties (tables r.start seen) r
  pub lawful : IsLawfulRun up r.start seen
  pub within : r.counter ≤ r.start.size
  pub opens : OpensBelow (tables r.start seen) r.counter opened
  pub paid : IsPaid r opened
  -- each filled cell names what it may, in the order in which they were filled
  pub rows : AreRows r.bound r.blocks r.filled

-- a plain port keeps the words that its run published in the events alone, and its rows have the contents of the start
pub record Keeps (up : State) (r : PlainRows) (opened : List OpenBlock) (seen : List Event) (shown : List Shown) : Type 0 where
  pub tied : Tied up (record r { blocks = contents_of seen shown r }) opened seen
  pub below : AreBelow (length seen) shown
