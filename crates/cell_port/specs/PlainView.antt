-- A plain port as a port.
use Rattle.std.specs.Prelude.{List, true}
use Rattle.cas_model.specs.State.{State}
use Rattle.cas_model.specs.Tables.{Tables}
use Rattle.cas_history.specs.declared.event.Event.{Event}
use Rattle.cas_port.specs.declared.block.OpenBlock.{OpenBlock}
use Rattle.cas_history.specs.Run.{tables}
use Rattle.cell_port.specs.Plain.{PlainValue, upstream_of}
use Rattle.cas_port.specs.View.{View}

-- it speaks for every session, and takes memory
abbrev pub plain_view : State → Tables → List Event → List OpenBlock → View
plain_view up start seen opened = record { region = 0; start = start; upstream = up; seen = seen; speaks = λ _. true; takes_memory = true; opened = opened }

-- the view of a plain port, from its upstream's state
abbrev pub port_view : {U : Type 0} → (U → State) → PlainValue U → View
port_view state p = plain_view (upstream_of state p.up) p.start p.seen p.opened

-- the tables now
abbrev pub port_tables : {U : Type 0} → PlainValue U → Tables
port_tables p = tables p.start p.seen
