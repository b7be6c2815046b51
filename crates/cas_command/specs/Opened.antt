-- A port that is opened at the contents of closed words, over an upstream.
use Rattle.std.specs.Prelude.{◌≡◌, ◌≤◌, []}
use Rattle.cas_model.specs.Primary.{primary}
use Rattle.cas_model.specs.Start.{IsLawfulStart}
use Rattle.cas_model.specs.State.{State}
use Rattle.cas_model.specs.Tables.{Tables}
use Rattle.cell_port.specs.Plain.{PlainValue, upstream_of}

-- the port has this state as its upstream and has seen nothing, and its start names the state that these tables name, in a region of their
-- size, with no higher counter
pub record IsOpenedAt {U : Type 0} (state : U → State) (up : State) (opened : Tables) (port : PlainValue U) : Type 0 where
  pub upstream : upstream_of state port.up ≡ up
  pub lawful : IsLawfulStart port.start
  pub state_is : primary port.start ≡ primary opened
  pub size : port.start.size ≡ opened.size
  pub counter : port.start.counter ≤ opened.counter
  pub unseen : port.seen ≡ []
