-- What bringing in a tree leaves in its port.
use Rattle.std.specs.Prelude.{◌≡◌, ℕ, ◌+◌, ◌≤◌, List, ◌∷◌, ◌++◌, Bool, true, false, Some, None}
use Rattle.std.specs.declared.option.Option.{Option}
use Rattle.cas_model.specs.declared.call.Call.{Call}
use Rattle.cas_model.specs.declared.call.Reply.{Reply}
use Rattle.cas_model.specs.declared.call.Reply.TheVariants as reply
use Rattle.cas_model.specs.declared.call.Who.{Who}
use Rattle.cas_model.specs.declared.digest.Digest.{Digest}
use Rattle.cas_model.specs.State.{has, Whole}
use Rattle.cas_history.specs.declared.event.Act.TheVariants.{Room}
use Rattle.cas_history.specs.declared.event.Event.{Event}
use Rattle.cas_history.specs.Conduct.{CallOpen, is_shallow, missed}
use Rattle.cas_history.specs.Cost.{Row, asked, rows_cost}
use Rattle.cas_port.specs.Calls.{event_of}
use Rattle.cas_port.specs.View.{View, tables_before}
use Rattle.graph_db.specs.Events.{Stands, seen_state}
use Rattle.fault_in.specs.declared.error.FaultInError.{FaultInError}
use Rattle.fault_in.specs.declared.error.FaultInError.TheVariants.{Full, Memory}
use Rattle.fault_in.specs.Tree.{AreBringing, AreMissing, HasRows, HasTree, IsNeeded, missed_since}
use Rattle.cas_model.specs.Notes.{deep_note}

-- only what was seen grows, by events that bring in the tree
pub record Brings (who : Who) (root : Digest) (before : Bool) (old new : View) : Type 0 where
  pub more : List Event
  pub is : new ≡ record old { seen = more ++ old.seen }
  pub own : AreBringing old.upstream old.start old.speaks who root before more old.seen

-- such events, and then a refused claim with these numbers, the newest event
pub record IsRefused (who : Who) (root : Digest) (before : Bool) (old new : View) (at words size : ℕ) : Type 0 where
  pub more : List Event
  pub moved : Bool
  pub is : new ≡ record old { seen = event_of (deep_note who) (Room words moved) ∷ more ++ old.seen }
  pub own : AreBringing old.upstream old.start old.speaks who root before more old.seen
  pub needed : IsNeeded old.upstream root words
  pub missed : missed_since old.start who before more old.seen ≡ true
  pub at_is : at ≡ (tables_before new).counter
  pub size_is : size ≡ (tables_before new).size

-- a call whose tree has that of the digest keeps its conduct, where it missed before at another stage: it is decided so
abbrev pub KeepsConduct : Who → Digest → View → View → Option Reply → Type 0
KeepsConduct who root old new reply = (calls : Who → Option Call) (call : Call) → calls who ≡ Some call → HasTree old.upstream call root
    → missed old.start who is_shallow old.seen ≡ true → CallOpen old.upstream old.start calls who old.seen
    → Stands new.upstream new.start calls who call reply new.seen

-- the claims and refused claims ask together for at most the cost of these objects of the tree, which the primary lacked
pub record Costs (who : Who) (root : Digest) (old new : View) : Type 0 where
  pub rows : List Row
  pub missing : AreMissing old.upstream root (seen_state old) rows
  pub most : asked who new.seen ≤ asked who old.seen + rows_cost rows

-- the same of objects which the primary has now
pub record CostsOfBrought (who : Who) (root : Digest) (old new : View) : Type 0 where
  pub rows : List Row
  pub missing : AreMissing old.upstream root (seen_state old) rows
  pub there : HasRows (seen_state new) rows
  pub most : asked who new.seen ≤ asked who old.seen + rows_cost rows

-- the primary has the object and all that references reach from it
pub record IsWholeNow (who : Who) (root : Digest) (old new : View) : Type 0 where
  pub there : has (seen_state new) root ≡ true
  pub whole : Whole (seen_state new) root
  pub brings : Brings who root false old new
  pub conduct : KeepsConduct who root old new None
  pub cost : CostsOfBrought who root old new

-- the tree is whole in the primary, or the upstream lacks the digest and nothing was seen
abbrev pub HasFaultedIn : Who → Digest → View → View → Bool → Type 0
HasFaultedIn who root old new true = IsWholeNow who root old new
HasFaultedIn who root old new false = new ≡ old

-- a claim was refused, and its call is decided by it
pub record HasNoRoom (who : Who) (root : Digest) (old new : View) (at words size : ℕ) : Type 0 where
  pub refused : IsRefused who root false old new at words size
  pub conduct : KeepsConduct who root old new (Some (reply.Full at words size))
  pub cost : Costs who root old new

-- memory was wanted, and nothing is decided
pub record HasNoMemory (who : Who) (root : Digest) (old new : View) : Type 0 where
  pub brings : Brings who root false old new
  pub conduct : KeepsConduct who root old new None
  pub cost : Costs who root old new

abbrev pub FaultInStops : Who → Digest → View → View → FaultInError → Type 0
FaultInStops who root old new (Full full) = HasNoRoom who root old new full.at full.asked full.size
FaultInStops who root old new Memory = HasNoMemory who root old new
