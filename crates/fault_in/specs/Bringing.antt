-- The parts of bringing in a tree.
use Rattle.std.specs.Prelude.{◌≡◌, ℕ, ◌+◌, ◌<◌, ◌≤◌, List, ◌∷◌, Bool, true, false, drop, length, Some, None}
use Rattle.std.specs.declared.option.Option.{Option}
use Rattle.std.specs.FinMap as fin
use Rattle.cas_model.specs.declared.call.Who.{Who}
use Rattle.cas_model.specs.declared.digest.Digest.{Digest}
use Rattle.cas_model.specs.declared.object.Object.{Object}
use Rattle.cas_model.specs.declared.place.Place.{Place}
use Rattle.cas_model.specs.declared.place.Space.TheVariants.{Objects}
use Rattle.cas_model.specs.Object.{object_digest}
use Rattle.cas_model.specs.Primary.{cell_under}
use Rattle.cas_model.specs.State.{AreBytes}
use Rattle.cas_model.specs.Tables.{place_of}
use Rattle.cas_history.specs.Cost.{asked}
use Rattle.cas_port.specs.declared.block.Block.{Block}
use Rattle.cas_port.specs.declared.block.PortError.{PortError}
use Rattle.cas_port.specs.declared.block.PortError.TheVariants as port
use Rattle.cas_port.specs.View.{View, tables}
use Rattle.graph_db.specs.Storing.{AreFilled, block_of, places_in}
use Rattle.fault_in.specs.declared.error.FaultInError.{FaultInError}
use Rattle.fault_in.specs.declared.error.FaultInError.TheVariants.{Full, Memory}
use Rattle.fault_in.specs.FaultIn.{Brings, Costs, CostsOfBrought, IsRefused}
use Rattle.fault_in.specs.Tree.{IsBelow, missed_since}

-- the claims and refused claims ask together for at most so many words
abbrev pub AsksAtMost : Who → ℕ → View → View → Type 0
AsksAtMost who most old new = asked who new.seen ≤ asked who old.seen + most

-- ---- looking for an object

-- the record is the digest's and its cell is filled
pub record IsFilledAt (digest : Digest) (v : View) (place : Place) : Type 0 where
  pub at : place_of (tables v).bound Objects digest ≡ Some place
  pub filled : 0 < cell_under (tables v) Objects digest

-- the call looked for the digest, for the tree of every root
abbrev pub Seeks : Who → View → View → Type 0
Seeks who old new = (root : Digest) (before : Bool) → Brings who root before old new

-- the digest's record is answered where its cell is filled. Else the call missed it
abbrev pub HasSought : Who → Digest → View → View → Option Place → Type 0
HasSought who digest old new (Some place) = Seeks who old new × IsFilledAt digest new place
HasSought who digest old new None =
    (cell_under (tables new) Objects digest ≡ 0)
    × ((root : Digest) (before : Bool) → (b : Brings who root before old new) × (missed_since old.start who before b.more old.seen ≡ true))

-- memory was wanted
abbrev pub SeekStops : Who → View → View → Type 0
SeekStops who old new = Seeks who old new

-- ---- writing an object

-- the call's newest open block has these words, and all else is as before
pub record HasWords (who : Who) (old new : View) (block : Block) (words : List (Option ℕ)) : Type 0 where
  pub is : new ≡ record old { opened = block_of block who words ∷ drop 1 old.opened }

-- the object is the upstream's, within the limits, and its references are filled at these places
pub record IsReady (v : View) (digest : Digest) (o : Object) (places : List ℕ) : Type 0 where
  pub is : fin.get v.upstream.objects digest ≡ Some o
  pub named : object_digest o ≡ digest
  pub few_refs : length o.refs ≤ 65535
  pub short : length o.data ≤ 16777215
  pub bytes : AreBytes o.data
  pub filled : AreFilled (tables v) o.refs
  pub places_are : places ≡ places_in (tables v) o.refs

-- the object was brought in, as one of each tree that has it, and its record is answered
pub record HasBrought (who : Who) (digest : Digest) (o : Object) (old new : View) (place : Place) : Type 0 where
  pub brings : (root : Digest) → IsBelow old.upstream root digest o → Brings who root true old new
  pub there : IsFilledAt digest new place

-- a claim was refused, or memory was wanted
abbrev pub BringStops : Who → Digest → Object → View → View → PortError → Type 0
BringStops who digest o old new (port.Full full) = (root : Digest) → IsBelow old.upstream root digest o → IsRefused who root true old new full.at full.asked full.size
BringStops who digest o old new port.Memory = (root : Digest) → IsBelow old.upstream root digest o → Brings who root true old new

-- ---- going through the tree

-- the object of the root was brought in after a miss
pub record HasTreeIn (who : Who) (root : Digest) (old new : View) : Type 0 where
  pub brings : Brings who root true old new
  pub there : 0 < cell_under (tables new) Objects root
  pub cost : CostsOfBrought who root old new

-- the object of the root is filled
pub record IsThere (who : Who) (root : Digest) (old new : View) : Type 0 where
  pub brings : Brings who root false old new
  pub there : 0 < cell_under (tables new) Objects root
  pub cost : CostsOfBrought who root old new

-- a claim was refused, or memory was wanted
abbrev pub TreeStops : Who → Digest → Bool → View → View → FaultInError → Type 0
TreeStops who root before old new (Full full) = IsRefused who root before old new full.at full.asked full.size × Costs who root old new
TreeStops who root before old new Memory = Brings who root before old new × Costs who root old new
