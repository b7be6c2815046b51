-- The upstream of a call, and what a call may have to bring in from it.
use Rattle.std.specs.Prelude.{◌≡◌, ◌⊎◌, List, [], ◌∷◌, true, false, Some, None}
use Rattle.std.specs.declared.option.Option.{Option}
use Rattle.std.specs.FinMap as fin
use Rattle.cas_model.specs.declared.call.Call.{Call}
use Rattle.cas_model.specs.declared.call.Call.TheVariants.{Store, Load, Put, Get}
use Rattle.cas_model.specs.declared.call.Who.{Who}
use Rattle.cas_model.specs.declared.digest.Digest.{Digest}
use Rattle.cas_model.specs.declared.object.Object.{Object}
use Rattle.cas_model.specs.Primary.{primary}
use Rattle.cas_model.specs.Object.{object_digest}
use Rattle.cas_model.specs.State.{State, Member, empty_state, has}
use Rattle.cas_history.specs.Conduct.{InTree, IsValue, is_shallow, missed}
use Rattle.cas_port.specs.View.{View}
use Rattle.frozen_store.specs.Seen.{FrozenSeen}
use Rattle.graph_db.specs.Events.{seen_state}
use Rattle.action_cache.specs.Keys.{HasKey}

-- what an upstream holds: the state of its words, and the empty one where there is none
abbrev pub upstream_state : Option FrozenSeen → State
upstream_state None = empty_state
upstream_state (Some frozen) = primary frozen.tables

-- an object of the call's tree is not in the primary yet, so the call may have to bring it in
pub record NeedsTree (call : Call) (v : View) : Type 0 where
  pub digest : Digest
  pub object : Object
  pub tree : InTree v.upstream call digest object
  pub lacks : has (seen_state v) digest ≡ false

-- ---- what a call has to bring in

-- the upstream alone has the object
pub record IsLacking (digest : Digest) (v : View) : Type 0 where
  pub is : has v.upstream digest ≡ true
  pub lacks : has (seen_state v) digest ≡ false

-- the upstream alone has one of these references
pub record LacksOne (refs : List Digest) (v : View) : Type 0 where
  pub digest : Digest
  pub among : Member digest refs
  pub is : has v.upstream digest ≡ true
  pub lacks : has (seen_state v) digest ≡ false

-- the upstream or the primary has each
abbrev pub AreVisible : State → State → List Digest → Type 0
AreVisible up s [] = Unit {0}
AreVisible up s (d ∷ ds) = ((has up d ≡ true) ⊎ (has s d ≡ true)) × AreVisible up s ds

-- the upstream alone has the value that a put leaves at its key, which is the upstream's where it has the key
pub record LacksItsValue (key value : Digest) (v : View) : Type 0 where
  pub given : Digest
  pub is : IsValue (fin.get v.upstream.cache key) value given
  pub lacking : IsLacking given v

-- the upstream alone has the value that it gives to the key
pub record LacksGiven (key : Digest) (v : View) : Type 0 where
  pub given : Digest
  pub is : fin.get v.upstream.cache key ≡ Some given
  pub lacking : IsLacking given v

-- The call has to bring a tree in: a store whose references are visible, one of which or whose object the upstream alone has, a load of an object that
-- the upstream alone has, and a put or a get of a key that the primary lacks, with a value that the upstream alone has. The value that a put names is
-- visible too
abbrev pub HasToBring : Call → View → View → Type 0
HasToBring (Store o) old new = AreVisible new.upstream (seen_state new) o.refs × (LacksOne o.refs old ⊎ IsLacking (object_digest o) old)
HasToBring (Load digest) old new = IsLacking digest old
HasToBring (Put key value) old new = AreVisible new.upstream (seen_state new) (value ∷ []) × (HasKey old key → ⊥) × LacksItsValue key value old
HasToBring (Get key) old new = (HasKey old key → ⊥) × LacksGiven key old

-- the call looked for something that the primary lacked, and has to bring a tree in
pub record HadToBring (who : Who) (call : Call) (old new : View) : Type 0 where
  pub missed : missed new.start who is_shallow new.seen ≡ true
  pub brings : HasToBring call old new
