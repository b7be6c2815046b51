-- Which calls of a store only look and read.
use Rattle.std.specs.Prelude.{◌≡◌, true, Some, is_some}
use Rattle.std.specs.FinMap as fin
use Rattle.cas_model.specs.declared.call.Call.{Call}
use Rattle.cas_model.specs.declared.call.Call.TheVariants.{Store, Load, Put, Get}
use Rattle.cas_model.specs.declared.call.Reply.{Reply}
use Rattle.cas_model.specs.declared.call.Reply.TheVariants.{Stored, Found, Missing, Kept, Hit, Miss, Dangling}
use Rattle.cas_model.specs.declared.call.Who.{Who}
use Rattle.cas_model.specs.Object.{object_digest}
use Rattle.cas_model.specs.State.{State, has}
use Rattle.cas_port.specs.View.{View}
use Rattle.graph_db.specs.Events.{Reads, seen_state}

-- over a primary with this state nothing has to change for a call to be answered so: it finds something absent, or what it wants is in the primary
abbrev pub NeedsNoChange : State → Call → Reply → Type 0
NeedsNoChange s call (Dangling i digest) = Unit {0}
NeedsNoChange s call Missing = Unit {0}
NeedsNoChange s call Miss = Unit {0}
NeedsNoChange s (Load digest) (Found o) = has s digest ≡ true
NeedsNoChange s (Store o) (Stored digest) = fin.get s.objects (object_digest o) ≡ Some o
NeedsNoChange s (Get key) (Hit value) = is_some (fin.get s.cache key) ≡ true
NeedsNoChange s (Put key value) (Kept kept) = is_some (fin.get s.cache key) ≡ true
NeedsNoChange s call given = ⊥

-- a call that needs no change has only looked and read, and so left the primary as it was
abbrev pub ReadsAlone : Who → Call → Reply → View → View → Type 0
ReadsAlone who call given old new = NeedsNoChange (seen_state old) call given → Reads who old new
