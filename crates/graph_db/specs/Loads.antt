-- What a load leaves in its port.
use Rattle.std.specs.Prelude.{◌≡◌, true, false, not, ◌⊎◌, Some, None}
use Rattle.std.specs.declared.option.Option.{Option}
use Rattle.std.specs.FinMap as fin
use Rattle.cas_model.specs.declared.call.Call.TheVariants.{Load}
use Rattle.cas_model.specs.declared.call.Reply.TheVariants.{Found, Missing}
use Rattle.cas_model.specs.declared.call.Who.{Who}
use Rattle.cas_model.specs.declared.digest.Digest.{Digest}
use Rattle.cas_model.specs.declared.object.Object.{Object}
use Rattle.cas_model.specs.State.{has}
use Rattle.cas_history.specs.Conduct.{missed, is_own}
use Rattle.cas_history.specs.History.{reply_where}
use Rattle.cas_port.specs.View.{View}
use Rattle.graph_db.specs.Events.{Ends, Last, Reads, Stops, seen_state}
use Rattle.cas_model.specs.Notes.{own_note}

-- the call is decided by Found of the primary's object
pub record HasFound (who : Who) (digest : Digest) (old new : View) (o : Object) : Type 0 where
  pub there : fin.get (seen_state new).objects digest ≡ Some o
  pub reads : Reads who old new
  pub ends : Ends who (Load digest) (Some (Found o)) old new 0
  pub last : Last (own_note who) (Load digest) (Some (Found o)) new

-- the primary lacks the digest, and the newest event missed it. It decides the call where the upstream lacks the digest too, and else nothing
pub record IsMissing (who : Who) (digest : Digest) (old new : View) : Type 0 where
  pub lacks : has (seen_state new) digest ≡ false
  pub reads : Reads who old new
  pub ends : Ends who (Load digest) (reply_where (not (has old.upstream digest)) Missing) old new 0
  pub last : Last (own_note who) (Load digest) (reply_where (not (has old.upstream digest)) Missing) new
  pub missed : missed new.start who is_own new.seen ≡ true

abbrev pub HasLoaded : Who → Digest → View → View → Option Object → Type 0
HasLoaded who digest old new None = IsMissing who digest old new
HasLoaded who digest old new (Some o) = HasFound who digest old new o

-- the port wanted memory, and the call is not decided; or the call's own lists did, after it was decided
abbrev pub LoadStops : Who → Digest → View → View → Type 0
LoadStops who digest old new = Stops who (Load digest) old new 0 ⊎ ((o : Object) × HasFound who digest old new o)
