-- What a get leaves in its port.
use Rattle.std.specs.Prelude.{◌≡◌, true, is_none, IsTrue, Some, None}
use Rattle.std.specs.declared.option.Option.{Option}
use Rattle.std.specs.FinMap as fin
use Rattle.cas_model.specs.declared.call.Call.TheVariants.{Get}
use Rattle.cas_model.specs.declared.call.Reply.TheVariants.{Hit, Miss}
use Rattle.cas_model.specs.declared.call.Who.{Who}
use Rattle.cas_model.specs.declared.digest.Digest.{Digest}
use Rattle.cas_history.specs.Conduct.{missed, is_key}
use Rattle.cas_history.specs.History.{reply_where}
use Rattle.cas_port.specs.View.{View}
use Rattle.graph_db.specs.Events.{Ends, Last, Reads, seen_state}
use Rattle.cas_model.specs.Notes.{key_note}

-- the call is decided by Hit of the primary's value
pub record HasHit (who : Who) (key : Digest) (old new : View) (value : Digest) : Type 0 where
  pub there : fin.get (seen_state new).cache key ≡ Some value
  pub reads : Reads who old new
  pub ends : Ends who (Get key) (Some (Hit value)) old new 0
  pub last : Last (key_note who) (Get key) (Some (Hit value)) new

-- the primary lacks the key, and the newest event missed it. It decides the call where the upstream lacks the key too, and else nothing
pub record HasMissed (who : Who) (key : Digest) (old new : View) : Type 0 where
  pub lacks : fin.get (seen_state new).cache key ≡ None
  pub reads : Reads who old new
  pub ends : Ends who (Get key) (reply_where (is_none (fin.get old.upstream.cache key)) Miss) old new 0
  pub last : Last (key_note who) (Get key) (reply_where (is_none (fin.get old.upstream.cache key)) Miss) new
  pub missed : missed new.start who is_key new.seen ≡ true

abbrev pub HasGot : Who → Digest → View → View → Option Digest → Type 0
HasGot who key old new None = HasMissed who key old new
HasGot who key old new (Some value) = HasHit who key old new value

-- the port wanted memory, and the call is not decided
pub record GetStops (who : Who) (key : Digest) (old new : View) : Type 0 where
  pub takes : IsTrue old.takes_memory
  pub reads : Reads who old new
  pub ends : Ends who (Get key) None old new 0
