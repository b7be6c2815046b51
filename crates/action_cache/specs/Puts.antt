-- What a put leaves in its port.
use Rattle.std.specs.Prelude.{◌≡◌, ℕ, ◌<◌, true, false, not, IsTrue, Some, None}
use Rattle.std.specs.FinMap as fin
use Rattle.cas_model.specs.declared.call.Call.TheVariants.{Put}
use Rattle.cas_model.specs.declared.call.Reply.TheVariants as reply
use Rattle.cas_model.specs.declared.call.Who.{Who}
use Rattle.cas_model.specs.declared.digest.Digest.{Digest}
use Rattle.cas_model.specs.declared.place.Place.{Place}
use Rattle.cas_model.specs.declared.place.Space.TheVariants.{Objects}
use Rattle.cas_model.specs.State.{has}
use Rattle.cas_model.specs.Tables.{place_of, cell_of}
use Rattle.cas_history.specs.Conduct.{missed, is_ref}
use Rattle.cas_history.specs.History.{reply_where}
use Rattle.cas_port.specs.View.{View, tables}
use Rattle.graph_db.specs.declared.error.StoreError.{StoreError}
use Rattle.graph_db.specs.declared.error.StoreError.TheVariants.{Dangling, Full, Memory}
use Rattle.graph_db.specs.Events.{Ends, Last, Reads, seen_state}
use Rattle.graph_db.specs.Holds.{HasSought, SeekStops}
use Rattle.cas_model.specs.Notes.{ref_note, key_note}
use Rattle.action_cache.specs.Keys.{HasKey}

-- the call is decided by the value that the key has in the primary. Where it had one before, the call has only looked and read
pub record HasKept (who : Who) (key value : Digest) (old new : View) (kept : Digest) : Type 0 where
  pub there : fin.get (seen_state new).cache key ≡ Some kept
  pub reads : HasKey old key → Reads who old new
  pub ends : Ends who (Put key value) (Some (reply.Kept kept)) old new 997
  pub last : Last (key_note who) (Put key value) (Some (reply.Kept kept)) new

-- the primary lacks the value's object, and the newest event missed it. It decides the call where the upstream lacks the object too, and else
-- nothing. The call has only looked and read
pub record LacksValue (who : Who) (key value : Digest) (old new : View) (i : ℕ) (digest : Digest) : Type 0 where
  pub first : i ≡ 0
  pub is : digest ≡ value
  pub lacks : has (seen_state new) value ≡ false
  pub reads : Reads who old new
  pub ends : Ends who (Put key value) (reply_where (not (has old.upstream value)) (reply.Dangling 0 value)) old new 0
  pub last : Last (ref_note who 0) (Put key value) (reply_where (not (has old.upstream value)) (reply.Dangling 0 value)) new
  pub missed : missed new.start who (is_ref 0) new.seen ≡ true

-- the newest event is a refused claim with these numbers, and decides the call
pub record HasNoRoom (who : Who) (key value : Digest) (old new : View) (at words size : ℕ) : Type 0 where
  pub ends : Ends who (Put key value) (Some (reply.Full at words size)) old new 997
  pub last : Last (key_note who) (Put key value) (Some (reply.Full at words size)) new

-- the port wanted memory, and the call is not decided
pub record PutStops (who : Who) (key value : Digest) (old new : View) : Type 0 where
  pub takes : IsTrue old.takes_memory
  pub ends : Ends who (Put key value) None old new 997

-- why a put was refused
abbrev pub IsRefused : Who → Digest → Digest → View → View → StoreError → Type 0
IsRefused who key value old new (Dangling i digest) = LacksValue who key value old new i digest
IsRefused who key value old new (Full full) = HasNoRoom who key value old new full.at full.asked full.size
IsRefused who key value old new Memory = PutStops who key value old new

-- ---- its value

-- the value's record is at this place, and its cell is filled
pub record HasValue (who : Who) (value : Digest) (old new : View) (place : Place) : Type 0 where
  pub sought : HasSought (ref_note who 0) value old new true
  pub at : place_of (tables new).bound Objects value ≡ Some place
  pub some : 0 < cell_of (tables new).filled place.at

abbrev pub ValueStops : Who → Digest → View → View → StoreError → Type 0
ValueStops who value old new (Dangling i digest) = (i ≡ 0) × (digest ≡ value) × HasSought (ref_note who 0) value old new false
ValueStops who value old new (Full full) = ⊥
ValueStops who value old new Memory = SeekStops (ref_note who 0) value old new
