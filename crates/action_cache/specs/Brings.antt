-- What bringing in a key leaves in its port.
use Rattle.std.specs.Prelude.{◌≡◌, ℕ, ◌+◌, ◌≤◌, List, [], ◌∷◌, ◌++◌, Bool, false, ◌⊎◌, IsTrue, Some}
use Rattle.std.specs.declared.option.Option.{Option}
use Rattle.std.specs.FinMap as fin
use Rattle.cas_model.specs.declared.call.Call.{Call}
use Rattle.cas_model.specs.declared.call.Reply.TheVariants as reply
use Rattle.cas_model.specs.declared.call.Who.{Who}
use Rattle.cas_model.specs.declared.digest.Digest.{Digest}
use Rattle.cas_model.specs.declared.place.Space.{Space}
use Rattle.cas_history.specs.declared.event.Act.TheVariants.{Look}
use Rattle.cas_history.specs.declared.event.Event.{Event}
use Rattle.cas_history.specs.Conduct.{CallOpen}
use Rattle.cas_history.specs.Cost.{asked}
use Rattle.cas_port.specs.declared.block.PortError.{PortError}
use Rattle.cas_port.specs.declared.block.PortError.TheVariants as port
use Rattle.cas_port.specs.Calls.{event_of}
use Rattle.cas_port.specs.View.{View}
use Rattle.graph_db.specs.Events.{Last, Stands, seen_state}
use Rattle.action_cache.specs.Keys.{MaySeekKey, kept_reply, AreOfKey}
use Rattle.cas_model.specs.Notes.{key_note, deep_note}

-- each event is a look of the call for an object that is brought in, or of a session that the port does not speak for
abbrev pub AreDeepLooks : (ℕ → Bool) → Who → List Event → Type 0
AreDeepLooks speaks who [] = Unit {0}
AreDeepLooks speaks who (e ∷ es) = ((speaks e.note.who.session ≡ false) ⊎ ((space : Space) × (d : Digest) × (e ≡ event_of (deep_note who) (Look space d)))) × AreDeepLooks speaks who es

-- only what was seen grows: by such looks, and then by events of the key
pub record LooksThenKeeps (who : Who) (old new : View) : Type 0 where
  pub looks : List Event
  pub keeps : List Event
  pub is : new ≡ record old { seen = keeps ++ (looks ++ old.seen) }
  pub deep : AreDeepLooks old.speaks who looks
  pub key : AreOfKey old.speaks who keeps

-- the primary has this value for the key, and the newest event decides so: each call that may seek the key
pub record HasBrought (who : Who) (key : Digest) (old new : View) (kept : Digest) : Type 0 where
  pub there : fin.get (seen_state new).cache key ≡ Some kept
  pub goes : LooksThenKeeps who old new
  pub cost : asked who new.seen ≤ asked who old.seen + 997
  pub last : (call : Call) → Last (key_note who) call (kept_reply call kept) new
  pub stands : (calls : Who → Option Call) (call : Call) → calls who ≡ Some call → MaySeekKey old who call key → CallOpen old.upstream old.start calls who old.seen
      → Stands new.upstream new.start calls who call (kept_reply call kept) new.seen

-- the newest event is a refused claim with these numbers, and decides each call that may seek the key
pub record HasNoRoom (who : Who) (key : Digest) (old new : View) (at words size : ℕ) : Type 0 where
  pub goes : LooksThenKeeps who old new
  pub cost : asked who new.seen ≤ asked who old.seen + 997
  pub last : (call : Call) → Last (key_note who) call (Some (reply.Full at words size)) new
  pub stands : (calls : Who → Option Call) (call : Call) → calls who ≡ Some call → MaySeekKey old who call key → CallOpen old.upstream old.start calls who old.seen
      → Stands new.upstream new.start calls who call (Some (reply.Full at words size)) new.seen

-- the port wanted memory, and nothing is decided
pub record HasNoMemory (who : Who) (key : Digest) (old new : View) : Type 0 where
  pub takes : IsTrue old.takes_memory
  pub goes : LooksThenKeeps who old new
  pub cost : asked who new.seen ≤ asked who old.seen + 997
  pub stands : (calls : Who → Option Call) (call : Call) → calls who ≡ Some call → MaySeekKey old who call key → CallOpen old.upstream old.start calls who old.seen
      → CallOpen new.upstream new.start calls who new.seen

abbrev pub BringStops : Who → Digest → View → View → PortError → Type 0
BringStops who key old new (port.Full full) = HasNoRoom who key old new full.at full.asked full.size
BringStops who key old new port.Memory = HasNoMemory who key old new
