-- What looking for an object leaves.
use Rattle.std.specs.Prelude.{◌≡◌, ◌≤◌, List, ◌∷◌, Bool, not, ◌==◌, IsTrue, Some}
use Rattle.std.specs.declared.option.Option.{Option}
use Rattle.cas_model.specs.declared.call.Call.{Call}
use Rattle.cas_model.specs.declared.digest.Digest.{Digest}
use Rattle.cas_model.specs.declared.note.Note.{Note}
use Rattle.cas_model.specs.declared.place.Space.TheVariants.{Objects}
use Rattle.cas_model.specs.declared.call.Who.{Who}
use Rattle.cas_model.specs.State.{has}
use Rattle.cas_history.specs.declared.event.Act.{Act}
use Rattle.cas_history.specs.declared.event.Act.TheVariants.{Look}
use Rattle.cas_history.specs.declared.event.Event.{Event}
use Rattle.cas_history.specs.Conduct.{CallOpen, IsAbout, MayAct}
use Rattle.cas_history.specs.Cost.{asked}
use Rattle.cas_history.specs.History.{decided, decided_at, is_miss, read_by}
use Rattle.cas_history.specs.Run.{tables as tables_after}
use Rattle.cas_port.specs.Calls.{event_of}
use Rattle.cas_port.specs.View.{View}
use Rattle.graph_db.specs.Events.{Reads, Stands, seen_state}

-- the call may look for the object in what the port has seen: its conduct allows that look at the note's stage, and then a read of the record
abbrev pub MaySeek : View → Note → Call → Digest → Type 0
MaySeek v note call digest = MayAct v.upstream v.start v.seen note.who call note.stage (Look Objects digest)

-- the newest event is a look or a read of the digest, and the answer is what it found: whether the primary has the digest
pub record HasSought (note : Note) (digest : Digest) (old new : View) (found : Bool) : Type 0 where
  pub there : found ≡ has (seen_state new) digest
  pub reads : Reads note.who old new
  pub cost : asked note.who new.seen ≤ asked note.who old.seen
  pub act : Act
  pub earlier : List Event
  pub is : new.seen ≡ event_of note act ∷ earlier
  pub about : IsAbout (tables_after new.start earlier) Objects digest act
  pub missed : is_miss (tables_after new.start earlier) act ≡ not found
  pub unread : (read_by (tables_after new.start earlier) act == 0) ≡ not found
  pub same : tables_after new.start (event_of note act ∷ earlier) ≡ tables_after new.start earlier
  -- of each call it decides what a look or a read of its stage decides
  pub decides : (call : Call) → decided new.upstream (tables_after new.start earlier) call note.stage act ≡ decided_at new.upstream (tables_after new.start earlier) call note.stage act
  pub stands : (calls : Who → Option Call) (call : Call) → calls note.who ≡ Some call → MaySeek old note call digest → CallOpen old.upstream old.start calls note.who old.seen
      → Stands new.upstream new.start calls note.who call (decided new.upstream (tables_after new.start earlier) call note.stage act) new.seen

-- the port wanted memory, and nothing is decided
pub record SeekStops (note : Note) (digest : Digest) (old new : View) : Type 0 where
  pub takes : IsTrue old.takes_memory
  pub reads : Reads note.who old new
  pub cost : asked note.who new.seen ≤ asked note.who old.seen
  pub stands : (calls : Who → Option Call) (call : Call) → calls note.who ≡ Some call → MaySeek old note call digest → CallOpen old.upstream old.start calls note.who old.seen
      → CallOpen new.upstream new.start calls note.who new.seen
