-- What a call adds to what its port has seen, and what it decides.
-- Events are listed with the newest first.
use Rattle.std.specs.Prelude.{◌≡◌, ℕ, suc, ◌+◌, ◌≤◌, List, [], ◌∷◌, ◌++◌, Bool, true, false, cond, ◌&&◌, ◌⊎◌, IsTrue, Some, None}
use Rattle.std.specs.declared.option.Option.{Option}
use Rattle.cas_model.specs.declared.call.Call.{Call}
use Rattle.cas_model.specs.declared.call.Reply.{Reply}
use Rattle.cas_model.specs.declared.call.Who.{Who}
use Rattle.cas_model.specs.declared.digest.Digest.{Digest}
use Rattle.cas_model.specs.declared.note.Note.{Note}
use Rattle.cas_model.specs.State.{State, has}
use Rattle.cas_model.specs.Step.{Entry}
use Rattle.cas_model.specs.Tables.{Tables}
use Rattle.cas_history.specs.declared.event.Act.{Act}
use Rattle.cas_history.specs.declared.event.Act.TheVariants.{Look, Bind, Read, Claim, Room, Fill}
use Rattle.cas_history.specs.declared.event.Event.{Event}
use Rattle.cas_history.specs.Conduct.{CallOpen, HasConduct, same_who}
use Rattle.cas_history.specs.Cost.{asked}
use Rattle.cas_history.specs.History.{history, decided, count_of}
use Rattle.cas_history.specs.Run.{tables as tables_after, primary_of}
use Rattle.cas_port.specs.declared.block.OpenBlock.{OpenBlock}
use Rattle.cas_port.specs.Calls.{event_of}
use Rattle.cas_port.specs.View.{View}

-- the port speaks for the call's session
abbrev pub SpeaksFor : View → Who → Type 0
SpeaksFor v who = v.speaks who.session ≡ true

-- the state that the filled records name, in what the port has seen
abbrev pub seen_state : View → State
seen_state v = primary_of v.start v.seen

-- where the port's upstream has the digest, the primary has it too
abbrev pub IsBrought : View → Digest → Type 0
IsBrought v d = has v.upstream d ≡ true → has (seen_state v) d ≡ true

-- ---- which events a call adds

-- each event is the call's, or of a session that the port does not speak for
abbrev pub AreOf : (ℕ → Bool) → Who → List Event → Type 0
AreOf speaks who [] = Unit {0}
AreOf speaks who (e ∷ es) = ((speaks e.note.who.session ≡ false) ⊎ (e.note.who ≡ who)) × AreOf speaks who es

-- only what was seen grows, by such events
pub record Goes (who : Who) (old new : View) : Type 0 where
  pub more : List Event
  pub is : new ≡ record old { seen = more ++ old.seen }
  pub own : AreOf old.speaks who more

-- a look or a read
abbrev pub is_reading : Act → Bool
is_reading (Look space digest) = true
is_reading (Read cell) = true
is_reading (Bind space digest own) = false
is_reading (Claim n) = false
is_reading (Room n moved) = false
is_reading (Fill cell value words) = false

-- each event is a look or a read of the call, or of a session that the port does not speak for
abbrev pub AreReadings : (ℕ → Bool) → Who → List Event → Type 0
AreReadings speaks who [] = Unit {0}
AreReadings speaks who (e ∷ es) = ((speaks e.note.who.session ≡ false) ⊎ ((e.note.who ≡ who) × (is_reading e.act ≡ true))) × AreReadings speaks who es

-- only what was seen grows, by such events
pub record Reads (who : Who) (old new : View) : Type 0 where
  pub more : List Event
  pub is : new ≡ record old { seen = more ++ old.seen }
  pub own : AreReadings old.speaks who more

-- ---- what a call binds

-- a bind
abbrev pub is_bind : Act → Bool
is_bind (Bind space digest own) = true
is_bind (Look space digest) = false
is_bind (Read cell) = false
is_bind (Claim n) = false
is_bind (Room n moved) = false
is_bind (Fill cell value words) = false

-- how often the call bound a digest
abbrev pub binds : Who → List Event → ℕ
binds who [] = 0
binds who (e ∷ earlier) = cond (same_who e.note.who who && is_bind e.act) 1 0 + binds who earlier

-- ---- what a call decides

-- the newest event is noted so, and decides this of the call: a reply or nothing
pub record Last (note : Note) (call : Call) (reply : Option Reply) (v : View) : Type 0 where
  pub act : Act
  pub earlier : List Event
  pub is : v.seen ≡ event_of note act ∷ earlier
  pub decides : decided v.upstream (tables_after v.start earlier) call note.stage act ≡ reply

-- the session's events have conduct, and this call is the newest that is decided, by this reply
pub record CallDecided (up : State) (start : Tables) (calls : Who → Option Call) (who : Who) (call : Call) (reply : Reply) (seen : List Event) : Type 0 where
  pub conduct : HasConduct up start calls who.session seen
  pub earlier : List Entry
  pub entries : history up start calls seen ≡ (record { who = who; call = call; reply = reply }) ∷ earlier
  pub next : suc who.index ≡ count_of who.session (history up start calls seen)

-- the call is decided by the reply, and without one it is still the session's next
abbrev pub Stands : State → Tables → (Who → Option Call) → Who → Call → Option Reply → List Event → Type 0
Stands up start calls who call None seen = CallOpen up start calls who seen
Stands up start calls who call (Some reply) seen = CallDecided up start calls who call reply seen

-- what the call added: events that keep conduct and decide this, with claims and refused claims that ask together for at most so many words
pub record Ends (who : Who) (call : Call) (reply : Option Reply) (old new : View) (most : ℕ) : Type 0 where
  pub goes : Goes who old new
  pub stands : (calls : Who → Option Call) → calls who ≡ Some call → CallOpen old.upstream old.start calls who old.seen
      → Stands new.upstream new.start calls who call reply new.seen
  pub cost : asked who new.seen ≤ asked who old.seen + most

-- the port wanted memory, and the call is not decided. Blocks that it claimed may have stayed open
pub record Stops (who : Who) (call : Call) (old new : View) (most : ℕ) : Type 0 where
  pub takes : IsTrue old.takes_memory
  pub left : List OpenBlock
  pub opened : new.opened ≡ left ++ old.opened
  pub ends : Ends who call None old (record new { opened = old.opened }) most
