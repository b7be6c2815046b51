-- The history of a run: which event decides a call's reply, and the list of the decided calls.
use Rattle.std.specs.Prelude.{◌≡◌, ℕ, zero, suc, List, [], ◌∷◌, Bool, true, false, cond, not, ◌==◌, ◌&&◌, Some, None, is_none, slice_get}
use Rattle.std.specs.declared.option.Option.{Option}
use Rattle.std.specs.Option.{option_map}
use Rattle.std.specs.FinMap as fin
use Rattle.cas_model.specs.declared.call.Call.{Call}
use Rattle.cas_model.specs.declared.call.Call.TheVariants.{Store, Load, Put, Get}
use Rattle.cas_model.specs.declared.call.Reply.{Reply}
use Rattle.cas_model.specs.declared.call.Reply.TheVariants.{Stored, Found, Missing, Kept, Hit, Miss, Dangling, Full}
use Rattle.cas_model.specs.declared.call.Who.{Who}
use Rattle.cas_model.specs.declared.digest.Digest.{Digest}
use Rattle.cas_model.specs.declared.note.Stage.{Stage}
use Rattle.cas_model.specs.declared.note.Stage.TheVariants.{Ref, Own, Key}
use Rattle.cas_model.specs.Object.{object_digest}
use Rattle.cas_model.specs.Primary.{object_in}
use Rattle.cas_model.specs.State.{State, has}
use Rattle.cas_model.specs.Step.{Entry}
use Rattle.cas_model.specs.Tables.{Tables, digest_at}
use Rattle.cas_history.specs.declared.event.Act.{Act}
use Rattle.cas_history.specs.declared.event.Act.TheVariants.{Look, Bind, Read, Claim, Room, Fill}
use Rattle.cas_history.specs.declared.event.Answer.{Answer}
use Rattle.cas_history.specs.declared.event.Answer.TheVariants.{Looked, Bound, Value, Given, Refused, Won, Lost}
use Rattle.cas_history.specs.declared.event.Event.{Event}
use Rattle.cas_history.specs.Answers.{answer}
use Rattle.cas_history.specs.Run.{tables}

-- ---- what an answer shows

-- a look found no record, or a read an empty cell
abbrev pub shows_miss : Answer → Bool
shows_miss (Looked found) = is_none found
shows_miss (Value value) = value == 0
shows_miss (Bound place) = false
shows_miss (Given place) = false
shows_miss (Refused at) = false
shows_miss (Won value) = false
shows_miss (Lost value) = false

-- the value that a read found, 0 for every other answer
abbrev pub value_read : Answer → ℕ
value_read (Value value) = value
value_read (Looked found) = 0
value_read (Bound place) = 0
value_read (Given place) = 0
value_read (Refused at) = 0
value_read (Won value) = 0
value_read (Lost value) = 0

-- the value that the cell has after a read or a fill of it, 0 for every other answer
abbrev pub value_left : Answer → ℕ
value_left (Value value) = value
value_left (Won value) = value
value_left (Lost value) = value
value_left (Looked found) = 0
value_left (Bound place) = 0
value_left (Given place) = 0
value_left (Refused at) = 0

abbrev pub is_miss : Tables → Act → Bool
is_miss s act = shows_miss (answer s act)

abbrev pub read_by : Tables → Act → ℕ
read_by s act = value_read (answer s act)

abbrev pub left_by : Tables → Act → ℕ
left_by s act = value_left (answer s act)

-- ---- what an event decides

-- a reply that holds where the test does
abbrev pub reply_where : Bool → Reply → Option Reply
reply_where true reply = Some reply
reply_where false reply = None

-- a reply about a number that is not 0
abbrev pub reply_with : ℕ → (ℕ → Option Reply) → Option Reply
reply_with zero reply = None
reply_with (suc n) reply = reply (suc n)

-- the digest is absent: the act missed it in the primary, and the upstream lacks it
abbrev pub is_absent : State → Tables → Act → Digest → Bool
is_absent up s act d = is_miss s act && not (has up d)

-- an event that looks for the reference at this index finds that it is absent
abbrev pub dangling : State → Tables → ℕ → Option Digest → Act → Option Reply
dangling up s i None act = None
dangling up s i (Some d) act = reply_where (is_absent up s act d) (Dangling i d)

-- a load's own event finds the object in the cell's content, or that it is absent
abbrev pub loaded : State → Tables → Digest → Act → ℕ → Option Reply
loaded up s d act zero = reply_where (is_absent up s act d) Missing
loaded up s d act (suc cell) = option_map (λ o. Found o) (object_in s (suc cell))

-- a put's event of its key finds or fills the cell
abbrev pub kept : Tables → ℕ → Option Reply
kept s cell = reply_with cell (λ n. Some (Kept (digest_at s.bound n)))

-- a get's event of its key finds or fills the cell, or finds that the key is absent
abbrev pub got : State → Tables → Digest → Act → ℕ → Option Reply
got up s k act zero = reply_where (is_miss s act && is_none (fin.get up.cache k)) Miss
got up s k act (suc cell) = Some (Hit (digest_at s.bound (suc cell)))

-- what an event that is no refused claim decides, by call and stage, from the tables before it. A put's value is its one reference
abbrev pub decided_at : State → Tables → Call → Stage → Act → Option Reply
decided_at up s (Store o) (Ref i) act = dangling up s i (slice_get o.refs i) act
decided_at up s (Store o) Own act = reply_with (left_by s act) (λ _. Some (Stored (object_digest o)))
decided_at up s (Load d) Own act = loaded up s d act (read_by s act)
decided_at up s (Put k v) (Ref i) act = dangling up s i (slice_get (v ∷ []) i) act
decided_at up s (Put k v) Key act = kept s (left_by s act)
decided_at up s (Get k) Key act = got up s k act (left_by s act)
decided_at up s call stage act = None

-- what an event decides: a refused claim decides every call, a bind and a claim decide nothing
abbrev pub decided : State → Tables → Call → Stage → Act → Option Reply
decided up s call stage (Room n moved) = Some (Full s.counter n s.size)
decided up s call stage (Look space digest) = decided_at up s call stage (Look space digest)
decided up s call stage (Read cell) = decided_at up s call stage (Read cell)
decided up s call stage (Fill cell value words) = decided_at up s call stage (Fill cell value words)
decided up s call stage (Bind space digest own) = None
decided up s call stage (Claim n) = None

-- ---- the history

abbrev pub with_entry : Who → Call → Option Reply → List Entry → List Entry
with_entry who call (Some reply) earlier = (record { who = who; call = call; reply = reply }) ∷ earlier
with_entry who call None earlier = earlier

-- the entries with what one more event decides, where its call is known
abbrev pub with_event : State → Tables → Option Call → Event → List Entry → List Entry
with_event up s None event earlier = earlier
with_event up s (Some call) event earlier = with_entry event.note.who call (decided up s call event.note.stage event.act) earlier

-- the decided calls, the newest first
abbrev pub history : State → Tables → (Who → Option Call) → List Event → List Entry
history up start calls [] = []
history up start calls (event ∷ earlier) = with_event up (tables start earlier) (calls event.note.who) event (history up start calls earlier)

-- ---- what belongs to one session

-- how many calls of a session are decided
abbrev pub count_of : ℕ → List Entry → ℕ
count_of session [] = 0
count_of session (entry ∷ earlier) = cond (entry.who.session == session) (suc (count_of session earlier)) (count_of session earlier)

-- the entries of a session, in their order
abbrev pub of_session : ℕ → List Entry → List Entry
of_session session [] = []
of_session session (entry ∷ earlier) = cond (entry.who.session == session) (entry ∷ of_session session earlier) (of_session session earlier)

-- the events of a session, in their order
abbrev pub events_of : ℕ → List Event → List Event
events_of session [] = []
events_of session (event ∷ earlier) = cond (event.note.who.session == session) (event ∷ events_of session earlier) (events_of session earlier)

-- the indexes are 0, 1, 2 and so on, the oldest first
abbrev pub CountUp : List Entry → ℕ → Type 0
CountUp [] n = n ≡ 0
CountUp (entry ∷ earlier) n = (n ≡ suc entry.who.index) × CountUp earlier entry.who.index
