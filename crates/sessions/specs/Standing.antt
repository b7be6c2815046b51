-- Where a session stands while it runs: what it has added so far, whatever calls come after.
use Rattle.std.specs.Prelude.{◌≡◌, ℕ, ◌≤◌, ◌+◌, ◌⊎◌, List, [], ◌∷◌, ◌++◌, length, slice_get, Some, None, true, option_copied}
use Rattle.std.specs.declared.option.Option.{Option}
use Rattle.cas_model.specs.declared.call.Call.{Call}
use Rattle.cas_model.specs.declared.call.Reply.{Reply}
use Rattle.cas_model.specs.declared.call.Reply.TheVariants as reply
use Rattle.cas_model.specs.declared.call.Who.{Who}
use Rattle.cas_model.specs.declared.digest.Digest.{Digest}
use Rattle.cas_model.specs.declared.object.Object.{Object}
use Rattle.cas_model.specs.Primary.{primary}
use Rattle.cas_model.specs.Step.{Entry}
use Rattle.cas_history.specs.Conduct.{HasConduct}
use Rattle.cas_history.specs.Cost.{asked, IsWithinCost}
use Rattle.cas_history.specs.Script.{At, Before, Missed, Line, Follows, at_after, call_at}
use Rattle.cas_port.specs.View.{View}
use Rattle.unified_cas.specs.declared.unified.Unified.{Unified}
use Rattle.unified_cas.specs.Answers.{Answers, Stops}
use Rattle.unified_cas.specs.Reading.{NeedsNoChange}
use Rattle.unified_cas.specs.Upstream.{upstream_state}
use Rattle.graph_db.specs.Events.{Reads}
use Rattle.sessions.specs.declared.said.Said.{Said}
use Rattle.sessions.specs.declared.said.Said.TheVariants as said
use Rattle.sessions.specs.Reading.{NeedNoChange, OnlyReads}
use Rattle.sessions.specs.Turns.{call_number, entries_in, replies_of, AddsOfThese, LeavesOfThese}

-- ---- the calls of a session

-- the calls of these entries, the oldest first
abbrev pub calls_of : List Entry → List Call
calls_of [] = []
calls_of (entry ∷ earlier) = calls_of earlier ++ entry.call ∷ []

-- the calls, and one that is not decided
abbrev pub with_open : List Call → Option Call → List Call
with_open made None = made
with_open made (Some call) = made ++ call ∷ []

-- a session's decided calls, the newest first, and the one that is not decided, if there is one
pub record Part : Type 0 where
  pub entries : List Entry
  pub pending : Option Call

abbrev pub made_in : Part → List Call
made_in part = with_open (calls_of part.entries) part.pending

-- all calls of these entries are decided
abbrev pub decided_part : List Entry → Part
decided_part entries = record { entries = entries; pending = None }

-- the map has each of these calls at its place in the session
pub record Knows (calls : Who → Option Call) (session : ℕ) (made : List Call) : Type 0 where
  pub is : (i : ℕ) (call : Call) → slice_get made i ≡ Some call → calls (call_number session i) ≡ Some call

-- the call, if there is one, is the one that comes next
abbrev pub IsNext : At → Option Call → Type 0
IsNext at None = Unit {0}
IsNext at (Some call) = call_at at ≡ Some call

-- ---- where a session stands

-- The session has made these calls after these lines: for each map that knows them, its events have conduct and its entries are these.
-- Their claims ask for at most their costs, and no later call has asked for anything.
pub record Stands (v : View) (session : ℕ) (lines : List Line) (part : Part) : Type 0 where
  pub conduct : (calls : Who → Option Call) → Knows calls session (made_in part) → HasConduct v.upstream v.start calls session v.seen
  pub are : (calls : Who → Option Call) → Knows calls session (made_in part) → entries_in v calls session ≡ part.entries
  pub costs : (i : ℕ) (call : Call) → slice_get (made_in part) i ≡ Some call → IsWithinCost v.upstream call (asked (call_number session i) v.seen)
  pub unasked : (i : ℕ) → length (made_in part) ≤ i → asked (call_number session i) v.seen ≡ 0
  pub follows : Follows lines part.entries
  pub next : IsNext (at_after lines part.entries) part.pending

-- the session stands at this place of its lines, with these replies, and each of its calls is decided. Where they needed no change over the start, it has
-- only looked and read
pub record StandsAt (v : View) (session : ℕ) (lines : List Line) (at : At) (replies : List Reply) : Type 0 where
  pub entries : List Entry
  pub stands : Stands v session lines (decided_part entries)
  pub place : at_after lines entries ≡ at
  pub replied : replies ≡ replies_of entries
  pub quiet : NeedNoChange (primary v.start) entries → OnlyReads session v.seen

-- the session stands somewhere
pub record StandsStill (v : View) (session : ℕ) (lines : List Line) : Type 0 where
  pub part : Part
  pub stands : Stands v session lines part

-- ---- one call

-- the store is asked through a port over its upstream that speaks for the session
pub record IsReady (unified : Unified) (v : View) (session : ℕ) : Type 0 where
  pub upstream : v.upstream ≡ upstream_state (option_copied unified.up)
  pub speaks : v.speaks session ≡ true

-- what a reply says to an action
abbrev pub said_by : Reply → Said
said_by (reply.Stored digest) = said.Stored digest
said_by reply.Miss = said.Missed
said_by (reply.Found o) = said.Else
said_by reply.Missing = said.Else
said_by (reply.Kept digest) = said.Else
said_by (reply.Hit digest) = said.Else
said_by (reply.Dangling i digest) = said.Else
said_by (reply.Full at asked limit) = said.Else

-- the reply was added to those before it, and says this
pub record HasKept (reply : Reply) (before : List Reply) (said : Said) (after : List Reply) : Type 0 where
  pub says : said ≡ said_by reply
  pub added : after ≡ before ++ reply ∷ []

-- the session's next call was answered, and the reply was added to those before it. Where it needed no change over the start, it has only looked and read
pub record HasMade (session : ℕ) (call : Call) (before : List Reply) (old : View) (said : Said) (after : List Reply) (new : View) : Type 0 where
  pub reply : Reply
  pub kept : HasKept reply before said after
  pub answers : Answers (call_number session (length before)) call reply old new
  pub quiet : NeedsNoChange (primary old.start) call reply → Reads (call_number session (length before)) old new

-- the session's next call was not answered, or there was no memory for its reply
abbrev pub IsCutOff : ℕ → Call → List Reply → View → View → Type 0
IsCutOff session call before old new =
    Stops (call_number session (length before)) call old new
    ⊎ ((reply : Reply) × Answers (call_number session (length before)) call reply old new)

-- ---- the calls of a line, from a place in it to its end

-- the calls were made and answered, at most so many: wherever a session stands there, it then stands after the line
pub record HasRunFrom (session : ℕ) (from : List Line → At) (most : ℕ) (before : List Reply) (old : View) (after : List Reply) (new : View) : Type 0 where
  pub adds : AddsOfThese (λ n. n ≡ session) old new
  pub few : length after ≤ length before + most
  pub turns : (lines rest : List Line) → StandsAt old session lines (from rest) before → StandsAt new session lines (Before rest) after

-- a call was cut off: wherever a session stands there, it then stands somewhere
pub record HasStoppedFrom (session : ℕ) (from : List Line → At) (before : List Reply) (old new : View) : Type 0 where
  pub adds : LeavesOfThese (λ n. n ≡ session) old new
  pub turns : (lines rest : List Line) → StandsAt old session lines (from rest) before → StandsStill new session lines

-- the places of a line: before it, and in an action after a miss
abbrev pub before_line : Line → List Line → At
before_line line rest = Before (line ∷ rest)

abbrev pub after_miss : Digest → Object → List Line → At
after_miss key o rest = Missed key o rest

-- ---- one session

-- the session ran to its end
pub record HasRunSession (session : ℕ) (lines : List Line) (replies : List Reply) (old new : View) : Type 0 where
  pub adds : AddsOfThese (λ n. n ≡ session) old new
  pub stands : StandsAt new session lines (Before []) replies

-- the session was cut off
pub record HasStoppedSession (session : ℕ) (lines : List Line) (old new : View) : Type 0 where
  pub adds : LeavesOfThese (λ n. n ≡ session) old new
  pub stands : StandsStill new session lines
