-- What sessions that run in turn add to what their port has seen, and their replies.
use Rattle.std.specs.Prelude.{◌≡◌, ℕ, ◌<◌, ◌≤◌, ◌⊎◌, List, [], ◌∷◌, ◌++◌, Bool, true, false, length, slice_get, Some, None}
use Rattle.std.specs.declared.option.Option.{Option}
use Rattle.cas_model.specs.declared.call.Call.{Call}
use Rattle.cas_model.specs.declared.call.Reply.{Reply}
use Rattle.cas_model.specs.declared.call.Who.{Who}
use Rattle.cas_model.specs.Primary.{primary}
use Rattle.cas_model.specs.Step.{Entry}
use Rattle.cas_history.specs.declared.event.Event.{Event}
use Rattle.cas_history.specs.Conduct.{HasConduct}
use Rattle.cas_history.specs.Cost.{asked, IsWithinCost}
use Rattle.cas_history.specs.History.{history, of_session, CountUp}
use Rattle.cas_history.specs.Laws.{AreOfOtherSessions}
use Rattle.cas_history.specs.Script as script
use Rattle.cas_port.specs.declared.block.OpenBlock.{OpenBlock}
use Rattle.cas_port.specs.View.{View}
use Rattle.sessions.specs.declared.replies.SessionReplies.{SessionReplies}
use Rattle.cas_script.specs.declared.script.Line.{Line}
use Rattle.cas_script.specs.declared.script.Session.{Session}
use Rattle.cas_script.specs.Lines.{history_line}
use Rattle.sessions.specs.Reading.{NeedNoChange, OnlyReads}

-- ---- before the run

-- the lines as their calls are told over a history
abbrev pub history_lines : List Line → List script.Line
history_lines [] = []
history_lines (line ∷ lines) = history_line line ∷ history_lines lines

-- the port speaks for this session and has seen no event of it
pub record IsUnseen (v : View) (session : ℕ) : Type 0 where
  pub speaks : v.speaks session ≡ true
  pub unseen : AreOfOtherSessions session v.seen

-- so for each session below this number
pub record AreUnseen (v : View) (count : ℕ) : Type 0 where
  pub each : (n : ℕ) → n < count → IsUnseen v n

-- ---- which events are added

-- each event is of a session that the port does not speak for, or of one of these
abbrev pub AreOfThese : (ℕ → Bool) → (ℕ → Type 0) → List Event → Type 0
AreOfThese speaks These [] = Unit {0}
AreOfThese speaks These (e ∷ es) =
    ((speaks e.note.who.session ≡ false) ⊎ These e.note.who.session) × AreOfThese speaks These es

-- only what was seen grows, by such events
pub record AddsOfThese (These : ℕ → Type 0) (old new : View) : Type 0 where
  pub more : List Event
  pub is : new ≡ record old { seen = more ++ old.seen }
  pub own : AreOfThese old.speaks These more

-- the same, and blocks that were claimed may have stayed open
pub record LeavesOfThese (These : ℕ → Type 0) (old new : View) : Type 0 where
  pub adds : AddsOfThese These old (record new { opened = old.opened })
  pub left : List OpenBlock
  pub opened : new.opened ≡ left ++ old.opened

-- ---- one session

-- the call of a session with this index
abbrev pub call_number : ℕ → ℕ → Who
call_number session index = record { session = session; index = index }

-- the decided calls of a session, the newest first
abbrev pub entries_in : View → (Who → Option Call) → ℕ → List Entry
entries_in v calls session = of_session session (history v.upstream v.start calls v.seen)

-- the replies of these entries, the oldest first
abbrev pub replies_of : List Entry → List Reply
replies_of [] = []
replies_of (entry ∷ earlier) = replies_of earlier ++ entry.reply ∷ []

-- the session's events have conduct; its decided calls follow these lines, with the indexes 0, 1, 2 and so on; the claims of each call
-- ask for at most its cost; and a call that is not decided is the one that comes next
pub record FollowsLines (v : View) (calls : Who → Option Call) (session : ℕ) (lines : List script.Line) : Type 0 where
  pub conduct : HasConduct v.upstream v.start calls session v.seen
  pub follows : script.Follows lines (entries_in v calls session)
  pub indexes : CountUp (entries_in v calls session) (length (entries_in v calls session))
  pub costs : (i : ℕ) (call : Call) → calls (call_number session i) ≡ Some call
      → IsWithinCost v.upstream call (asked (call_number session i) v.seen)
  pub next : (i : ℕ) (call : Call) → calls (call_number session i) ≡ Some call → length (entries_in v calls session) ≤ i
      → (i ≡ length (entries_in v calls session)) × (script.call_at (script.at_after lines (entries_in v calls session)) ≡ Some call)

-- ---- all sessions

-- the map has calls of these sessions alone, and each session follows its lines
pub record FollowScript (sessions : List Session) (calls : Who → Option Call) (v : View) : Type 0 where
  pub known : (who : Who) → length sessions ≤ who.session → calls who ≡ None
  pub each : (n : ℕ) (session : Session) → slice_get sessions n ≡ Some session → FollowsLines v calls n (history_lines session.lines)

-- these are the replies of the session's calls, after which no call comes. Where they needed no change over the start, the session has only looked and
-- read
pub record IsAnswered (v : View) (calls : Who → Option Call) (session : ℕ) (lines : List script.Line) (replies : List Reply) : Type 0 where
  pub are : replies ≡ replies_of (entries_in v calls session)
  pub complete : script.IsComplete lines (entries_in v calls session)
  pub quiet : NeedNoChange (primary v.start) (entries_in v calls session) → OnlyReads session v.seen

-- the sessions ran: they added events of their own, for one map of calls, and each was answered to its end
pub record HaveRun (sessions : List Session) (replies : List SessionReplies) (old new : View) : Type 0 where
  pub adds : AddsOfThese (λ n. n < length sessions) old new
  pub calls : Who → Option Call
  pub follow : FollowScript sessions calls new
  pub many : length replies ≡ length sessions
  pub each : (n : ℕ) (session : Session) (own : SessionReplies) → slice_get sessions n ≡ Some session → slice_get replies n ≡ Some own
      → IsAnswered new calls n (history_lines session.lines) own.replies

-- the sessions stopped for want of memory
pub record HaveStopped (sessions : List Session) (old new : View) : Type 0 where
  pub adds : LeavesOfThese (λ n. n < length sessions) old new
  pub calls : Who → Option Call
  pub follow : FollowScript sessions calls new
