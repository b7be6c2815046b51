-- A script of one call has one reply, which that call may have.
use Rattle.std.proofs.Common.{◌≡◌, ℕ, zero, suc, ◌<◌, ◌==◌, Bool, true, false, cond, List, [], ◌∷◌, length, slice_get, Some, None, refl, ap, sym, subst, ◌∙◌, arith}
use Rattle.cas_model.specs.declared.call.Call.{Call}
use Rattle.cas_model.specs.declared.call.Call.TheVariants.{Store, Load, Put, Get}
use Rattle.cas_model.specs.declared.call.Reply.{Reply}
use Rattle.cas_model.specs.declared.call.Reply.TheVariants.{Stored, Found, Missing, Kept, Hit, Miss, Dangling, Full}
use Rattle.cas_model.specs.State.{State, over}
use Rattle.cas_model.specs.Step.{Entry, IsLegal, Step}
use Rattle.cas_model.specs.Tables.{Tables}
use Rattle.cas_history.specs.declared.event.Event.{Event}
use Rattle.cas_history.specs.History.{history, of_session}
use Rattle.cas_history.specs.Script as script
use Rattle.cas_history.specs.Run.{primary_of}
use Rattle.sessions.specs.declared.replies.Replies.{Replies}
use Rattle.sessions.specs.declared.replies.SessionReplies.{SessionReplies}
use Rattle.cas_script.specs.declared.script.Script.{Script}
use Rattle.cas_script.specs.declared.script.Session.{Session}
use Rattle.cas_script.specs.Parsing.{session_of}
use Rattle.cas_script.specs.Single.{call_line, single_script}
use Rattle.sessions.specs.Turns.{IsAnswered, entries_in, history_lines, replies_of}
use Rattle.cas_command.specs.declared.work.Report.{Report}
use Rattle.cas_command.specs.declared.work.Report.TheVariants as report
use Rattle.cas_command.specs.declared.work.Work.{Work}
use Rattle.cas_command.specs.History.{AnswersScript, shown}
use Rattle.cas_command.specs.Made.{IsOneCallFor}
use Rattle.cas_command.specs.Output.{HasOneReply, IsOneReply, MayReply}
use Rattle.cas_command.proofs.HistoryLemmas.{AreEntriesOf, entries-of}

-- ---- the entries of one line

abbrev pub lines-of : Call → List script.Line
lines-of call = script.Once call ∷ []

-- after one entry there is no line left
past : (call : Call) (entry : Entry) (earlier : List Entry) → script.Follows (lines-of call) (entry ∷ earlier) → script.at_after (lines-of call) (entry ∷ earlier) ≡ script.Before []
past call entry [] follows = refl
past call entry (before ∷ earlier) follows =
    let ended = past call before earlier follows.0 in
    let none : script.call_at (script.at_after (lines-of call) (before ∷ earlier)) ≡ None = ap script.call_at ended in
    let clash : None ≡ Some entry.call = sym none ∙ follows.1 in cc clash

-- entries that follow one line to its end are one entry, of its call
pub record IsAlone (call : Call) (entries : List Entry) : Type 0 where
  pub entry : Entry
  pub are : entries ≡ entry ∷ []
  pub call_is : call ≡ entry.call

pub alone : (call : Call) (entries : List Entry) → script.Follows (lines-of call) entries → script.IsComplete (lines-of call) entries → IsAlone call entries
alone call [] follows complete = let clash : Some call ≡ None = complete in cc clash
alone call (entry ∷ []) follows complete = record { entry = entry; are = refl; call_is = some-same follows.1 } where
  some-same : {X : Type 0} {x y : X} → Some x ≡ Some y → x ≡ y
  some-same h = cc h
alone call (entry ∷ before ∷ earlier) follows complete =
    let none : script.call_at (script.at_after (lines-of call) (before ∷ earlier)) ≡ None = ap script.call_at (past call before earlier follows.0) in
    let clash : None ≡ Some entry.call = sym none ∙ follows.1 in cc clash

-- where there is one session, all entries are its
pub all-of-one : (entries : List Entry) → AreEntriesOf 1 entries → of_session 0 entries ≡ entries
all-of-one [] own = refl
all-of-one (entry ∷ earlier) own = step (all-of-one earlier own.1) (entry.who.session == 0) (is-first entry.who.session own.0) where
  is-first : (n : ℕ) → n < 1 → (n == 0) ≡ true
  is-first zero h = refl
  is-first (suc n) h = absurd (omega (arith, h))

  step : of_session 0 earlier ≡ earlier → (b : Bool) → b ≡ true → cond b (entry ∷ of_session 0 earlier) (of_session 0 earlier) ≡ entry ∷ earlier
  step later true test = ap (λ (es : List Entry). entry ∷ es) later
  step later false test = cc test

-- ---- what a step may reply

pub may-reply : (size : ℕ) (s new : State) (call : Call) (reply : Reply) → Step size s call reply new → MayReply (call_line call) reply
may-reply size s new (Store o) (Stored d) step = tt
may-reply size s new (Store o) (Dangling i d) step = tt
may-reply size s new (Store o) (Full at asked limit) step = tt
may-reply size s new (Store o) (Found x) step = absurd step
may-reply size s new (Store o) Missing step = absurd step
may-reply size s new (Store o) (Kept d) step = absurd step
may-reply size s new (Store o) (Hit d) step = absurd step
may-reply size s new (Store o) Miss step = absurd step
may-reply size s new (Load d) (Found o) step = tt
may-reply size s new (Load d) Missing step = tt
may-reply size s new (Load d) (Full at asked limit) step = tt
may-reply size s new (Load d) (Stored x) step = absurd step
may-reply size s new (Load d) (Dangling i x) step = absurd step
may-reply size s new (Load d) (Kept x) step = absurd step
may-reply size s new (Load d) (Hit x) step = absurd step
may-reply size s new (Load d) Miss step = absurd step
may-reply size s new (Put k v) (Kept d) step = tt
may-reply size s new (Put k v) (Dangling i d) step = tt
may-reply size s new (Put k v) (Full at asked limit) step = tt
may-reply size s new (Put k v) (Stored x) step = absurd step
may-reply size s new (Put k v) (Found x) step = absurd step
may-reply size s new (Put k v) Missing step = absurd step
may-reply size s new (Put k v) (Hit x) step = absurd step
may-reply size s new (Put k v) Miss step = absurd step
may-reply size s new (Get k) (Hit d) step = tt
may-reply size s new (Get k) Miss step = tt
may-reply size s new (Get k) (Full at asked limit) step = tt
may-reply size s new (Get k) (Stored x) step = absurd step
may-reply size s new (Get k) (Found x) step = absurd step
may-reply size s new (Get k) Missing step = absurd step
may-reply size s new (Get k) (Kept x) step = absurd step
may-reply size s new (Get k) (Dangling i x) step = absurd step

may-in : (size : ℕ) (s new : State) (call : Call) (entries : List Entry) (one : IsAlone call entries) → IsLegal size s entries new → MayReply (call_line call) one.entry.reply
may-in size s new call entries one legal =
    let is : IsLegal size s (one.entry ∷ []) new = subst (λ es. IsLegal size s es new) one.are legal in
    subst (λ c. MayReply (call_line c) one.entry.reply) (sym one.call_is) (may-reply size is.0 new one.entry.call one.entry.reply is.2)

-- ---- the one reply of a script of one call

one-listed : (xs : List SessionReplies) → length xs ≡ 1 → (x : SessionReplies) × (xs ≡ x ∷ [])
one-listed [] h = cc h
one-listed (x ∷ []) h = (x, refl)
one-listed (x ∷ y ∷ xs) h = absurd (omega (arith, h))

history-of : (call : Call) → history_lines (call_line call ∷ []) ≡ lines-of call
history-of (Store o) = refl
history-of (Load d) = refl
history-of (Put k v) = refl
history-of (Get k) = refl

pub one-reply :
    (call : Call) (script_ : Script) (replies : Replies) (up opened : State) (start : Tables) (seen : List Event) → script_ ≡ single_script call
    → AnswersScript script_.sessions replies.sessions up opened start seen → IsOneReply script_ replies
one-reply call script_ replies up opened start seen is h = record {
  line = call_line call;
  reply = one.entry.reply;
  script_is = ap (λ (x : Script). x.sessions) is;
  replies_are = own.1 ∙ ap (λ rs. (record { replies = rs }) ∷ []) (answered.are ∙ ap replies_of one.are);
  may = may-in start.size (over opened up) (over (primary_of start seen) up) call (entries_in (shown up start seen) a.runs.calls 0) one
      (subst (λ es. IsLegal start.size (over opened up) es (over (primary_of start seen) up)) (sym (all-of-one (history up start a.runs.calls seen) (entries-of 1 up start a.runs.calls seen a.runs.own))) a.runs.legal);
} where
  session : Session
  session = session_of (call_line call ∷ [])

  a : AnswersScript (session ∷ []) replies.sessions up opened start seen
  a = subst (λ ss. AnswersScript ss replies.sessions up opened start seen) (ap (λ (x : Script). x.sessions) is) h

  own : (x : SessionReplies) × (replies.sessions ≡ x ∷ [])
  own = one-listed replies.sessions a.many

  answered : IsAnswered (shown up start seen) a.runs.calls 0 (history_lines session.lines) own.0.replies
  answered = a.each 0 session own.0 refl (ap (λ rs. slice_get rs 0) own.1)

  follows : script.Follows (lines-of call) (entries_in (shown up start seen) a.runs.calls 0)
  follows = subst (λ ls. script.Follows ls (entries_in (shown up start seen) a.runs.calls 0)) (history-of call) (a.runs.follow.each 0 session refl).follows

  complete : script.IsComplete (lines-of call) (entries_in (shown up start seen) a.runs.calls 0)
  complete = subst (λ ls. script.IsComplete ls (entries_in (shown up start seen) a.runs.calls 0)) (history-of call) answered.complete

  one : IsAlone call (entries_in (shown up start seen) a.runs.calls 0)
  one = alone call (entries_in (shown up start seen) a.runs.calls 0) follows complete

-- where one reply is reported, there is one
pub has-one-reply :
    (report_ : Report) (work : Work) (replies : Replies) (up opened : State) (start : Tables) (seen : List Event) → IsOneCallFor report_ work
    → AnswersScript work.script.sessions replies.sessions up opened start seen → HasOneReply report_ work.script replies
has-one-reply (report.Reply shows) work replies up opened start seen one h = one-reply one.0 work.script replies up opened start seen one.1 h
has-one-reply report.Lines work replies up opened start seen one h = tt
has-one-reply (report.Summary rounds) work replies up opened start seen one h = tt
