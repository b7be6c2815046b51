-- Where there is room for all calls that a script may make, no claim of its run is refused, and no reply says so. Stated for any upstream.
use Rattle.std.proofs.Common.{◌≡◌, ℕ, zero, suc, ◌+◌, ◌<◌, ◌==◌, inl, inr, List, [], ◌∷◌, ◌++◌, Bool, true, false, cond, length, slice_get, Some, None, refl, ap, sym, subst, ◌∙◌, arith}
use Rattle.std.specs.declared.option.Option.{Option}
use Rattle.std.specs.Prelude.{is_none, ◌&&◌}
use Rattle.std.specs.FinMap as fin
use Rattle.std.specs.Option.{option_map}
use Rattle.std.proofs.lemmas.Bool.{eqb-true}
use Rattle.cas_model.specs.declared.call.Call.{Call}
use Rattle.cas_model.specs.declared.call.Call.TheVariants.{Store, Load, Put, Get}
use Rattle.cas_model.specs.declared.call.Reply.{Reply}
use Rattle.cas_model.specs.declared.call.Reply.TheVariants as reply
use Rattle.cas_model.specs.declared.call.Who.{Who}
use Rattle.cas_model.specs.declared.digest.Digest.{Digest}
use Rattle.cas_model.specs.declared.note.Stage.{Stage}
use Rattle.cas_model.specs.declared.note.Stage.TheVariants as stage
use Rattle.cas_model.specs.declared.object.Object.{Object}
use Rattle.cas_model.specs.Object.{object_digest}
use Rattle.cas_model.specs.Primary.{object_in}
use Rattle.cas_model.specs.State.{State}
use Rattle.cas_model.specs.Step.{Entry, IsLegal, Step}
use Rattle.cas_model.specs.Tables.{Tables, digest_at}
use Rattle.cas_history.specs.declared.event.Act.{Act}
use Rattle.cas_history.specs.declared.event.Act.TheVariants as act
use Rattle.cas_history.specs.declared.event.Event.{Event}
use Rattle.cas_history.specs.Conduct.{MayMake}
use Rattle.cas_history.specs.Cost.{asked, AreWithinCost, HasRoomFor, IsWithinCost}
use Rattle.cas_history.specs.History.{CountUp, dangling, decided, decided_at, got, history, is_absent, is_miss, left_by, loaded, of_session, read_by, reply_where, reply_with, with_entry, with_event}
use Rattle.cas_history.specs.Laws.{AreOf, AskForCosts, IsAmong, NoneRefused, is_refused}
use Rattle.cas_history.specs.Lawful.{IsLawfulRun}
use Rattle.cas_history.specs.Run.{tables}
use Rattle.cas_history.specs.Script as script
use Rattle.cas_history.specs.Theorem.{AllConduct}
use Rattle.cas_history.proofs.Costs.{full-never-comes}
use Rattle.cas_port.specs.View.{View}
use Rattle.cas_script.specs.declared.script.Session.{Session}
use Rattle.sessions.specs.Turns.{FollowScript, FollowsLines, call_number, entries_in, history_lines, replies_of}
use Rattle.cas_command.specs.History.{AreOfSessions}
use Rattle.cas_command.specs.Room.{IsNotFull, NoneFull, calls_of_sessions}
use Rattle.cas_command.proofs.HistoryLemmas.{below-or-past}

-- ---- the costs of lists of calls

-- what the first calls together may cost, the second may
abbrev pub CostNoMore : State → List Call → List Call → Type 0
CostNoMore up few many = (words : ℕ) → AreWithinCost up few words → AreWithinCost up many words

costs-nothing : (up : State) (call : Call) → IsWithinCost up call 0
costs-nothing up call = record { rows = []; tree = tt; most = omega arith }

more-call : (up : State) (call : Call) (few many : List Call) → CostNoMore up few many → CostNoMore up few (call ∷ many)
more-call up call few many less words h = (0, words, costs-nothing up call, less words h, omega arith)

more-calls : (up : State) (calls few many : List Call) → CostNoMore up few many → CostNoMore up few (calls ++ many)
more-calls up [] few many less = less
more-calls up (call ∷ calls) few many less = more-call up call few (calls ++ many) (more-calls up calls few many less)

same-call : (up : State) (call : Call) (few many : List Call) → CostNoMore up few many → CostNoMore up (call ∷ few) (call ∷ many)
same-call up call few many less words h = (h.0, h.1, h.2, less h.1 h.3, h.4)

this-call : (up : State) (its call : Call) (few many : List Call) → Some its ≡ Some call → CostNoMore up few many → CostNoMore up (call ∷ few) (its ∷ many)
this-call up its call few many is less =
    let same : its ≡ call = cc is in
    subst (λ (c : Call). CostNoMore up (c ∷ few) (its ∷ many)) same (same-call up its few many less)

-- ---- the calls that a session made are a part of those that its lines may make

-- a stored object has the digest that the reply tells
abbrev pub IsStoredAs : Call → Reply → Type 0
IsStoredAs (Store o) (reply.Stored d) = d ≡ object_digest o
IsStoredAs call other = Unit {0}

step-stores : (size : ℕ) (old : State) (call : Call) (given : Reply) (new : State) → Step size old call given new → IsStoredAs call given
step-stores size old (Store o) (reply.Stored d) new h = h.1
step-stores size old (Store o) other new h = tt
step-stores size old (Load d) other new h = tt
step-stores size old (Put k v) other new h = tt
step-stores size old (Get k) other new h = tt

-- what is left of a session's calls, before others
abbrev pub left_of : script.At → List Call → List Call
left_of (script.Before lines) others = script.calls_of lines ++ others
left_of (script.Missed k o lines) others = Store o ∷ Put k (object_digest o) ∷ (script.calls_of lines ++ others)
left_of (script.Brought k d lines) others = Put k d ∷ (script.calls_of lines ++ others)

no-next : (call : Call) → None ≡ Some call → ⊥
no-next call is = cc is

-- an action that ends with its first call, or with its second
past-action : (up : State) (k : Digest) (o : Object) (call : Call) (few many : List Call) → Some (Get k) ≡ Some call → CostNoMore up few many
    → CostNoMore up (call ∷ few) (Get k ∷ Store o ∷ Put k (object_digest o) ∷ many)
past-action up k o call few many is less =
    this-call up (Get k) call few (Store o ∷ Put k (object_digest o) ∷ many) is
    (more-call up (Store o) few (Put k (object_digest o) ∷ many) (more-call up (Put k (object_digest o)) few many less))

past-store : (up : State) (k : Digest) (o : Object) (call : Call) (few many : List Call) → Some (Store o) ≡ Some call → CostNoMore up few many
    → CostNoMore up (call ∷ few) (Store o ∷ Put k (object_digest o) ∷ many)
past-store up k o call few many is less =
    this-call up (Store o) call few (Put k (object_digest o) ∷ many) is (more-call up (Put k (object_digest o)) few many less)

-- one more reply: its call, and then what is left
moves : (up : State) (at : script.At) (call : Call) (given : Reply) (few others : List Call) → script.call_at at ≡ Some call → IsStoredAs call given
    → CostNoMore up few (left_of (script.moved at given) others) → CostNoMore up (call ∷ few) (left_of at others)
moves up (script.Before []) call given few others is stores less = absurd (no-next call is)
moves up (script.Before (script.Once its ∷ lines)) call given few others is stores less = this-call up its call few (script.calls_of lines ++ others) is less
moves up (script.Before (script.Action k o ∷ lines)) call reply.Miss few others is stores less =
    this-call up (Get k) call few (Store o ∷ Put k (object_digest o) ∷ (script.calls_of lines ++ others)) is less
moves up (script.Before (script.Action k o ∷ lines)) call (reply.Stored x) few others is stores less = past-action up k o call few (script.calls_of lines ++ others) is less
moves up (script.Before (script.Action k o ∷ lines)) call (reply.Found x) few others is stores less = past-action up k o call few (script.calls_of lines ++ others) is less
moves up (script.Before (script.Action k o ∷ lines)) call reply.Missing few others is stores less = past-action up k o call few (script.calls_of lines ++ others) is less
moves up (script.Before (script.Action k o ∷ lines)) call (reply.Kept x) few others is stores less = past-action up k o call few (script.calls_of lines ++ others) is less
moves up (script.Before (script.Action k o ∷ lines)) call (reply.Hit x) few others is stores less = past-action up k o call few (script.calls_of lines ++ others) is less
moves up (script.Before (script.Action k o ∷ lines)) call (reply.Dangling i x) few others is stores less = past-action up k o call few (script.calls_of lines ++ others) is less
moves up (script.Before (script.Action k o ∷ lines)) call (reply.Full a b c) few others is stores less = past-action up k o call few (script.calls_of lines ++ others) is less
moves up (script.Missed k o lines) call (reply.Stored d) few others is stores less =
    let same : call ≡ Store o = cc is in
    let named : d ≡ object_digest o = subst (λ (c : Call). IsStoredAs c (reply.Stored d)) same stores in
    this-call up (Store o) call few (Put k (object_digest o) ∷ (script.calls_of lines ++ others)) is
    (subst (λ (x : Digest). CostNoMore up few (Put k x ∷ (script.calls_of lines ++ others))) named less)
moves up (script.Missed k o lines) call (reply.Found x) few others is stores less = past-store up k o call few (script.calls_of lines ++ others) is less
moves up (script.Missed k o lines) call reply.Missing few others is stores less = past-store up k o call few (script.calls_of lines ++ others) is less
moves up (script.Missed k o lines) call (reply.Kept x) few others is stores less = past-store up k o call few (script.calls_of lines ++ others) is less
moves up (script.Missed k o lines) call (reply.Hit x) few others is stores less = past-store up k o call few (script.calls_of lines ++ others) is less
moves up (script.Missed k o lines) call reply.Miss few others is stores less = past-store up k o call few (script.calls_of lines ++ others) is less
moves up (script.Missed k o lines) call (reply.Dangling i x) few others is stores less = past-store up k o call few (script.calls_of lines ++ others) is less
moves up (script.Missed k o lines) call (reply.Full a b c) few others is stores less = past-store up k o call few (script.calls_of lines ++ others) is less
moves up (script.Brought k d lines) call given few others is stores less = this-call up (Put k d) call few (script.calls_of lines ++ others) is less

-- no call more
none-next : (up : State) (at : script.At) (few others : List Call) → CostNoMore up few others → CostNoMore up few (left_of at others)
none-next up (script.Before lines) few others less = more-calls up (script.calls_of lines) few others less
none-next up (script.Missed k o lines) few others less =
    more-call up (Store o) few (Put k (object_digest o) ∷ (script.calls_of lines ++ others))
    (more-call up (Put k (object_digest o)) few (script.calls_of lines ++ others) (more-calls up (script.calls_of lines) few others less))
none-next up (script.Brought k d lines) few others less =
    more-call up (Put k d) few (script.calls_of lines ++ others) (more-calls up (script.calls_of lines) few others less)

-- or one that is not decided
one-next : (up : State) (at : script.At) (call : Call) (few others : List Call) → script.call_at at ≡ Some call → CostNoMore up few others → CostNoMore up (call ∷ few) (left_of at others)
one-next up (script.Before []) call few others is less = absurd (no-next call is)
one-next up (script.Before (script.Once its ∷ lines)) call few others is less =
    this-call up its call few (script.calls_of lines ++ others) is (more-calls up (script.calls_of lines) few others less)
one-next up (script.Before (script.Action k o ∷ lines)) call few others is less =
    past-action up k o call few (script.calls_of lines ++ others) is (more-calls up (script.calls_of lines) few others less)
one-next up (script.Missed k o lines) call few others is less =
    past-store up k o call few (script.calls_of lines ++ others) is (more-calls up (script.calls_of lines) few others less)
one-next up (script.Brought k d lines) call few others is less =
    this-call up (Put k d) call few (script.calls_of lines ++ others) is (more-calls up (script.calls_of lines) few others less)

-- the calls of entries and who made them, the oldest first, before others
abbrev pub calls_before : List Entry → List Call → List Call
calls_before [] others = others
calls_before (entry ∷ earlier) others = calls_before earlier (entry.call ∷ others)

abbrev pub whos_before : List Entry → List Who → List Who
whos_before [] others = others
whos_before (entry ∷ earlier) others = whos_before earlier (entry.who ∷ others)

-- each entry is so
abbrev pub EachOf : (Entry → Type 0) → List Entry → Type 0
EachOf P [] = Unit {0}
EachOf P (entry ∷ earlier) = P entry × EachOf P earlier

-- the map has the entry's call, and the reply to a store names its object
pub record IsMade (calls : Who → Option Call) (entry : Entry) : Type 0 where
  pub call : calls entry.who ≡ Some entry.call
  pub stores : IsStoredAs entry.call entry.reply

-- the same, and the entry is of this session
pub record IsMadeIn (calls : Who → Option Call) (session : ℕ) (entry : Entry) : Type 0 where
  pub made : IsMade calls entry
  pub own : entry.who.session ≡ session

calls-left : (up : State) (calls : Who → Option Call) (session : ℕ) (lines : List script.Line) (es : List Entry) (few others : List Call) → script.Follows lines es → EachOf (IsMadeIn calls session) es
    → CostNoMore up few (left_of (script.at_after lines es) others) → CostNoMore up (calls_before es few) (script.calls_of lines ++ others)
calls-left up calls session lines [] few others follows made less = less
calls-left up calls session lines (e ∷ es) few others follows made less =
    calls-left up calls session lines es (e.call ∷ few) others follows.0 made.1
    (moves up (script.at_after lines es) e.call e.reply few others follows.1 made.0.made.stores less)

-- ---- the entries of a history

event-made : (up : State) (s : Tables) (calls : Who → Option Call) (call : Option Call) (e : Event) (es : List Entry) → calls e.note.who ≡ call
    → EachOf (λ (x : Entry). calls x.who ≡ Some x.call) es → EachOf (λ (x : Entry). calls x.who ≡ Some x.call) (with_event up s call e es)
event-made up s calls None e es is made = made
event-made up s calls (Some call) e es is made = by-reply (decided up s call e.note.stage e.act) where
  by-reply : (given : Option Reply) → EachOf (λ (x : Entry). calls x.who ≡ Some x.call) (with_entry e.note.who call given es)
  by-reply None = made
  by-reply (Some given) = (is, made)

history-made : (up : State) (start : Tables) (calls : Who → Option Call) (es : List Event) → EachOf (λ (x : Entry). calls x.who ≡ Some x.call) (history up start calls es)
history-made up start calls [] = tt
history-made up start calls (e ∷ es) = event-made up (tables start es) calls (calls e.note.who) e (history up start calls es) refl (history-made up start calls es)

legal-made : (calls : Who → Option Call) (size : ℕ) (old new : State) (es : List Entry) → IsLegal size old es new → EachOf (λ (x : Entry). calls x.who ≡ Some x.call) es → EachOf (IsMade calls) es
legal-made calls size old new [] legal made = tt
legal-made calls size old new (e ∷ es) legal made =
    (record { call = made.0; stores = step-stores size legal.0 e.call e.reply new legal.2 }, legal-made calls size old legal.0 es legal.1 made.1)

own-made : (calls : Who → Option Call) (session : ℕ) (es : List Entry) → EachOf (IsMade calls) es → EachOf (IsMadeIn calls session) (of_session session es)
own-made calls session [] made = tt
own-made calls session (e ∷ es) made = by-test (own-made calls session es made.1) (e.who.session == session) refl where
  by-test :
      EachOf (IsMadeIn calls session) (of_session session es) → (test : Bool) → (e.who.session == session) ≡ test
      → EachOf (IsMadeIn calls session) (cond test (e ∷ of_session session es) (of_session session es))
  by-test earlier true is = (record { made = made.0; own = eqb-true e.who.session session is }, earlier)
  by-test earlier false is = earlier

-- ---- who made the calls

-- these made these calls, each within its cost, and together they cost no more than those
pub record HaveAsked (up : State) (calls : Who → Option Call) (seen : List Event) (whos : List Who) (made all : List Call) : Type 0 where
  pub ask : AskForCosts up calls seen whos made
  pub less : CostNoMore up made all

who-is : (who : Who) (session index : ℕ) → who.session ≡ session → who.index ≡ index → who ≡ call_number session index
who-is who session index a b = λ i. record { session = a i; index = b i }

asks-before :
    (v : View) (calls : Who → Option Call) (session : ℕ) (lines : List script.Line) (es : List Entry) (whos : List Who) (made : List Call) → FollowsLines v calls session lines
    → EachOf (IsMadeIn calls session) es → AskForCosts v.upstream calls v.seen whos made → AskForCosts v.upstream calls v.seen (whos_before es whos) (calls_before es made)
asks-before v calls session lines [] whos made follows own ask = ask
asks-before v calls session lines (e ∷ es) whos made follows own ask =
    let same : e.who ≡ call_number session e.who.index = who-is e.who session e.who.index own.0.own refl in
    let known : calls (call_number session e.who.index) ≡ Some e.call = ap calls (sym same) ∙ own.0.made.call in
    let cost : IsWithinCost v.upstream e.call (asked e.who v.seen) =
    subst (λ (w : Who). IsWithinCost v.upstream e.call (asked w v.seen)) (sym same) (follows.costs e.who.index e.call known) in
    asks-before v calls session lines es (e.who ∷ whos) (e.call ∷ made) follows own.1 (own.0.made.call, cost, ask)

among-before : (es : List Entry) (who : Who) (whos : List Who) → IsAmong who whos → IsAmong who (whos_before es whos)
among-before [] who whos h = h
among-before (e ∷ es) who whos h = among-before es who (e.who ∷ whos) (inr h)

-- the entries' indexes count up, so each below their number is one of them
among-counted :
    (calls : Who → Option Call) (session : ℕ) (es : List Entry) (count index : ℕ) (whos : List Who) → CountUp es count → EachOf (IsMadeIn calls session) es → index < count
    → IsAmong (call_number session index) (whos_before es whos)
among-counted calls session [] count index whos up own below = absurd (omega (arith, up, below))
among-counted calls session (e ∷ es) count index whos up own below =
    let counted = up.0 in
    elim (below-or-past index e.who.index) [
      | inl lower ↦ among-counted calls session es e.who.index index (e.who ∷ whos) up.1 own.1 lower
      | inr past ↦
          let same : e.who.index ≡ index = omega (arith, counted, below, past) in
          among-before es (call_number session index) (e.who ∷ whos) (inl (who-is e.who session index own.0.own same))
    ]

-- whoever makes a call of this session is one of these
abbrev pub HasCallers : (Who → Option Call) → ℕ → List Who → Type 0
HasCallers calls session whos = (index : ℕ) (call : Call) → calls (call_number session index) ≡ Some call → IsAmong (call_number session index) whos

-- a session's callers and calls, before others
pub record SessionAsked (v : View) (calls : Who → Option Call) (session : ℕ) (lines : List script.Line) (others : List Who) (all : List Call) : Type 0 where
  pub whos : List Who
  pub made : List Call
  pub asked : HaveAsked v.upstream calls v.seen whos made (script.calls_of lines ++ all)
  pub rest : (who : Who) → IsAmong who others → IsAmong who whos
  pub own : HasCallers calls session whos

session-asked :
    (v : View) (calls : Who → Option Call) (session : ℕ) (lines : List script.Line) (whos : List Who) (made all : List Call) → FollowsLines v calls session lines
    → EachOf (IsMadeIn calls session) (entries_in v calls session) → HaveAsked v.upstream calls v.seen whos made all → SessionAsked v calls session lines whos all
session-asked v calls session lines whos made all follows own had = by-call (calls (call_number session (length (entries_in v calls session)))) refl where
  by-call : (found : Option Call) → calls (call_number session (length (entries_in v calls session))) ≡ found → SessionAsked v calls session lines whos all
  by-call None is = record {
    whos = whos_before (entries_in v calls session) whos;
    made = calls_before (entries_in v calls session) made;
    asked = record {
      ask = asks-before v calls session lines (entries_in v calls session) whos made follows own had.ask;
      less = calls-left v.upstream calls session lines (entries_in v calls session) made all follows.follows own (none-next v.upstream (script.at_after lines (entries_in v calls session)) made all had.less);
    };
    rest = λ who among. among-before (entries_in v calls session) who whos among;
    own = λ index call known. elim (below-or-past index (length (entries_in v calls session))) [
      | inl below ↦ among-counted calls session (entries_in v calls session) (length (entries_in v calls session)) index whos follows.indexes own below
      | inr past ↦
          let next = (follows.next index call known past).0 in
          let none : None ≡ Some call = sym is ∙ ap (λ (i : ℕ). calls (call_number session i)) (sym next) ∙ known in
          absurd (no-next call none)
    ];
  }
  by-call (Some its) is = record {
    whos = whos_before (entries_in v calls session) (call_number session (length (entries_in v calls session)) ∷ whos);
    made = calls_before (entries_in v calls session) (its ∷ made);
    asked = record {
      ask = asks-before v calls session lines (entries_in v calls session) (call_number session (length (entries_in v calls session)) ∷ whos) (its ∷ made) follows own (is, follows.costs (length (entries_in v calls session)) its is, had.ask);
      less = calls-left v.upstream calls session lines (entries_in v calls session) (its ∷ made) all follows.follows own
          (one-next v.upstream (script.at_after lines (entries_in v calls session)) its made all (follows.next (length (entries_in v calls session)) its is (omega arith)).1 had.less);
    };
    rest = λ who among. among-before (entries_in v calls session) who (call_number session (length (entries_in v calls session)) ∷ whos) (inr among);
    own = λ index call known. elim (below-or-past index (length (entries_in v calls session))) [
      | inl below ↦ among-counted calls session (entries_in v calls session) (length (entries_in v calls session)) index (call_number session (length (entries_in v calls session)) ∷ whos) follows.indexes own below
      | inr past ↦
          let next : (length (entries_in v calls session)) ≡ index = sym (follows.next index call known past).0 in
          among-before (entries_in v calls session) (call_number session index) (call_number session (length (entries_in v calls session)) ∷ whos) (inl (ap (λ (i : ℕ). call_number session i) next))
    ];
  }

-- the callers and calls of all sessions, of which the first has this number
pub record AllAsked (v : View) (calls : Who → Option Call) (first : ℕ) (sessions : List Session) : Type 0 where
  pub whos : List Who
  pub made : List Call
  pub asked : HaveAsked v.upstream calls v.seen whos made (calls_of_sessions sessions)
  pub own : (n session : ℕ) → session ≡ first + n → n < length sessions → HasCallers calls session whos

with-session :
    (v : View) (calls : Who → Option Call) (first : ℕ) (session : Session) (sessions : List Session) (later : AllAsked v calls (suc first) sessions)
    → SessionAsked v calls first (history_lines session.lines) later.whos (calls_of_sessions sessions) → AllAsked v calls first (session ∷ sessions)
with-session v calls first session sessions later here = record { whos = here.whos; made = here.made; asked = here.asked; own = by-number } where
  by-number : (n number : ℕ) → number ≡ first + n → n < suc (length sessions) → HasCallers calls number here.whos
  by-number zero number is below =
      let same : number ≡ first = omega (arith, is) in
      subst (λ (m : ℕ). HasCallers calls m here.whos) (sym same) here.own
  by-number (suc n) number is below = λ index call known.
      here.rest (call_number number index) (later.own n number (omega (arith, is)) (omega (arith, below)) index call known)

all-asked :
    (v : View) (calls : Who → Option Call) (first : ℕ) (sessions : List Session)
    → ((n number : ℕ) (session : Session) → number ≡ first + n → slice_get sessions n ≡ Some session → FollowsLines v calls number (history_lines session.lines))
    → EachOf (IsMade calls) (history v.upstream v.start calls v.seen) → AllAsked v calls first sessions
all-asked v calls first [] follow made = record {
  whos = [];
  made = [];
  asked = record { ask = tt; less = λ words h. h };
  own = λ n session is below. absurd (omega (arith, below));
}
all-asked v calls first (session ∷ sessions) follow made =
    let later = all-asked v calls (suc first) sessions (λ n number its is at. follow (suc n) number its (omega (arith, is)) at) made in
    with-session v calls first session sessions later
    (session-asked v calls first (history_lines session.lines) later.whos later.made (calls_of_sessions sessions) (follow 0 first session (omega arith) refl)
    (own-made calls first (history v.upstream v.start calls v.seen) made) later.asked)

-- ---- each event is of one of them

-- the map has the event's call
abbrev pub AreKnown : (Who → Option Call) → List Event → Type 0
AreKnown calls [] = Unit {0}
AreKnown calls (e ∷ es) = ((call : Call) × (calls e.note.who ≡ Some call)) × AreKnown calls es

call-known : (up : State) (start : Tables) (es : List Event) (found : Option Call) (e : Event) → MayMake up start es found e → (call : Call) × (found ≡ Some call)
call-known up start es None e may = absurd may
call-known up start es (Some call) e may = (call, refl)

calls-known : (up : State) (start : Tables) (calls : Who → Option Call) (es : List Event) → AllConduct up start calls es → AreKnown calls es
calls-known up start calls [] conduct = tt
calls-known up start calls (e ∷ es) conduct = (call-known up start es (calls e.note.who) e ((conduct e.note.who.session).1 refl).1, calls-known up start calls es (λ session. (conduct session).0))

are-of : (calls : Who → Option Call) (count : ℕ) (whos : List Who) (es : List Event) → ((n : ℕ) → n < count → HasCallers calls n whos) → AreOfSessions count es → AreKnown calls es → AreOf whos es
are-of calls count whos [] callers own known = tt
are-of calls count whos (e ∷ es) callers own known =
    (callers e.note.who.session own.0 e.note.who.index known.0.0 known.0.1, are-of calls count whos es callers own.1 known.1)

-- no claim of the run is refused
pub none-refused :
    (v : View) (sessions : List Session) (calls : Who → Option Call) (size : ℕ) (old new : State) → FollowScript sessions calls v → IsLawfulRun v.upstream v.start v.seen
    → AreOfSessions (length sessions) v.seen → AllConduct v.upstream v.start calls v.seen → IsLegal size old (history v.upstream v.start calls v.seen) new
    → HasRoomFor v.upstream (calls_of_sessions sessions) v.start.counter v.start.size → NoneRefused v.seen
none-refused v sessions calls size old new follow lawful own conduct legal room =
    let made = legal-made calls size old new (history v.upstream v.start calls v.seen) legal (history-made v.upstream v.start calls v.seen) in
    let all = all-asked v calls 0 sessions
    (λ n number session is at. let same : n ≡ number = omega (arith, is) in subst (λ (m : ℕ). FollowsLines v calls m (history_lines session.lines)) same (follow.each n session at)) made in
    let of = are-of calls (length sessions) all.whos v.seen (λ n below. all.own n n (omega arith) below) own (calls-known v.upstream v.start calls v.seen conduct) in
    full-never-comes v.upstream v.start calls all.whos all.made v.seen lawful of all.asked.ask (λ words within. room words (all.asked.less words within))

-- ---- only a refused claim decides that there is no room

abbrev pub IsNotFullIn : Option Reply → Type 0
IsNotFullIn None = Unit {0}
IsNotFullIn (Some given) = IsNotFull given

where-fits : (test : Bool) (given : Reply) → IsNotFull given → IsNotFullIn (reply_where test given)
where-fits true given h = h
where-fits false given h = tt

with-fits : (n : ℕ) (given : ℕ → Option Reply) → ((m : ℕ) → IsNotFullIn (given m)) → IsNotFullIn (reply_with n given)
with-fits zero given h = tt
with-fits (suc n) given h = h (suc n)

found-fits : (o : Option Object) → IsNotFullIn (option_map (λ (x : Object). reply.Found x) o)
found-fits None = tt
found-fits (Some o) = tt

dangling-fits : (up : State) (s : Tables) (i : ℕ) (d : Option Digest) (a : Act) → IsNotFullIn (dangling up s i d a)
dangling-fits up s i None a = tt
dangling-fits up s i (Some d) a = where-fits (is_absent up s a d) (reply.Dangling i d) tt

loaded-fits : (up : State) (s : Tables) (d : Digest) (a : Act) (cell : ℕ) → IsNotFullIn (loaded up s d a cell)
loaded-fits up s d a zero = where-fits (is_absent up s a d) reply.Missing tt
loaded-fits up s d a (suc cell) = found-fits (object_in s (suc cell))

got-fits : (up : State) (s : Tables) (k : Digest) (a : Act) (cell : ℕ) → IsNotFullIn (got up s k a cell)
got-fits up s k a zero = where-fits (is_miss s a && is_none (fin.get up.cache k)) reply.Miss tt
got-fits up s k a (suc cell) = tt

at-fits : (up : State) (s : Tables) (call : Call) (at : Stage) (a : Act) → IsNotFullIn (decided_at up s call at a)
at-fits up s (Store o) (stage.Ref i) a = dangling-fits up s i (slice_get o.refs i) a
at-fits up s (Store o) stage.Own a = with-fits (left_by s a) (λ n. Some (reply.Stored (object_digest o))) (λ m. tt)
at-fits up s (Store o) stage.Key a = tt
at-fits up s (Store o) stage.Deep a = tt
at-fits up s (Load d) stage.Own a = loaded-fits up s d a (read_by s a)
at-fits up s (Load d) (stage.Ref i) a = tt
at-fits up s (Load d) stage.Key a = tt
at-fits up s (Load d) stage.Deep a = tt
at-fits up s (Put k v) (stage.Ref i) a = dangling-fits up s i (slice_get (v ∷ []) i) a
at-fits up s (Put k v) stage.Key a = with-fits (left_by s a) (λ n. Some (reply.Kept (digest_at s.bound n))) (λ m. tt)
at-fits up s (Put k v) stage.Own a = tt
at-fits up s (Put k v) stage.Deep a = tt
at-fits up s (Get k) stage.Key a = got-fits up s k a (left_by s a)
at-fits up s (Get k) (stage.Ref i) a = tt
at-fits up s (Get k) stage.Own a = tt
at-fits up s (Get k) stage.Deep a = tt

decided-fits : (up : State) (s : Tables) (call : Call) (at : Stage) (a : Act) → is_refused a ≡ false → IsNotFullIn (decided up s call at a)
decided-fits up s call at (act.Room n moved) h = cc h
decided-fits up s call at (act.Look space digest) h = at-fits up s call at (act.Look space digest)
decided-fits up s call at (act.Read cell) h = at-fits up s call at (act.Read cell)
decided-fits up s call at (act.Fill cell value words) h = at-fits up s call at (act.Fill cell value words)
decided-fits up s call at (act.Bind space digest own) h = tt
decided-fits up s call at (act.Claim n) h = tt

entry-fits : (who : Who) (call : Call) (given : Option Reply) (es : List Entry) → IsNotFullIn given → NoneFull es → NoneFull (with_entry who call given es)
entry-fits who call None es h rest = rest
entry-fits who call (Some given) es h rest = (h, rest)

event-fits : (up : State) (s : Tables) (call : Option Call) (e : Event) (es : List Entry) → is_refused e.act ≡ false → NoneFull es → NoneFull (with_event up s call e es)
event-fits up s None e es h rest = rest
event-fits up s (Some call) e es h rest = entry-fits e.note.who call (decided up s call e.note.stage e.act) es (decided-fits up s call e.note.stage e.act h) rest

pub none-full : (up : State) (start : Tables) (calls : Who → Option Call) (es : List Event) → NoneRefused es → NoneFull (history up start calls es)
none-full up start calls [] h = tt
none-full up start calls (e ∷ es) h = event-fits up (tables start es) (calls e.note.who) e (history up start calls es) h.0 (none-full up start calls es h.1)

-- ---- the replies of a session

session-fits : (session : ℕ) (es : List Entry) → NoneFull es → NoneFull (of_session session es)
session-fits session [] h = tt
session-fits session (e ∷ es) h = by-test (session-fits session es h.1) (e.who.session == session) where
  by-test : NoneFull (of_session session es) → (test : Bool) → NoneFull (cond test (e ∷ of_session session es) (of_session session es))
  by-test earlier true = (h.0, earlier)
  by-test earlier false = earlier

-- none of these replies says so
abbrev pub AreNotFull : List Reply → Type 0
AreNotFull [] = Unit {0}
AreNotFull (given ∷ later) = IsNotFull given × AreNotFull later

then-fits : (replies : List Reply) (given : Reply) → AreNotFull replies → IsNotFull given → AreNotFull (replies ++ given ∷ [])
then-fits [] given h its = (its, tt)
then-fits (first ∷ replies) given h its = (h.0, then-fits replies given h.1 its)

replies-fit : (es : List Entry) → NoneFull es → AreNotFull (replies_of es)
replies-fit [] h = tt
replies-fit (e ∷ es) h = then-fits (replies_of es) e.reply (replies-fit es h.1) h.0

pub session-replies-fit : (session : ℕ) (es : List Entry) → NoneFull es → AreNotFull (replies_of (of_session session es))
session-replies-fit session es h = replies-fit (of_session session es) (session-fits session es h)
