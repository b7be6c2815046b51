-- Sessions in turn: what stands after the first of them, and at the end.
use Rattle.std.proofs.Common.{◌≡◌, ◌≢◌, ℕ, suc, ◌<◌, ◌≤◌, ◌==◌, inl, inr, List, [], ◌∷◌, ◌++◌, Bool, true, false, cond, length, slice_get, None, Some, refl, ap, sym, ◌∙◌, subst, append-nil, arith}
use Rattle.std.specs.declared.option.Option.{Option}
use Rattle.std.proofs.lemmas.Bool.{cases_eq, eqb-true, eq-eqb}
use Rattle.std.proofs.lemmas.Option.{slice_get_within, slice_get_cases}
use Rattle.cas_model.specs.declared.call.Call.{Call}
use Rattle.cas_model.specs.declared.call.Reply.{Reply}
use Rattle.cas_model.specs.declared.call.Who.{Who}
use Rattle.cas_model.specs.Primary.{primary}
use Rattle.cas_model.specs.Step.{Entry}
use Rattle.cas_model.specs.Tables.{Tables}
use Rattle.cas_history.specs.declared.event.Event.{Event}
use Rattle.cas_history.specs.History.{history, CountUp}
use Rattle.cas_history.specs.Laws.{AreOfOtherSessions}
use Rattle.cas_history.specs.Script.{Line, Follows, IsComplete, at_after, call_at}
use Rattle.cas_history.specs.Theorem.{AllConduct}
use Rattle.cas_history.proofs.Indexes.{count-up}
use Rattle.cas_port.specs.View.{View}
use Rattle.sessions.specs.declared.replies.SessionReplies.{SessionReplies}
use Rattle.cas_script.specs.declared.script.Session.{Session}
use Rattle.sessions.specs.Reading.{NeedNoChange, OnlyReads}
use Rattle.sessions.specs.Standing.{Part, calls_of, decided_part, made_in, Knows, IsNext, Stands, HasRunSession, HasStoppedSession}
use Rattle.sessions.specs.Turns.{entries_in, replies_of, history_lines, IsUnseen, AreUnseen, AddsOfThese, LeavesOfThese, FollowsLines, FollowScript, HaveRun, HaveStopped}
use Rattle.sessions.proofs.CallsMade.{none-conduct, get-split, calls-many, one-longer, counted}
use Rattle.sessions.proofs.ReadOnly.{others-more, others-read}
use Rattle.sessions.proofs.Stood.{adds-self, adds-then, adds-more, adds-leaves, leaves-then, leaves-more, others-stand, others-of, stands-unseen}

-- ---- one map of calls

-- the calls that each session has made, by its number
abbrev pub map_of : (ℕ → Part) → Who → Option Call
map_of plan who = slice_get (made_in (plan who.session)) who.index

pub knows-own : (plan : ℕ → Part) (n : ℕ) → Knows (map_of plan) n (made_in (plan n))
knows-own plan n = record { is = λ i call h. h }

-- a call that has no entry is the next
pub open-next : (lines : List Line) (part : Part) → IsNext (at_after lines part.entries) part.pending → (i : ℕ) (call : Call) → slice_get (made_in part) i ≡ Some call → length part.entries ≤ i
    → (i ≡ length part.entries) × (call_at (at_after lines part.entries) ≡ Some call)
open-next lines part next i call h past = step part.pending next h where
  many : length (calls_of part.entries) ≡ length part.entries
  many = calls-many part.entries

  never : slice_get (calls_of part.entries) i ≡ Some call → ⊥
  never before = let below = slice_get_within (calls_of part.entries) i call before in let e = many in omega (arith, below, past, e)

  step : (pending : Option Call) → IsNext (at_after lines part.entries) pending → slice_get (made_in (record { entries = part.entries; pending = pending })) i ≡ Some call
      → (i ≡ length part.entries) × (call_at (at_after lines part.entries) ≡ Some call)
  step None next h = absurd (never h)
  step (Some own) next h = elim (get-split (calls_of part.entries) own i call h) [
    | inl before ↦ absurd (never before)
    | inr last ↦ (last.0 ∙ many, next ∙ ap (λ (c : Call). Some c) (sym last.1))
  ]

-- a session that stands follows its lines
pub follows-lines : (v : View) (plan : ℕ → Part) (n : ℕ) (lines : List Line) → Stands v n lines (plan n) → FollowsLines v (map_of plan) n lines
follows-lines v plan n lines stands =
    let knows = knows-own plan n in
    let conduct = stands.conduct (map_of plan) knows in
    let are = stands.are (map_of plan) knows in
    record {
      conduct = conduct;
      follows = subst (Follows lines) (sym are) stands.follows;
      indexes = subst (λ (k : ℕ). CountUp (entries_in v (map_of plan) n) k) (counted n (history v.upstream v.start (map_of plan) v.seen)) (count-up v.upstream v.start (map_of plan) n v.seen conduct);
      costs = stands.costs;
      next = λ i call h. subst (λ (es : List Entry). length es ≤ i → (i ≡ length es) × (call_at (at_after lines es) ≡ Some call)) (sym are) (open-next lines (plan n) stands.next i call h);
    }

-- ---- the sessions so far

-- the sessions below this number ran and were answered by these replies, and those from it on have not begun
pub record HaveTurned (sessions : List Session) (count : ℕ) (replies : List SessionReplies) (a v : View) : Type 0 where
  pub adds : AddsOfThese (λ n. n < count) a v
  pub plan : ℕ → Part
  pub stands : (n : ℕ) (session : Session) → slice_get sessions n ≡ Some session → Stands v n (history_lines session.lines) (plan n)
  pub quiet : (n : ℕ) (session : Session) → slice_get sessions n ≡ Some session → NeedNoChange (primary v.start) (plan n).entries → OnlyReads n v.seen
  pub later : (n : ℕ) → count ≤ n → plan n ≡ decided_part []
  pub many : length replies ≡ count
  pub each : (n : ℕ) (session : Session) (own : SessionReplies) → slice_get sessions n ≡ Some session → slice_get replies n ≡ Some own
      → (own.replies ≡ replies_of (plan n).entries) × IsComplete (history_lines session.lines) (plan n).entries

pub turned-none : (sessions : List Session) (a : View) → AreUnseen a (length sessions) → HaveTurned sessions 0 [] a a
turned-none sessions a unseen = record {
  adds = adds-self (λ n. n < 0) a;
  plan = λ n. decided_part [];
  stands = λ n session is. stands-unseen a n (history_lines session.lines) (unseen.each n (slice_get_within sessions n session is)).unseen;
  quiet = λ n session is need. others-read n a.seen (unseen.each n (slice_get_within sessions n session is)).unseen;
  later = λ n past. refl;
  many = refl;
  each = λ n session own is none. absurd (none-there none);
} where
  none-there : {own : SessionReplies} → None ≡ Some own → ⊥
  none-there h = cc

-- the port speaks for the next session and has still seen no event of it
still-unseen : (sessions : List Session) (count : ℕ) (a v : View) → AddsOfThese (λ n. n < count) a v → (n : ℕ) → count ≤ n → IsUnseen a n → IsUnseen v n
still-unseen sessions count a v adds n past unseen =
    subst (λ (w : View). IsUnseen w n) (sym adds.is)
    (record { speaks = unseen.speaks; unseen = both adds.more (others-of a.speaks (λ m. m < count) n adds.more unseen.speaks (λ below. omega (arith, below, past)) adds.own) }) where
      both : (more : List Event) → AreOfOtherSessions n more → AreOfOtherSessions n (more ++ a.seen)
      both [] others = unseen.unseen
      both (e ∷ es) others = (others.0, both es others.1)

pub next-unseen : (sessions : List Session) (count : ℕ) (replies : List SessionReplies) (a v : View) (session : Session) → AreUnseen a (length sessions) → HaveTurned sessions count replies a v
    → slice_get sessions count ≡ Some session → IsUnseen v count
next-unseen sessions count replies a v session unseen turned is =
    still-unseen sessions count a v turned.adds count (omega arith) (unseen.each count (slice_get_within sessions count session is))

-- the plan with the part of one session
with_part : (ℕ → Part) → ℕ → Part → ℕ → Part
with_part plan count part n = cond (n == count) part (plan n)

at-part : (plan : ℕ → Part) (count : ℕ) (part : Part) → with_part plan count part count ≡ part
unfolding with_part
at-part plan count part = ap (λ b. cond b part (plan count)) (eq-eqb count count refl)

off-part : (plan : ℕ → Part) (count : ℕ) (part : Part) (n : ℕ) → n ≢ count → with_part plan count part n ≡ plan n
unfolding with_part
off-part plan count part n other = step (n == count) refl where
  step : (b : Bool) → (n == count) ≡ b → cond b part (plan n) ≡ plan n
  step true test = absurd (other (eqb-true n count test))
  step false test = refl

-- all sessions still stand after one more
stand-on : (sessions : List Session) (count : ℕ) (plan : ℕ → Part) (part : Part) (v w : View) (session : Session) → slice_get sessions count ≡ Some session
    → ((n : ℕ) (s : Session) → slice_get sessions n ≡ Some s → Stands v n (history_lines s.lines) (plan n)) → ((n : ℕ) (s : Session) → slice_get sessions n ≡ Some s → v.speaks n ≡ true)
    → LeavesOfThese (λ n. n ≡ count) v w → Stands w count (history_lines session.lines) part
    → (n : ℕ) (s : Session) → slice_get sessions n ≡ Some s → Stands w n (history_lines s.lines) (with_part plan count part n)
stand-on sessions count plan part v w session is stands speaks leaves own n s there = elim (cases_eq n count) [
  | inl same ↦
      let its : session ≡ s = let e = sym is ∙ ap (slice_get sessions) (sym same) ∙ there in cc in
      subst (λ (p : Part). Stands w n (history_lines s.lines) p) (sym (ap (with_part plan count part) same ∙ at-part plan count part))
      (subst (λ (x : Session). Stands w n (history_lines x.lines) part) its (subst (λ (k : ℕ). Stands w k (history_lines session.lines) part) (sym same) own))
  | inr other ↦
      subst (λ (p : Part). Stands w n (history_lines s.lines) p) (sym (off-part plan count part n other))
      (others-stand (λ m. m ≡ count) v w n (history_lines s.lines) (plan n) leaves (speaks n s there) other (stands n s there))
]

-- each that only looked and read goes on to do so, and this one too
quiet-on : (sessions : List Session) (count : ℕ) (plan : ℕ → Part) (entries : List Entry) (v w : View) (session : Session) → slice_get sessions count ≡ Some session
    → ((n : ℕ) (s : Session) → slice_get sessions n ≡ Some s → NeedNoChange (primary v.start) (plan n).entries → OnlyReads n v.seen) → ((n : ℕ) (s : Session) → slice_get sessions n ≡ Some s → v.speaks n ≡ true)
    → AddsOfThese (λ n. n ≡ count) v w → (NeedNoChange (primary w.start) entries → OnlyReads count w.seen)
    → (n : ℕ) (s : Session) → slice_get sessions n ≡ Some s → NeedNoChange (primary w.start) (with_part plan count (decided_part entries) n).entries → OnlyReads n w.seen
quiet-on sessions count plan entries v w session is quiet speaks adds own n s there need = elim (cases_eq n count) [
  | inl same ↦
      let its : with_part plan count (decided_part entries) n ≡ decided_part entries = ap (with_part plan count (decided_part entries)) same ∙ at-part plan count (decided_part entries) in
      subst (λ (k : ℕ). OnlyReads k w.seen) (sym same) (own (subst (λ (p : Part). NeedNoChange (primary w.start) p.entries) its need))
  | inr other ↦
      let its : with_part plan count (decided_part entries) n ≡ plan n = off-part plan count (decided_part entries) n other in
      let before : NeedNoChange (primary v.start) (plan n).entries =
      subst (λ (t : Tables). NeedNoChange (primary t) (plan n).entries) (ap (λ (x : View). x.start) adds.is) (subst (λ (p : Part). NeedNoChange (primary w.start) p.entries) its need) in
      subst (λ (x : View). OnlyReads n x.seen) (sym adds.is)
      (others-more n adds.more v.seen (others-of v.speaks (λ m. m ≡ count) n adds.more (speaks n s there) other adds.own) (quiet n s there before))
]

turned-speaks : (sessions : List Session) (count : ℕ) (a v : View) → AreUnseen a (length sessions) → AddsOfThese (λ n. n < count) a v → (n : ℕ) (s : Session) → slice_get sessions n ≡ Some s
    → v.speaks n ≡ true
turned-speaks sessions count a v unseen adds n s is = ap (λ (w : View). w.speaks n) adds.is ∙ (unseen.each n (slice_get_within sessions n s is)).speaks

pub turned-next : (sessions : List Session) (count : ℕ) (replies : List SessionReplies) (a v w : View) (session : Session) (own : SessionReplies) → AreUnseen a (length sessions)
    → HaveTurned sessions count replies a v → slice_get sessions count ≡ Some session → HasRunSession count (history_lines session.lines) own.replies v w
    → HaveTurned sessions (suc count) (replies ++ own ∷ []) a w
turned-next sessions count replies a v w session own unseen turned is ran =
    let part : Part = decided_part ran.stands.entries in
    let goes = stand-on sessions count turned.plan part v w session is turned.stands (turned-speaks sessions count a v unseen turned.adds) (adds-leaves (λ n. n ≡ count) v w ran.adds) ran.stands.stands in
    record {
      adds = adds-then (λ n. n < suc count) a v w (adds-more (λ n. n < count) (λ n. n < suc count) a v (λ n below. omega (arith, below)) turned.adds)
          (adds-more (λ n. n ≡ count) (λ n. n < suc count) v w (λ n same. omega (arith, same)) ran.adds);
      plan = with_part turned.plan count part;
      stands = goes;
      quiet = quiet-on sessions count turned.plan ran.stands.entries v w session is turned.quiet (turned-speaks sessions count a v unseen turned.adds) ran.adds ran.stands.quiet;
      later = λ n past. off-part turned.plan count part n (λ same. omega (arith, same, past)) ∙ turned.later n (omega (arith, past));
      many = one-longer replies own ∙ ap suc turned.many;
      each = λ n s its there at. answered n s its there at;
    } where
      answered : (n : ℕ) (s : Session) (its : SessionReplies) → slice_get sessions n ≡ Some s → slice_get (replies ++ own ∷ []) n ≡ Some its
          → (its.replies ≡ replies_of (with_part turned.plan count (decided_part ran.stands.entries) n).entries)
          × IsComplete (history_lines s.lines) (with_part turned.plan count (decided_part ran.stands.entries) n).entries
      answered n s its there at = elim (get-split replies own n its at) [
        | inl before ↦
            let below = slice_get_within replies n its before in
            let m = turned.many in
            subst (λ (p : Part). (its.replies ≡ replies_of p.entries) × IsComplete (history_lines s.lines) p.entries)
            (sym (off-part turned.plan count (decided_part ran.stands.entries) n (λ same. omega (arith, same, below, m)))) (turned.each n s its there before)
        | inr last ↦
            let same : n ≡ count = last.0 ∙ turned.many in
            let this : session ≡ s = let e = sym is ∙ ap (slice_get sessions) (sym same) ∙ there in cc in
            subst (λ (p : Part). (its.replies ≡ replies_of p.entries) × IsComplete (history_lines s.lines) p.entries)
            (sym (ap (with_part turned.plan count (decided_part ran.stands.entries)) same ∙ at-part turned.plan count (decided_part ran.stands.entries))) (
              ap (λ (x : SessionReplies). x.replies) last.1 ∙ ran.stands.replied,
              subst (λ (x : Session). IsComplete (history_lines x.lines) ran.stands.entries) this (ap call_at ran.stands.place),
            )
      ]

-- ---- the end

follow-script : (sessions : List Session) (plan : ℕ → Part) (v : View) → ((n : ℕ) → length sessions ≤ n → plan n ≡ decided_part [])
    → ((n : ℕ) (s : Session) → slice_get sessions n ≡ Some s → Stands v n (history_lines s.lines) (plan n)) → FollowScript sessions (map_of plan) v
follow-script sessions plan v later stands = record {
  known = λ who past. ap (λ (p : Part). slice_get (made_in p) who.index) (later who.session past);
  each = λ n s is. follows-lines v plan n (history_lines s.lines) (stands n s is);
}

pub turned-all : (sessions : List Session) (replies : List SessionReplies) (a v : View) → HaveTurned sessions (length sessions) replies a v → HaveRun sessions replies a v
turned-all sessions replies a v turned = record {
  adds = turned.adds;
  calls = map_of turned.plan;
  follow = follow-script sessions turned.plan v turned.later turned.stands;
  many = turned.many;
  each = λ n s own is there.
      let are = (turned.stands n s is).are (map_of turned.plan) (knows-own turned.plan n) in
      let said = turned.each n s own is there in
      record {
        are = said.0 ∙ ap replies_of (sym are);
        complete = subst (IsComplete (history_lines s.lines)) (sym are) said.1;
        quiet = λ need. turned.quiet n s is (subst (NeedNoChange (primary v.start)) are need);
      };
}

pub turned-stops : (sessions : List Session) (count : ℕ) (replies : List SessionReplies) (a v w : View) (session : Session) → AreUnseen a (length sessions)
    → HaveTurned sessions count replies a v → slice_get sessions count ≡ Some session → HasStoppedSession count (history_lines session.lines) v w → HaveStopped sessions a w
turned-stops sessions count replies a v w session unseen turned is stopped =
    let part = stopped.stands.part in
    let below = slice_get_within sessions count session is in
    let plan = with_part turned.plan count part in
    record {
      adds = leaves-then (λ n. n < length sessions) a v w (adds-more (λ n. n < count) (λ n. n < length sessions) a v (λ n less. omega (arith, less, below)) turned.adds)
          (leaves-more (λ n. n ≡ count) (λ n. n < length sessions) v w (λ n same. omega (arith, same, below)) stopped.adds);
      calls = map_of (with_part turned.plan count part);
      follow = follow-script sessions (with_part turned.plan count part) w
          (λ n past. off-part turned.plan count part n (λ same. omega (arith, same, past, below)) ∙ turned.later n (omega (arith, past, below)))
          (stand-on sessions count turned.plan part v w session is turned.stands (turned-speaks sessions count a v unseen turned.adds) stopped.adds stopped.stands.stands);
    }

-- a session that ran has also stopped
pub ran-stopped : (session : ℕ) (lines : List Line) (replies : List Reply) (a b : View) → HasRunSession session lines replies a b → HasStoppedSession session lines a b
ran-stopped session lines replies a b ran = record {
  adds = adds-leaves (λ n. n ≡ session) a b ran.adds;
  stands = record { part = decided_part ran.stands.entries; stands = ran.stands.stands };
}

-- a session that ran, and for whose replies there was no memory
pub unkept-stops : (sessions : List Session) (count : ℕ) (replies : List SessionReplies) (own : List Reply) (a v w : View) (session : Session) → AreUnseen a (length sessions)
    → HaveTurned sessions count replies a v → slice_get sessions count ≡ Some session → HasRunSession count (history_lines session.lines) own v w → HaveStopped sessions a w
unkept-stops sessions count replies own a v w session unseen turned is ran =
    turned-stops sessions count replies a v w session unseen turned is (ran-stopped count (history_lines session.lines) own v w ran)

pub turned-end : (sessions items : List Session) (count : ℕ) (replies : List SessionReplies) (a v : View) → items ≡ sessions → count ≤ length items → length items ≤ count
    → HaveTurned sessions count replies a v → HaveRun sessions replies a v
turned-end sessions items count replies a v same low high turned =
    let long : length items ≡ length sessions = ap length same in
    let all : count ≡ length sessions = omega (arith, low, high, long) in
    turned-all sessions replies a v (subst (λ (n : ℕ). HaveTurned sessions n replies a v) all turned)

-- where a port speaks for all sessions and has seen nothing before, every session has conduct
pub all-conduct : (sessions : List Session) (calls : Who → Option Call) (a v : View) → ((n : ℕ) → a.speaks n ≡ true) → a.seen ≡ [] → LeavesOfThese (λ n. n < length sessions) a v
    → FollowScript sessions calls v → AllConduct v.upstream v.start calls v.seen
all-conduct sessions calls a v speaks fresh leaves follow n = elim ((slice_get_cases sessions n).1) [
  | inl one ↦ (follow.each n one.0 one.2).conduct
  | inr past ↦ none-conduct v.upstream v.start calls n v.seen
      (subst (λ (es : List Event). AreOfOtherSessions n es) (sym seen) (others-of a.speaks (λ m. m < length sessions) n leaves.adds.more (speaks n) (λ below. omega (arith, below, past.0)) leaves.adds.own))
] where
  seen : v.seen ≡ leaves.adds.more
  seen = ap (λ (w : View). w.seen) leaves.adds.is ∙ ap (λ (es : List Event). leaves.adds.more ++ es) fresh ∙ append-nil leaves.adds.more
