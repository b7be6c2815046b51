-- The calls of a session by their places, and how a session's entries grow.
use Rattle.std.proofs.Common.{◌≡◌, ◌≢◌, ℕ, zero, suc, ◌+◌, ◌≤◌, ◌==◌, ◌&&◌, ◌⊎◌, inl, inr, List, [], ◌∷◌, ◌++◌, Bool, true, false, cond, length, slice_get, None, Some, refl, ap, sym, ◌∙◌, subst, append-nil, zero-add, arith}
use Rattle.std.specs.declared.option.Option.{Option}
use Rattle.std.proofs.lemmas.Bool.{eqb-true, eq-eqb}
use Rattle.cas_model.specs.declared.call.Call.{Call}
use Rattle.cas_model.specs.declared.call.Reply.{Reply}
use Rattle.cas_model.specs.declared.call.Who.{Who}
use Rattle.cas_model.specs.State.{State}
use Rattle.cas_model.specs.Step.{Entry}
use Rattle.cas_model.specs.Tables.{Tables}
use Rattle.cas_history.specs.declared.event.Event.{Event}
use Rattle.cas_history.specs.Conduct.{CallOpen, HasConduct, same_who}
use Rattle.cas_history.specs.Cost.{asked, asked_by, IsWithinCost}
use Rattle.cas_history.specs.History.{history, decided, count_of, of_session, with_entry, with_event}
use Rattle.cas_history.specs.Laws.{AreOfOtherSessions}
use Rattle.cas_history.specs.Run.{tables}
use Rattle.cas_history.proofs.Others.{others-conduct, others-entries}
use Rattle.graph_db.specs.Events.{AreOf, CallDecided}
use Rattle.sessions.specs.Standing.{calls_of, Knows}
use Rattle.sessions.specs.Turns.{call_number, replies_of}

-- ---- lists

pub get-before : {X : Type 0} (xs ys : List X) (i : ℕ) (x : X) → slice_get xs i ≡ Some x → slice_get (xs ++ ys) i ≡ Some x
get-before [] ys i x h = cc
get-before (a ∷ xs) ys zero x h = h
get-before (a ∷ xs) ys (suc i) x h = get-before xs ys i x h

pub get-last : {X : Type 0} (xs : List X) (x : X) → slice_get (xs ++ x ∷ []) (length xs) ≡ Some x
get-last [] x = refl
get-last (a ∷ xs) x = get-last xs x

pub get-split : {X : Type 0} (xs : List X) (y : X) (i : ℕ) (x : X) → slice_get (xs ++ y ∷ []) i ≡ Some x → (slice_get xs i ≡ Some x) ⊎ ((i ≡ length xs) × (x ≡ y))
get-split [] y zero x h = inr (refl, cc)
get-split [] y (suc i) x h = cc
get-split (a ∷ xs) y zero x h = inl h
get-split (a ∷ xs) y (suc i) x h = elim (get-split xs y i x h) [ inl before ↦ inl before | inr last ↦ inr (ap suc last.0, last.1) ]

pub one-longer : {X : Type 0} (xs : List X) (x : X) → length (xs ++ x ∷ []) ≡ suc (length xs)
one-longer [] x = refl
one-longer (a ∷ xs) x = ap suc (one-longer xs x)

rest : {X : Type 0} → List X → List X
rest [] = []
rest (x ∷ xs) = xs

longer : {X : Type 0} (ys zs : List X) → length (ys ++ zs) ≡ length ys + length zs
longer [] zs = sym (zero-add (length zs))
longer (y ∷ ys) zs = let e = longer ys zs in omega (arith, e)

-- a list that goes on from another of the same length is that list
pub no-more : {X : Type 0} (xs ys zs : List X) → xs ≡ ys ++ zs → length xs ≡ length zs → xs ≡ zs
no-more xs [] zs is same = is
no-more xs (y ∷ ys) zs is same = absurd (let e = ap length is in let l = longer ys zs in omega (arith, e, l, same))

-- and one that is longer by one has it as its rest
pub one-more : {X : Type 0} (x : X) (xs ys zs : List X) → x ∷ xs ≡ ys ++ zs → length xs ≡ length zs → xs ≡ zs
unfolding rest
one-more x xs [] zs is same = absurd (let e = ap length is in omega (arith, e, same))
one-more x xs (y ∷ ys) zs is same = no-more xs ys zs (ap rest is) same

-- ---- calls and replies of entries

pub calls-many : (es : List Entry) → length (calls_of es) ≡ length es
calls-many [] = refl
calls-many (e ∷ es) = one-longer (calls_of es) e.call ∙ ap suc (calls-many es)

pub replies-many : (es : List Entry) → length (replies_of es) ≡ length es
replies-many [] = refl
replies-many (e ∷ es) = one-longer (replies_of es) e.reply ∙ ap suc (replies-many es)

-- a map that knows one call more knows the calls before it, and it
pub knows-before : (calls : Who → Option Call) (session : ℕ) (made : List Call) (call : Call) → Knows calls session (made ++ call ∷ []) → Knows calls session made
knows-before calls session made call knows = record { is = λ i x h. knows.is i x (get-before made (call ∷ []) i x h) }

pub knows-last : (calls : Who → Option Call) (session : ℕ) (made : List Call) (call : Call) → Knows calls session (made ++ call ∷ []) → calls (call_number session (length made)) ≡ Some call
knows-last calls session made call knows = knows.is (length made) call (get-last made call)

-- ---- a session's entries

-- how many entries a session has
pub counted : (session : ℕ) (entries : List Entry) → count_of session entries ≡ length (of_session session entries)
counted session [] = refl
counted session (entry ∷ earlier) = step (entry.who.session == session) (counted session earlier) where
  step : (b : Bool) → count_of session earlier ≡ length (of_session session earlier)
      → cond b (suc (count_of session earlier)) (count_of session earlier) ≡ length (cond b (entry ∷ of_session session earlier) (of_session session earlier))
  step true again = ap suc again
  step false again = again

entry-more : (session : ℕ) (who : Who) (call : Call) (reply : Option Reply) (earlier known : List Entry)
    → (some : List Entry) × (of_session session earlier ≡ some ++ known) → (some : List Entry) × (of_session session (with_entry who call reply earlier) ≡ some ++ known)
entry-more session who call None earlier known before = before
entry-more session who call (Some reply) earlier known before = step (who.session == session) where
  step : (b : Bool) → (some : List Entry) × (cond b ((record { who = who; call = call; reply = reply }) ∷ of_session session earlier) (of_session session earlier) ≡ some ++ known)
  step true = ((record { who = who; call = call; reply = reply }) ∷ before.0, ap (λ (es : List Entry). (record { who = who; call = call; reply = reply }) ∷ es) before.1)
  step false = before

event-more : (up : State) (s : Tables) (session : ℕ) (call : Option Call) (e : Event) (earlier known : List Entry)
    → (some : List Entry) × (of_session session earlier ≡ some ++ known) → (some : List Entry) × (of_session session (with_event up s call e earlier) ≡ some ++ known)
event-more up s session None e earlier known before = before
event-more up s session (Some call) e earlier known before = entry-more session e.note.who call (decided up s call e.note.stage e.act) earlier known before

-- more events leave the entries, and may add some
pub grown : (up : State) (start : Tables) (calls : Who → Option Call) (session : ℕ) (more seen : List Event)
    → (some : List Entry) × (of_session session (history up start calls (more ++ seen)) ≡ some ++ of_session session (history up start calls seen))
grown up start calls session [] seen = ([], refl)
grown up start calls session (e ∷ es) seen =
    event-more up (tables start (es ++ seen)) session (calls e.note.who) e (history up start calls (es ++ seen)) (of_session session (history up start calls seen))
    (grown up start calls session es seen)

own-entry : (entry : Entry) (earlier : List Entry) → of_session entry.who.session (entry ∷ earlier) ≡ entry ∷ of_session entry.who.session earlier
own-entry entry earlier =
    ap (λ b. cond b (entry ∷ of_session entry.who.session earlier) (of_session entry.who.session earlier)) (eq-eqb entry.who.session entry.who.session refl)

-- a call that is decided has added its entry alone
pub decided-adds : (up : State) (start : Tables) (calls : Who → Option Call) (who : Who) (call : Call) (reply : Reply) (more seen : List Event)
    → CallOpen up start calls who seen → CallDecided up start calls who call reply (more ++ seen)
    → of_session who.session (history up start calls (more ++ seen)) ≡ (record { who = who; call = call; reply = reply }) ∷ of_session who.session (history up start calls seen)
decided-adds up start calls who call reply more seen opened done =
    let entry : Entry = record { who = who; call = call; reply = reply } in
    let first = ap (of_session who.session) done.entries ∙ own-entry entry done.earlier in
    let more_is = grown up start calls who.session more seen in
    let long = sym (ap length first) ∙ sym (counted who.session (history up start calls (more ++ seen))) ∙ sym done.next in
    let was = opened.next ∙ counted who.session (history up start calls seen) in
    let same : length (of_session who.session done.earlier) ≡ length (of_session who.session (history up start calls seen)) = omega (arith, long, was) in
    first ∙ ap (λ (es : List Entry). entry ∷ es) (one-more entry (of_session who.session done.earlier) more_is.0 (of_session who.session (history up start calls seen)) (sym first ∙ more_is.1) same)

-- a call that is still open has added none
pub opened-adds : (up : State) (start : Tables) (calls : Who → Option Call) (who : Who) (more seen : List Event)
    → CallOpen up start calls who seen → CallOpen up start calls who (more ++ seen)
    → of_session who.session (history up start calls (more ++ seen)) ≡ of_session who.session (history up start calls seen)
opened-adds up start calls who more seen opened still =
    let more_is = grown up start calls who.session more seen in
    let one = still.next ∙ counted who.session (history up start calls (more ++ seen)) in
    let two = opened.next ∙ counted who.session (history up start calls seen) in
    no-more (of_session who.session (history up start calls (more ++ seen))) more_is.0 (of_session who.session (history up start calls seen)) more_is.1 (sym one ∙ two)

-- ---- what calls ask for

not-same : (speaks : ℕ → Bool) (a b : ℕ) → speaks a ≡ false → speaks b ≡ true → a ≢ b
not-same speaks a b no_ yes_ same = let e = ap speaks same in cc

other-session : (him who : Who) → him.session ≢ who.session → same_who him who ≡ false
other-session him who other = step (him.session == who.session) refl where
  step : (b : Bool) → (him.session == who.session) ≡ b → (b && (him.index == who.index)) ≡ false
  step true test = absurd (other (eqb-true him.session who.session test))
  step false test = refl

other-index : (him who : Who) → him.index ≢ who.index → same_who him who ≡ false
other-index him who other = step (him.session == who.session) (him.index == who.index) refl where
  step : (a b : Bool) → (him.index == who.index) ≡ b → (a && b) ≡ false
  step a true test = absurd (other (eqb-true him.index who.index test))
  step true false test = refl
  step false false test = refl

not-asked : (who : Who) (e : Event) (seen : List Event) → same_who e.note.who who ≡ false → asked who (e ∷ seen) ≡ asked who seen
not-asked who e seen other = ap (λ b. cond b (asked_by e.act) 0 + asked who seen) other ∙ zero-add (asked who seen)

-- other sessions' events ask nothing for a call
pub asked-others : (who : Who) (more seen : List Event) → AreOfOtherSessions who.session more → asked who (more ++ seen) ≡ asked who seen
asked-others who [] seen others = refl
asked-others who (e ∷ es) seen others = not-asked who e (es ++ seen) (other-session e.note.who who others.0) ∙ asked-others who es seen others.1

-- nor do the events of another call of its session
pub asked-beside : (speaks : ℕ → Bool) (session i j : ℕ) (more seen : List Event) → AreOf speaks (call_number session i) more → speaks session ≡ true → j ≢ i
    → asked (call_number session j) (more ++ seen) ≡ asked (call_number session j) seen
asked-beside speaks session i j [] seen own mine other = refl
asked-beside speaks session i j (e ∷ es) seen own mine other = not-asked (call_number session j) e (es ++ seen) (differs own.0) ∙ asked-beside speaks session i j es seen own.1 mine other where
  differs : ((speaks e.note.who.session ≡ false) ⊎ (e.note.who ≡ call_number session i)) → same_who e.note.who (call_number session j) ≡ false
  differs (inl foreign) = other-session e.note.who (call_number session j) (not-same speaks e.note.who.session session foreign mine)
  differs (inr own_) =
      subst (λ (w : Who). same_who w (call_number session j) ≡ false) (sym own_) (other-index (call_number session i) (call_number session j) (λ same. other (sym same)))

-- less is within the cost too
pub within-less : (up : State) (call : Call) (few many : ℕ) → few ≤ many → IsWithinCost up call many → IsWithinCost up call few
within-less up call few many less h = record { rows = h.rows; tree = h.tree; most = omega (arith, less, h.most) }

-- ---- a session that has not begun

pub none-conduct : (up : State) (start : Tables) (calls : Who → Option Call) (session : ℕ) (seen : List Event) → AreOfOtherSessions session seen → HasConduct up start calls session seen
none-conduct up start calls session seen others =
    subst (HasConduct up start calls session) (append-nil seen) (others-conduct up start calls session seen [] others tt)

pub none-entries : (up : State) (start : Tables) (calls : Who → Option Call) (session : ℕ) (seen : List Event) → AreOfOtherSessions session seen
    → of_session session (history up start calls seen) ≡ []
none-entries up start calls session seen others =
    subst (λ (es : List Event). of_session session (history up start calls es) ≡ []) (append-nil seen) (others-entries up start calls session seen [] others)

pub none-asked : (who : Who) (seen : List Event) → AreOfOtherSessions who.session seen → asked who seen ≡ 0
none-asked who seen others = subst (λ (es : List Event). asked who es ≡ 0) (append-nil seen) (asked-others who seen [] others)
