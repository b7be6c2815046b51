-- The entries of a session count up.
use Rattle.std.proofs.Common.{◌≡◌, ℕ, suc, List, [], ◌∷◌, Bool, true, false, cond, ◌==◌, None, Some, is_some, refl, ap, sym, ◌∙◌, subst}
use Rattle.std.specs.declared.option.Option.{Option}
use Rattle.std.proofs.lemmas.Bool.{eqb-true}
use Rattle.cas_model.specs.declared.call.Call.{Call}
use Rattle.cas_model.specs.declared.call.Reply.{Reply}
use Rattle.cas_model.specs.declared.call.Who.{Who}
use Rattle.cas_model.specs.State.{State}
use Rattle.cas_model.specs.Step.{Entry}
use Rattle.cas_history.specs.declared.event.Event.{Event}
use Rattle.cas_model.specs.Tables.{Tables}
use Rattle.cas_history.specs.Run.{tables}
use Rattle.cas_history.specs.History.{history, decided, with_entry, with_event, count_of, of_session, CountUp}
use Rattle.cas_history.specs.Conduct.{HasConduct}
use Rattle.cas_history.specs.Theorem.{decides, next_index, InOrder}

abbrev pub Counts : ℕ → List Entry → Type 0
Counts session entries = CountUp (of_session session entries) (count_of session entries)

entry-counts : (session : ℕ) (who : Who) (call : Call) (reply : Option Reply) (earlier : List Entry) → Counts session earlier
    → (who.session ≡ session → who.index ≡ count_of session earlier) → Counts session (with_entry who call reply earlier)
entry-counts session who call None earlier counts next = counts
entry-counts session who call (Some reply) earlier counts next = step (who.session == session) refl where
  step : (b : Bool) → (who.session == session) ≡ b
      → CountUp (cond b ((record { who = who; call = call; reply = reply }) ∷ of_session session earlier) (of_session session earlier)) (cond b (suc (count_of session earlier)) (count_of session earlier))
  step true test =
      let e = next (eqb-true who.session session test) in
      (ap suc (sym e), subst (λ n. CountUp (of_session session earlier) n) (sym e) counts)
  step false test = counts

event-counts : (up : State) (s : Tables) (session : ℕ) (call : Option Call) (e : Event) (earlier : List Entry) → Counts session earlier
    → (e.note.who.session ≡ session → e.note.who.index ≡ count_of session earlier) → Counts session (with_event up s call e earlier)
event-counts up s session None e earlier counts next = counts
event-counts up s session (Some call) e earlier counts next = entry-counts session e.note.who call (decided up s call e.note.stage e.act) earlier counts next

pub count-up : (up : State) (start : Tables) (calls : Who → Option Call) (session : ℕ) (seen : List Event) → HasConduct up start calls session seen → Counts session (history up start calls seen)
count-up up start calls session [] conduct = refl
count-up up start calls session (e ∷ es) conduct =
    event-counts up (tables start es) session (calls e.note.who) e (history up start calls es) (count-up up start calls session es conduct.0) (λ same. (conduct.1 same).0)

-- ---- the index that follows is the number of entries

entry-next : (session : ℕ) (who : Who) (call : Call) (reply : Option Reply) (earlier : List Entry) (last : ℕ) → last ≡ count_of session earlier → (who.session ≡ session → who.index ≡ count_of session earlier)
    → cond (who.session == session) (cond (is_some reply) (suc who.index) who.index) last ≡ count_of session (with_entry who call reply earlier)
entry-next session who call reply earlier last is next = step (who.session == session) refl reply where
  step : (b : Bool) → (who.session == session) ≡ b → (reply : Option Reply) → cond b (cond (is_some reply) (suc who.index) who.index) last ≡ count_of session (with_entry who call reply earlier)
  step true test None = next (eqb-true who.session session test)
  step true test (Some reply) = ap suc (next (eqb-true who.session session test)) ∙ sym (ap (λ b. cond b (suc (count_of session earlier)) (count_of session earlier)) test)
  step false test None = is
  step false test (Some reply) = is ∙ sym (ap (λ b. cond b (suc (count_of session earlier)) (count_of session earlier)) test)

event-next : (up : State) (s : Tables) (session : ℕ) (call : Option Call) (e : Event) (earlier : List Entry) (last : ℕ) → last ≡ count_of session earlier
    → (e.note.who.session ≡ session → e.note.who.index ≡ count_of session earlier)
    → cond (e.note.who.session == session) (cond (decides up s call e) (suc e.note.who.index) e.note.who.index) last ≡ count_of session (with_event up s call e earlier)
event-next up s session None e earlier last is next = step (e.note.who.session == session) refl where
  step : (b : Bool) → (e.note.who.session == session) ≡ b → cond b e.note.who.index last ≡ count_of session earlier
  step true test = next (eqb-true e.note.who.session session test)
  step false test = is
event-next up s session (Some call) e earlier last is next = entry-next session e.note.who call (decided up s call e.note.stage e.act) earlier last is next

next-is : (up : State) (start : Tables) (calls : Who → Option Call) (session : ℕ) (seen : List Event) → HasConduct up start calls session seen
    → next_index up start calls session seen ≡ count_of session (history up start calls seen)
next-is up start calls session [] conduct = refl
next-is up start calls session (e ∷ es) conduct =
    event-next up (tables start es) session (calls e.note.who) e (history up start calls es) (next_index up start calls session es) (next-is up start calls session es conduct.0) (λ same. (conduct.1 same).0)

pub in-order : (up : State) (start : Tables) (calls : Who → Option Call) (session : ℕ) (seen : List Event) → HasConduct up start calls session seen → InOrder up start calls session seen
in-order up start calls session [] conduct = tt
in-order up start calls session (e ∷ es) conduct =
    (in-order up start calls session es conduct.0, λ same. (conduct.1 same).0 ∙ sym (next-is up start calls session es conduct.0))

pub order-counts : (up : State) (start : Tables) (calls : Who → Option Call) (session : ℕ) (seen : List Event) → InOrder up start calls session seen
    → next_index up start calls session seen ≡ count_of session (history up start calls seen)
order-counts up start calls session [] order = refl
order-counts up start calls session (e ∷ es) order =
    let below = order-counts up start calls session es order.0 in
    event-next up (tables start es) session (calls e.note.who) e (history up start calls es) (next_index up start calls session es) below (λ same. order.1 same ∙ below)
