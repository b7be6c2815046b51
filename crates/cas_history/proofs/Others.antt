-- What refused claims say, what a load finds, and what other sessions leave.
use Rattle.std.proofs.Common.{◌≡◌, ◌≢◌, ℕ, zero, suc, ◌+◌, ◌<◌, ◌≤◌, List, [], ◌∷◌, ◌++◌, Bool, true, false, cond, ◌==◌, None, Some, refl, ap, sym, ◌∙◌, arith, subst}
use Rattle.std.specs.declared.option.Option.{Option}
use Rattle.std.specs.Option.{option_map}
use Rattle.std.proofs.lemmas.Bool.{eqb-true}
use Rattle.cas_model.specs.declared.digest.Digest.{Digest}
use Rattle.cas_model.specs.declared.object.Object.{Object}
use Rattle.cas_model.specs.declared.call.Call.{Call}
use Rattle.cas_model.specs.declared.call.Call.TheVariants.{Load}
use Rattle.cas_model.specs.declared.note.Note.{Note}
use Rattle.cas_model.specs.declared.call.Reply.{Reply}
use Rattle.cas_model.specs.declared.call.Reply.TheVariants.{Found, Missing}
use Rattle.cas_model.specs.declared.place.Space.TheVariants.{Objects}
use Rattle.cas_model.specs.declared.note.Stage.{Stage}
use Rattle.cas_model.specs.declared.note.Stage.TheVariants.{Ref, Own, Key, Deep}
use Rattle.cas_model.specs.declared.call.Who.{Who}
use Rattle.cas_model.specs.Object.{object_digest}
use Rattle.cas_model.specs.State.{State}
use Rattle.cas_model.specs.Step.{Entry}
use Rattle.cas_history.specs.declared.event.Act.{Act}
use Rattle.cas_history.specs.declared.event.Act.TheVariants.{Look, Bind, Read, Claim, Room, Fill}
use Rattle.cas_history.specs.declared.event.Event.{Event}
use Rattle.cas_model.specs.Tables.{Tables, place_of, cell_of}
use Rattle.cas_history.specs.Run.{tables, after_act}
use Rattle.cas_history.specs.Lawful.{IsLawfulRun}
use Rattle.cas_model.specs.Primary.{object_in, object_under}
use Rattle.cas_history.specs.History.{history, decided, with_entry, with_event, count_of, of_session, events_of, read_by, is_absent, loaded}
use Rattle.cas_history.specs.Conduct.{MayMake, HasConduct, CallOpen, MayAct, MayLoad, IsAbout}
use Rattle.cas_history.specs.Cost.{asked_by, asked_by_all}
use Rattle.cas_history.specs.Laws.{AreOfOtherSessions}
use Rattle.cas_history.proofs.Grown.{size-same, bound-counter, filled-counter}
use Rattle.cas_model.proofs.Maps.{get-object}
use Rattle.cas_history.proofs.Promised.{where-is}
use Rattle.cas_history.proofs.Sound.{sound-run}
use Rattle.cas_history.proofs.Under.{storable}
use Rattle.cas_history.proofs.Visible.{read-shows}

-- ---- the counter is at most what was asked

moved-most : (moved : Bool) (a n : ℕ) → cond moved (a + n) a ≤ a + n
moved-most true a n = omega arith
moved-most false a n = omega arith

act-counter : (s : Tables) (who : Who) (act : Act) → (after_act s who act).counter ≤ s.counter + asked_by act
act-counter s who (Look space digest) = omega arith
act-counter s who (Bind space digest own) = let e = bound-counter s space digest (place_of s.bound space digest) own in omega (arith, e)
act-counter s who (Read cell) = omega arith
act-counter s who (Claim n) = omega arith
act-counter s who (Room n moved) = moved-most moved s.counter n
act-counter s who (Fill cell value words) = let e = filled-counter s (cell_of s.filled cell.at) cell value words in omega (arith, e)

pub counter-asked : (start : Tables) (seen : List Event) → (tables start seen).counter ≤ start.counter + asked_by_all seen
counter-asked start [] = omega arith
counter-asked start (e ∷ es) =
    let below = counter-asked start es in
    let here = act-counter (tables start es) e.note.who e.act in
    omega (arith, below, here)

pub room-asked : (up : State) (start : Tables) (note : Note) (n : ℕ) (moved : Bool) (seen : List Event) → IsLawfulRun up start (record { note = note; act = Room n moved } ∷ seen)
    → start.size < start.counter + n + asked_by_all seen
room-asked up start note n moved seen lawful =
    let below = counter-asked start seen in
    let same = size-same up start seen lawful.0 in
    omega (arith, below, same, lawful.1.1)

-- ---- what a load finds

pub found-named : (up : State) (start : Tables) (seen : List Event) (who : Who) (d : Digest) (stage : Stage) (act : Act) (o : Object) → IsLawfulRun up start seen
    → MayAct up start seen who (Load d) stage act → decided up (tables start seen) (Load d) stage act ≡ Some (Found o) → object_digest o ≡ d
found-named up start seen who d (Ref i) act o lawful may is = absurd may
found-named up start seen who d Key act o lawful may is = absurd may
found-named up start seen who d Deep (Look space k) o lawful may is = cc
found-named up start seen who d Deep (Bind space k own) o lawful may is = cc
found-named up start seen who d Deep (Read cell) o lawful may is = cc
found-named up start seen who d Deep (Claim n) o lawful may is = cc
found-named up start seen who d Deep (Room n moved) o lawful may is = cc
found-named up start seen who d Deep (Fill cell value words) o lawful may is = cc
found-named up start seen who d Own act o lawful may is = by_act act may is where
  named : (act : Act) → IsAbout (tables start seen) Objects d act → (n : ℕ) → read_by (tables start seen) act ≡ n → loaded up (tables start seen) d act n ≡ Some (Found o) → object_digest o ≡ d
  named act about zero shown is = let e : Missing ≡ Found o = where-is (is_absent up (tables start seen) act d) Missing (Found o) is in cc
  named act about (suc n) shown is = step (object_in (tables start seen) (suc n)) refl is where
    some : 0 < read_by (tables start seen) act
    some = omega (arith, shown)

    step : (found : Option Object) → object_in (tables start seen) (suc n) ≡ found → option_map (λ x. Found x) found ≡ Some (Found o) → object_digest o ≡ d
    step None there is = cc
    step (Some x) there is =
        let same : x ≡ o = cc in
        let cell = read-shows (tables start seen) Objects d act about some in
        let under : object_under (tables start seen) d ≡ Some x = ap (object_in (tables start seen)) (cell ∙ shown) ∙ there in
        (storable (tables start seen) (sound-run up start seen lawful)).named d o (get-object (tables start seen) d ∙ under ∙ ap (λ y. Some y) same)

  by_act : (act : Act) → MayLoad start seen d act → decided up (tables start seen) (Load d) Own act ≡ Some (Found o) → object_digest o ≡ d
  by_act (Look space k) may is = named (Look space k) may.0 0 refl is
  by_act (Read cell) may is = named (Read cell) may.0 (cell_of (tables start seen).filled cell.at) refl is
  by_act (Bind space k own) may is = cc
  by_act (Claim n) may is = cc
  by_act (Room n moved) may is = absurd may.1
  by_act (Fill cell value words) may is = absurd may.1

-- ---- other sessions

other-count : (session : ℕ) (who : Who) (call : Call) (reply : Option Reply) (earlier : List Entry) → who.session ≢ session → count_of session (with_entry who call reply earlier) ≡ count_of session earlier
other-count session who call None earlier other = refl
other-count session who call (Some reply) earlier other = step (who.session == session) refl where
  step : (b : Bool) → (who.session == session) ≡ b → cond b (suc (count_of session earlier)) (count_of session earlier) ≡ count_of session earlier
  step true test = absurd (other (eqb-true who.session session test))
  step false test = refl

event-count : (up : State) (s : Tables) (session : ℕ) (call : Option Call) (e : Event) (earlier : List Entry) → e.note.who.session ≢ session → count_of session (with_event up s call e earlier) ≡ count_of session earlier
event-count up s session None e earlier other = refl
event-count up s session (Some call) e earlier other = other-count session e.note.who call (decided up s call e.note.stage e.act) earlier other

pub others-conduct : (up : State) (start : Tables) (calls : Who → Option Call) (session : ℕ) (more seen : List Event) → AreOfOtherSessions session more
    → HasConduct up start calls session seen → HasConduct up start calls session (more ++ seen)
others-conduct up start calls session [] seen others conduct = conduct
others-conduct up start calls session (e ∷ es) seen others conduct = (others-conduct up start calls session es seen others.1 conduct, λ same. absurd (others.0 same))

others-count : (up : State) (start : Tables) (calls : Who → Option Call) (session : ℕ) (more seen : List Event) → AreOfOtherSessions session more
    → count_of session (history up start calls (more ++ seen)) ≡ count_of session (history up start calls seen)
others-count up start calls session [] seen others = refl
others-count up start calls session (e ∷ es) seen others =
    event-count up (tables start (es ++ seen)) session (calls e.note.who) e (history up start calls (es ++ seen)) others.0 ∙ others-count up start calls session es seen others.1

pub others-leave : (up : State) (start : Tables) (calls : Who → Option Call) (who : Who) (more seen : List Event) → AreOfOtherSessions who.session more
    → CallOpen up start calls who seen → CallOpen up start calls who (more ++ seen)
others-leave up start calls who more seen others open_ = record {
  conduct = others-conduct up start calls who.session more seen others open_.conduct;
  next = open_.next ∙ sym (others-count up start calls who.session more seen others);
}

-- a test of another session fails
other-branch : {X : Type 0} (a b : ℕ) (x y : X) → a ≢ b → cond (a == b) x y ≡ y
other-branch {X} a b x y other = step (a == b) refl where
  step : (t : Bool) → (a == b) ≡ t → cond t x y ≡ y
  step true test = absurd (other (eqb-true a b test))
  step false test = refl

other-entries : (up : State) (s : Tables) (session : ℕ) (call : Option Call) (e : Event) (earlier : List Entry) → e.note.who.session ≢ session
    → of_session session (with_event up s call e earlier) ≡ of_session session earlier
other-entries up s session None e earlier other = refl
other-entries up s session (Some call) e earlier other = step (decided up s call e.note.stage e.act) where
  step : (reply : Option Reply) → of_session session (with_entry e.note.who call reply earlier) ≡ of_session session earlier
  step None = refl
  step (Some reply) = other-branch e.note.who.session session (record { who = e.note.who; call = call; reply = reply } ∷ of_session session earlier) (of_session session earlier) other

pub others-events : (session : ℕ) (more seen : List Event) → AreOfOtherSessions session more → events_of session (more ++ seen) ≡ events_of session seen
others-events session [] seen others = refl
others-events session (e ∷ es) seen others =
    other-branch e.note.who.session session (e ∷ events_of session (es ++ seen)) (events_of session (es ++ seen)) others.0 ∙ others-events session es seen others.1

pub others-entries : (up : State) (start : Tables) (calls : Who → Option Call) (session : ℕ) (more seen : List Event) → AreOfOtherSessions session more
    → of_session session (history up start calls (more ++ seen)) ≡ of_session session (history up start calls seen)
others-entries up start calls session [] seen others = refl
others-entries up start calls session (e ∷ es) seen others =
    other-entries up (tables start (es ++ seen)) session (calls e.note.who) e (history up start calls (es ++ seen)) others.0 ∙ others-entries up start calls session es seen others.1

-- ---- the call's own events

pub events-keep : (up : State) (start : Tables) (calls : Who → Option Call) (note : Note) (call : Call) (act : Act) (seen : List Event) → calls note.who ≡ Some call
    → MayAct up start seen note.who call note.stage act → CallOpen up start calls note.who seen
    → HasConduct up start calls note.who.session (record { note = note; act = act } ∷ seen)
    × (decided up (tables start seen) call note.stage act ≡ None → CallOpen up start calls note.who (record { note = note; act = act } ∷ seen))
events-keep up start calls note call act seen is may open_ = (keeps, λ quiet. record { conduct = keeps; next = stays quiet }) where
  keeps : HasConduct up start calls note.who.session (record { note = note; act = act } ∷ seen)
  keeps = (open_.conduct, λ same. (open_.next, subst (λ (c : Option Call). MayMake up start seen c (record { note = note; act = act })) (sym is) may))

  stays : decided up (tables start seen) call note.stage act ≡ None → note.who.index ≡ count_of note.who.session (history up start calls (record { note = note; act = act } ∷ seen))
  stays quiet =
      subst (λ (c : Option Call). note.who.index ≡ count_of note.who.session (with_event up (tables start seen) c (record { note = note; act = act }) (history up start calls seen))) (sym is)
      (subst (λ (r : Option Reply). note.who.index ≡ count_of note.who.session (with_entry note.who call r (history up start calls seen))) (sym quiet) open_.next)
