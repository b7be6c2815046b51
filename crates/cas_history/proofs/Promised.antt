-- What a reply says is there is whole in the primary state, from its event on.
use Rattle.std.proofs.Common.{◌≡◌, ℕ, zero, suc, ◌<◌, List, [], ◌∷◌, ◌++◌, Bool, true, false, cond, ◌⊎◌, inl, inr, None, Some, refl, ap, sym, ◌∙◌, subst, arith}
use Rattle.std.specs.Prelude.{slice_get}
use Rattle.std.specs.declared.option.Option.{Option}
use Rattle.std.specs.Option.{option_map}
use Rattle.std.proofs.lemmas.Bool.{eq-eqb}
use Rattle.cas_model.specs.declared.digest.Digest.{Digest}
use Rattle.cas_model.specs.declared.object.Object.{Object}
use Rattle.cas_model.specs.declared.call.Call.{Call}
use Rattle.cas_model.specs.declared.call.Call.TheVariants.{Store, Load, Put, Get}
use Rattle.cas_model.specs.declared.place.Place.{Place}
use Rattle.cas_model.specs.declared.call.Reply.{Reply}
use Rattle.cas_model.specs.declared.call.Reply.TheVariants.{Stored, Found, Missing, Kept, Hit, Miss, Dangling, Full}
use Rattle.cas_model.specs.declared.place.Space.{Space}
use Rattle.cas_model.specs.declared.place.Space.TheVariants.{Objects, Actions}
use Rattle.cas_model.specs.declared.note.Stage.{Stage}
use Rattle.cas_model.specs.declared.note.Stage.TheVariants.{Ref, Own, Key, Deep}
use Rattle.cas_model.specs.declared.call.Who.{Who}
use Rattle.cas_model.specs.Object.{object_digest}
use Rattle.cas_model.specs.State.{State, has, HasAll, IsClosed, Member, Leads, Whole}
use Rattle.cas_history.specs.Answers.{fill_answer}
use Rattle.cas_history.specs.declared.event.Act.{Act}
use Rattle.cas_history.specs.declared.event.Act.TheVariants.{Look, Bind, Read, Claim, Room, Fill}
use Rattle.cas_history.specs.declared.event.Event.{Event}
use Rattle.cas_model.specs.Tables.{Tables, place_of, cell_of, digest_at}
use Rattle.cas_history.specs.Run.{tables, after_act, filled_by, primary_of}
use Rattle.cas_history.specs.Lawful.{IsLawfulRun, MayHappen}
use Rattle.cas_model.specs.Primary.{cell_at, cell_under, object_in, primary}
use Rattle.cas_history.specs.History.{decided, decided_at, read_by, left_by, value_left, reply_where, reply_with, is_absent, dangling, loaded, got}
use Rattle.cas_history.specs.Conduct.{HasConduct, MayAct, MayMake, IsAbout}
use Rattle.cas_history.specs.Theorem.{Promises}
use Rattle.cas_history.proofs.Grown.{Grows, grows-act, grows-more}
use Rattle.cas_history.proofs.Sound.{IsSound, sound-run, sound-act}
use Rattle.cas_history.proofs.Under.{IsKept, kept-cases, filled-has, closed}
use Rattle.cas_history.proofs.Visible.{read-shows, cell-has, has-stays}

-- ---- a closed state has the whole of what it has

member-has : (s : State) (d : Digest) (ds : List Digest) → HasAll s ds → Member d ds → has s d ≡ true
member-has s d [] all there = absurd there
member-has s d (x ∷ xs) all (inl e) = subst (λ (y : Digest). has s y ≡ true) e all.0
member-has s d (x ∷ xs) all (inr there) = member-has s d xs all.1 there

pub closed-whole : (s : State) → IsClosed s → (path : List Digest) (d to : Digest) → has s d ≡ true → Leads s path d to → has s to ≡ true
closed-whole s is [] d to there leads = subst (λ (y : Digest). has s y ≡ true) leads there
closed-whole s is (next ∷ path) d to there leads =
    let refers = leads.0 in
    closed-whole s is path next to (member-has s next refers.0.refs (is.objects d refers.0 refers.1) refers.2) leads.1

-- ---- what an event leaves in a cell

fill-leaves : (s : Tables) (had : ℕ) (cell : Place) (value : ℕ) (words : List ℕ) → cell_of s.filled cell.at ≡ had → cell_of (filled_by s had cell value words).filled cell.at ≡ value_left (fill_answer had value)
fill-leaves s (suc had) cell value words is = is
fill-leaves s zero cell value words is = ap (λ b. cond b value (cell_of s.filled cell.at)) (eq-eqb cell.at cell.at refl)

fill-bound : (s : Tables) (had : ℕ) (cell : Place) (value : ℕ) (words : List ℕ) → (filled_by s had cell value words).bound ≡ s.bound
fill-bound s (suc had) cell value words = refl
fill-bound s zero cell value words = refl

-- after a read or a fill the digest's cell has what the act left
pub record HasLeft (s t : Tables) (space : Space) (d : Digest) (n : ℕ) : Type 0 where
  pub cell : cell_under t space d ≡ n
  pub bound : t.bound ≡ s.bound

left-shows : (s : Tables) (who : Who) (space : Space) (d : Digest) (act : Act) → IsAbout s space d act → 0 < left_by s act → HasLeft s (after_act s who act) space d (left_by s act)
left-shows s who space d (Read cell) about h = record { cell = ap (cell_at s.filled) about; bound = refl }
left-shows s who space d (Fill cell value words) about h =
    let had = cell_of s.filled cell.at in
    let same : (filled_by s (cell_of s.filled cell.at) cell value words).bound ≡ s.bound = fill-bound s (cell_of s.filled cell.at) cell value words in
    record {
      cell = ap (cell_at (filled_by s (cell_of s.filled cell.at) cell value words).filled) ((λ i. place_of (same i) space d) ∙ about) ∙ fill-leaves s (cell_of s.filled cell.at) cell value words refl;
      bound = same;
    }
left-shows s who space d (Look its k) about h = absurd (omega (arith, h))
left-shows s who space d (Bind its k own) about h = absurd (omega (arith, h))
left-shows s who space d (Claim n) about h = absurd (omega (arith, h))
left-shows s who space d (Room n moved) about h = absurd (omega (arith, h))

-- a key's cell that is filled names an object that is there
kept-has : (s t : Tables) (k : Digest) (n : ℕ) → IsSound t → HasLeft s t Actions k n → 0 < n → has (primary t) (digest_at s.bound n) ≡ true
kept-has s t k n sound left some = step (kept-cases t k sound) where
  step : (cell_under t Actions k ≡ 0) ⊎ IsKept t k → has (primary t) (digest_at s.bound n) ≡ true
  step (inl none) = absurd (omega (arith, none, left.cell, some))
  step (inr u) =
      let shown : cell_under t Actions k ≡ cell_of t.filled u.place.at = ap (cell_at t.filled) u.at in
      let same : cell_of t.filled u.place.at ≡ n = sym shown ∙ left.cell in
      subst (λ m. has (primary t) (digest_at s.bound m) ≡ true) same
      ((λ i. has (primary t) (digest_at (sym left.bound i) (cell_of t.filled u.place.at))) ∙ filled-has t (cell_of t.filled u.place.at) sound u.is)

-- ---- which replies say that something is there

with-is : (n : ℕ) (f : ℕ → Option Reply) (reply : Reply) → reply_with n f ≡ Some reply → (0 < n) × (f n ≡ Some reply)
with-is zero f reply h = cc
with-is (suc n) f reply h = (omega arith, h)

pub where-is : (b : Bool) (made reply : Reply) → reply_where b made ≡ Some reply → made ≡ reply
where-is true made reply h = cc
where-is false made reply h = cc

promised : (call : Call) (made reply : Reply) (d : Digest) → made ≡ reply → Promises call reply d → Promises call made d
promised call made reply d e h = subst (λ (r : Reply). Promises call r d) (sym e) h

no-dangling : (up : State) (s : Tables) (call : Call) (i : ℕ) (found : Option Digest) (act : Act) (reply : Reply) (d : Digest) → dangling up s i found act ≡ Some reply → Promises call reply d → ⊥
no-dangling up s call i None act reply d is says = cc
no-dangling up s call i (Some x) act reply d is says = promised call (Dangling i x) reply d (where-is (is_absent up s act x) (Dangling i x) reply is) says

-- a refused claim says nothing, so the reply is that of the call's stage
by-stage : (up : State) (s : Tables) (call : Call) (stage : Stage) (act : Act) (reply : Reply) (d : Digest) → decided up s call stage act ≡ Some reply → Promises call reply d → decided_at up s call stage act ≡ Some reply
by-stage up s call stage (Look space k) reply d is says = is
by-stage up s call stage (Read cell) reply d is says = is
by-stage up s call stage (Fill cell value words) reply d is says = is
by-stage up s call stage (Bind space k own) reply d is says = cc
by-stage up s call stage (Claim n) reply d is says = cc
by-stage up s call stage (Room n moved) reply d is says =
    let e : Full s.counter n s.size ≡ reply = cc in
    absurd (promised call (Full s.counter n s.size) reply d e says)

module _ (up : State) (start : Tables) (seen : List Event) (lawful : IsLawfulRun up start seen) (who : Who) (act : Act) (happens : MayHappen up (tables start seen) who act) where
  abbrev pub now : Tables
  now = tables start seen

  abbrev pub later : Tables
  later = after_act (tables start seen) who act

  sound : IsSound now
  sound = sound-run up start seen lawful

  sound-later : IsSound later
  sound-later = sound-act up now who act sound happens

  grows : Grows now later
  grows = grows-act up now who act happens

  stored-has : (o : Object) (reply : Reply) (d : Digest) → IsAbout now Objects (object_digest o) act → reply_with (left_by now act) (λ _. Some (Stored (object_digest o))) ≡ Some reply
      → Promises (Store o) reply d → has (primary later) d ≡ true
  stored-has o reply d about is says =
      let made = with-is (left_by now act) (λ _. Some (Stored (object_digest o))) reply is in
      let left = left-shows now who Objects (object_digest o) act about made.0 in
      let e : Stored (object_digest o) ≡ reply = let h = made.1 in cc in
      let same : object_digest o ≡ d = promised (Store o) (Stored (object_digest o)) reply d e says in
      let some : 0 < cell_under later Objects (object_digest o) = omega (arith, left.cell, made.0) in
      subst (λ (y : Digest). has (primary later) y ≡ true) same (cell-has later (object_digest o) sound-later some)

  kept-reply : (k v : Digest) (reply : Reply) (d : Digest) → IsAbout now Actions k act → reply_with (left_by now act) (λ c. Some (Kept (digest_at now.bound c))) ≡ Some reply
      → Promises (Put k v) reply d → has (primary later) d ≡ true
  kept-reply k v reply d about is says =
      let n = left_by now act in
      let made = with-is n (λ c. Some (Kept (digest_at now.bound c))) reply is in
      let left = left-shows now who Actions k act about made.0 in
      let e : Kept (digest_at now.bound n) ≡ reply = let h = made.1 in cc in
      let same : digest_at now.bound n ≡ d = promised (Put k v) (Kept (digest_at now.bound n)) reply d e says in
      subst (λ (y : Digest). has (primary later) y ≡ true) same (kept-has now later k n sound-later left made.0)

  hit-reply : (k : Digest) (reply : Reply) (d : Digest) (n : ℕ) → left_by now act ≡ n → IsAbout now Actions k act → got up now k act n ≡ Some reply → Promises (Get k) reply d → has (primary later) d ≡ true
  hit-reply k reply d zero shown about is says = absurd (promised (Get k) Miss reply d (where-is _ Miss reply is) says)
  hit-reply k reply d (suc n) shown about is says =
      let some : 0 < left_by now act = omega (arith, shown) in
      let left = left-shows now who Actions k act about some in
      let e : Hit (digest_at now.bound (suc n)) ≡ reply = cc in
      let same : digest_at now.bound (suc n) ≡ d = promised (Get k) (Hit (digest_at now.bound (suc n))) reply d e says in
      let there : has (primary later) (digest_at now.bound (left_by now act)) ≡ true = kept-has now later k (left_by now act) sound-later left some in
      subst (λ (y : Digest). has (primary later) y ≡ true) same (subst (λ m. has (primary later) (digest_at now.bound m) ≡ true) shown there)

  loaded-has : (x : Digest) (reply : Reply) (d : Digest) (n : ℕ) → read_by now act ≡ n → IsAbout now Objects x act → loaded up now x act n ≡ Some reply → Promises (Load x) reply d → has (primary later) d ≡ true
  loaded-has x reply d zero shown about is says = absurd (promised (Load x) Missing reply d (where-is (is_absent up now act x) Missing reply is) says)
  loaded-has x reply d (suc n) shown about is says = step (object_in now (suc n)) is where
    some : 0 < read_by now act
    some = omega (arith, shown)

    there : has (primary later) x ≡ true
    there =
        let cell = read-shows now Objects x act about some in
        let full : 0 < cell_under now Objects x = omega (arith, cell, shown) in
        has-stays now later x sound grows (cell-has now x sound full)

    step : (found : Option Object) → option_map (λ o. Found o) found ≡ Some reply → has (primary later) d ≡ true
    step None is = cc
    step (Some o) is =
        let e : Found o ≡ reply = cc in
        subst (λ (y : Digest). has (primary later) y ≡ true) (promised (Load x) (Found o) reply d e says) there

  pub reply-has : (call : Call) (stage : Stage) (reply : Reply) (d : Digest) → MayAct up start seen who call stage act → decided_at up now call stage act ≡ Some reply → Promises call reply d
      → has (primary later) d ≡ true
  reply-has (Store o) (Ref i) reply d may is says = absurd (no-dangling up now (Store o) i (slice_get o.refs i) act reply d is says)
  reply-has (Store o) Own reply d may is says = stored-has o reply d may.1 is says
  reply-has (Store o) Key reply d may is says = cc
  reply-has (Store o) Deep reply d may is says = cc
  reply-has (Load x) (Ref i) reply d may is says = cc
  reply-has (Load x) Own reply d may is says = loaded-has x reply d (read_by now act) refl may.0 is says
  reply-has (Load x) Key reply d may is says = cc
  reply-has (Load x) Deep reply d may is says = cc
  reply-has (Put k v) (Ref i) reply d may is says = absurd (no-dangling up now (Put k v) i (slice_get (v ∷ []) i) act reply d is says)
  reply-has (Put k v) Own reply d may is says = cc
  reply-has (Put k v) Key reply d may is says = kept-reply k v reply d may.1 is says
  reply-has (Put k v) Deep reply d may is says = cc
  reply-has (Get k) (Ref i) reply d may is says = cc
  reply-has (Get k) Own reply d may is says = cc
  reply-has (Get k) Key reply d may is says = hit-reply k reply d (left_by now act) refl may.0 is says
  reply-has (Get k) Deep reply d may is says = cc

-- the run before is lawful too
pub lawful-before : (up : State) (start : Tables) (more seen : List Event) → IsLawfulRun up start (more ++ seen) → IsLawfulRun up start seen
lawful-before up start [] seen lawful = lawful
lawful-before up start (e ∷ es) seen lawful = lawful-before up start es seen lawful.0

pub promise-whole : (up : State) (start : Tables) (calls : Who → Option Call) (more : List Event) (event : Event) (seen : List Event) (call : Call) (reply : Reply) (d : Digest)
    → IsLawfulRun up start (more ++ event ∷ seen) → HasConduct up start calls event.note.who.session (event ∷ seen) → calls event.note.who ≡ Some call
    → decided up (tables start seen) call event.note.stage event.act ≡ Some reply → Promises call reply d
    → Whole (primary_of start (more ++ event ∷ seen)) d
promise-whole up start calls more event seen call reply d lawful conduct is decides says path to leads =
    let before = lawful-before up start more (event ∷ seen) lawful in
    let may = subst (λ (c : Option Call). MayMake up start seen c event) is (conduct.1 refl).1 in
    let stage = by-stage up (tables start seen) call event.note.stage event.act reply d decides says in
    let here = reply-has up start seen before.0 event.note.who event.act before.1 call event.note.stage reply d may stage says in
    let there = has-stays (tables start (event ∷ seen)) (tables start (more ++ event ∷ seen)) d (sound-run up start (event ∷ seen) before) (grows-more up start more (event ∷ seen) lawful) here in
    closed-whole (primary_of start (more ++ event ∷ seen)) (closed (tables start (more ++ event ∷ seen)) (sound-run up start (more ++ event ∷ seen) lawful)) path d to there leads
