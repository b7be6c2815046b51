-- What a call leaves when its tree is in, or when it stops.
use Rattle.std.proofs.Common.{not, ◌↔◌, Ok, Err, IsErrAnd, ◌≡◌, ℕ, zero, suc, ◌<◌, List, [], ◌∷◌, ◌++◌, Bool, true, false, ◌⊎◌, inl, inr, None, Some, is_some, is_none, refl, ap, sym, ◌∙◌, subst, arith}
use Rattle.std.specs.declared.option.Option.{Option}
use Rattle.std.specs.declared.result.Result.{Result}
use Rattle.cas_model.specs.declared.call.Call.{Call}
use Rattle.cas_model.specs.declared.call.Call.TheVariants.{Store, Load, Put, Get}
use Rattle.cas_model.specs.declared.call.Reply.TheVariants as reply
use Rattle.cas_model.specs.declared.call.Who.{Who}
use Rattle.cas_model.specs.declared.digest.Digest.{Digest}
use Rattle.cas_model.specs.declared.note.Note.{Note}
use Rattle.cas_model.specs.declared.note.Stage.TheVariants.{Deep}
use Rattle.cas_model.specs.declared.place.Place.{Place}
use Rattle.cas_model.specs.declared.place.Space.TheVariants.{Objects}
use Rattle.cas_model.specs.Primary.{cell_under, primary}
use Rattle.cas_model.specs.State.{State, has}
use Rattle.cas_model.specs.Tables.{Tables}
use Rattle.cas_history.specs.declared.event.Act.{Act}
use Rattle.cas_history.specs.declared.event.Act.TheVariants.{Look, Bind, Read, Claim, Room, Fill}
use Rattle.cas_history.specs.declared.event.Event.{Event}
use Rattle.cas_history.specs.Conduct.{CallOpen, MayBring, is_shallow, missed}
use Rattle.cas_history.specs.Cost.{Row}
use Rattle.cas_history.specs.History.{decided, decided_at}
use Rattle.cas_history.specs.Lawful.{IsLawfulRun}
use Rattle.cas_history.specs.Run.{tables as tables_after}
use Rattle.cas_history.proofs.Others.{events-keep, others-leave}
use Rattle.cas_history.proofs.Promised.{closed-whole}
use Rattle.cas_history.proofs.Sound.{IsSound, sound-run, sound-start}
use Rattle.cas_history.proofs.Under.{closed}
use Rattle.cas_history.proofs.Visible.{cell-has}
use Rattle.cas_port.specs.Calls.{IsLawful}
use Rattle.cas_port.specs.View.{View, tables, tables_before}
use Rattle.frozen_store.specs.Seen.{FrozenSeen, IsSeen, place_in}
use Rattle.graph_db.specs.Events.{SpeaksFor, Stands, seen_state}
use Rattle.graph_db.proofs.Found.{goes-grows}
use Rattle.graph_db.proofs.Steps.{foreign-others, goes-speaks, goes-start, goes-upstream, missed-more, stands-event}
use Rattle.fault_in.specs.declared.error.FaultInError.{FaultInError}
use Rattle.fault_in.specs.declared.error.FaultInError.TheVariants.{Full, Memory}
use Rattle.fault_in.specs.FaultIn.{Brings, Costs, FaultInStops, IsRefused, IsWholeNow, KeepsConduct}
use Rattle.fault_in.specs.Bringing.{AsksAtMost, HasSought, HasTreeIn, IsThere, TreeStops}
use Rattle.fault_in.specs.Tree.{AreBringing, AreMissing, HasTree, IsBringing, IsNeeded, missed_since}
use Rattle.cas_model.specs.Notes.{deep_note}
use Rattle.fault_in.proofs.Brought.{refused-then}
use Rattle.fault_in.proofs.Costs.{cell-lacks, missing-before}
use Rattle.fault_in.proofs.Steps.{Moved, brings-goes, moved-then, moved-true}

-- ---- conduct

module _ (up : State) (start : Tables) (who : Who) (call : Call) (root : Digest) (tree : HasTree up call root) (earlier : List Event) (before : missed start who is_shallow earlier ≡ true) where
  may-claim : (n : ℕ) → IsNeeded up root n → MayBring up start earlier who call (Claim n)
  may-claim n (inl part) = (inl part, before)
  may-claim n (inr h) = (inr (h.0, h.1, tree h.0 h.1 h.2, h.3), before)

  may-room : (n : ℕ) (moved : Bool) → IsNeeded up root n → MayBring up start earlier who call (Room n moved)
  may-room n moved (inl part) = (inl part, before)
  may-room n moved (inr h) = (inr (h.0, h.1, tree h.0 h.1 h.2, h.3), before)

  may-bring : (missed_it : Bool) (act : Act) → IsBringing up (tables_after start earlier) root missed_it act → MayBring up start earlier who call act
  may-bring m (Look space digest) h = tt
  may-bring m (Bind space digest own) h = tt
  may-bring m (Read cell) h = tt
  may-bring m (Claim n) h = may-claim n h.0
  may-bring m (Room n moved) h = absurd h
  may-bring m (Fill cell value words) h = (h.0, h.1, tree h.0 h.1 h.2, h.3)

at-none : (up : State) (s : Tables) (call : Call) (act : Act) → decided_at up s call Deep act ≡ None
at-none up s (Store o) act = refl
at-none up s (Load d) act = refl
at-none up s (Put k v) act = refl
at-none up s (Get k) act = refl

decides-none : (up : State) (s : Tables) (root : Digest) (m : Bool) (call : Call) (act : Act) → IsBringing up s root m act → decided up s call Deep act ≡ None
decides-none up s root m call (Look space digest) h = at-none up s call (Look space digest)
decides-none up s root m call (Bind space digest own) h = refl
decides-none up s root m call (Read cell) h = at-none up s call (Read cell)
decides-none up s root m call (Claim n) h = refl
decides-none up s root m call (Room n moved) h = absurd h
decides-none up s root m call (Fill cell value words) h = at-none up s call (Fill cell value words)

module _ (up : State) (start : Tables) (speaks : ℕ → Bool) (who : Who) (root : Digest) (first : Bool) (mine : speaks who.session ≡ true) (calls : Who → Option Call) (call : Call)
    (known : calls who ≡ Some call) (tree : HasTree up call root) where
  pub stays-open : (more seen : List Event) → AreBringing up start speaks who root first more seen → missed start who is_shallow seen ≡ true → CallOpen up start calls who seen
      → CallOpen up start calls who (more ++ seen)
  stays-open [] seen own before opens = opens
  stays-open (e ∷ es) seen own before opens = step (stays-open es seen own.1 before opens) (own.0) where
    step : CallOpen up start calls who (es ++ seen)
        → ((speaks e.note.who.session ≡ false) ⊎ ((e.note ≡ deep_note who) × IsBringing up (tables_after start (es ++ seen)) root (missed_since start who first es seen) e.act))
        → CallOpen up start calls who (e ∷ (es ++ seen))
    step rest (inl other) = others-leave up start calls who (e ∷ []) (es ++ seen) (foreign-others speaks who.session (e ∷ []) mine (other, tt)) rest
    step rest (inr his) = subst (λ (n : Note). CallOpen up start calls who (record { note = n; act = e.act } ∷ (es ++ seen))) (sym his.0)
        ((events-keep up start calls (deep_note who) call e.act (es ++ seen) known
        (may-bring up start who call root tree (es ++ seen) (missed-more start who is_shallow es seen before) (missed_since start who first es seen) e.act his.1) rest).1
        (decides-none up (tables_after start (es ++ seen)) root (missed_since start who first es seen) call e.act his.1))

pub brings-conduct : (who : Who) (root : Digest) (first : Bool) (old new : View) → SpeaksFor old who → Brings who root first old new → KeepsConduct who root old new None
brings-conduct who root first old new mine b = λ calls call known tree before opens.
    subst (λ (v : View). CallOpen v.upstream v.start calls who v.seen) (sym b.is)
    (stays-open old.upstream old.start old.speaks who root first mine calls call known tree b.more old.seen b.own before opens)

refused-conduct : (who : Who) (root : Digest) (first : Bool) (old new : View) (at asked size : ℕ) → SpeaksFor old who → (h : IsRefused who root first old new at asked size)
    → KeepsConduct who root old new (Some (reply.Full at asked size))
refused-conduct who root first old new at asked size mine h = λ calls call known tree before opens.
    subst (λ (v : View). at ≡ (tables_before v).counter → size ≡ (tables_before v).size → Stands v.upstream v.start calls who call (Some (reply.Full at asked size)) v.seen) (sym h.is)
    (λ at_is size_is. stands-event old.upstream old.start calls (deep_note who) call (Room asked h.moved) (h.more ++ old.seen) (Some (reply.Full at asked size)) known
    (may-room old.upstream old.start who call root tree (h.more ++ old.seen) (missed-more old.start who is_shallow h.more old.seen before) asked h.moved h.needed)
    (stays-open old.upstream old.start old.speaks who root first mine calls call known tree h.more old.seen h.own before opens)
    (λ i. Some (reply.Full (sym at_is i) asked (sym size_is i)))) h.at_is h.size_is

-- ---- the ends of a call

pub whole-now : (who : Who) (root : Digest) (old new : View) → SpeaksFor old who → IsLawfulRun new.upstream new.start new.seen → IsThere who root old new → IsWholeNow who root old new
whole-now who root old new mine run h =
    let sound = sound-run new.upstream new.start new.seen run in
    let there : has (seen_state new) root ≡ true = cell-has (tables new) root sound h.there in
    record {
      there = there;
      whole = λ path to leads. closed-whole (seen_state new) (closed (tables new) sound) path root to there leads;
      brings = h.brings;
      conduct = brings-conduct who root false old new mine h.brings;
      cost = h.cost;
    }

pub stops-now : (who : Who) (root : Digest) (old new : View) (error : FaultInError) → SpeaksFor old who → TreeStops who root false old new error → FaultInStops who root old new error
stops-now who root old new (Full full) mine h = record {
  refused = h.0;
  conduct = refused-conduct who root false old new full.at full.asked full.size mine h.0;
  cost = h.1;
}
stops-now who root old new Memory mine h = record { brings = h.0; conduct = brings-conduct who root false old new mine h.0; cost = h.1 }

-- ---- the root

module _ (who : Who) (root : Digest) (old mid : View) (lawful : IsLawful old mid) where
  sound-old : IsSound (tables old)
  sound-old = sound-run old.upstream old.start old.seen lawful.was

  -- it was there already
  pub found-there : (place : Option Place) → HasSought who root old mid place → AsksAtMost who 0 old mid → is_none place ≡ false → IsThere who root old mid
  found-there None sought asks some = cc
  found-there (Some place) sought asks some = record {
    brings = sought.0 root false;
    there = sought.1.filled;
    cost = record { rows = []; missing = tt; there = tt; most = asks };
  }

  is-missed : (place : Option Place) → HasSought who root old mid place → is_none place ≡ true → HasSought who root old mid None
  is-missed None sought none = sought
  is-missed (Some place) sought none = cc

  module _ (place : Option Place) (sought : HasSought who root old mid place) (asks : AsksAtMost who 0 old mid) (none : is_none place ≡ true) where
    moved : Moved who root false true old mid
    moved = (is-missed place sought none).1 root false

    pub root-missing : (d : Digest) → d ≡ root → has (seen_state mid) d ≡ false
    root-missing d same = subst (λ (x : Digest). has (seen_state mid) x ≡ false) (sym same) (cell-lacks (tables mid) root (is-missed place sought none).0)

    pub root-speaks : SpeaksFor old who → SpeaksFor mid who
    root-speaks mine = goes-speaks who who old mid (brings-goes who root false old mid moved.0) mine

    pub root-upstream : mid.upstream ≡ old.upstream
    root-upstream = goes-upstream who old mid (brings-goes who root false old mid moved.0)

    pub root-start : mid.start ≡ old.start
    root-start = goes-start who old mid (brings-goes who root false old mid moved.0)

    -- what is missing after the look was missing before it
    before : (rows : List Row) → AreMissing mid.upstream root (seen_state mid) rows → AreMissing old.upstream root (seen_state old) rows
    before rows h =
        missing-before old.upstream root (tables old) (tables mid) rows sound-old (goes-grows who old mid (brings-goes who root false old mid moved.0) lawful.is)
        (subst (λ (up : State). AreMissing up root (seen_state mid) rows) root-upstream h)

    costs-before : (new : View) → Costs who root mid new → Costs who root old new
    costs-before new h = record { rows = h.rows; missing = before h.rows h.missing; most = let most = h.most in omega (arith, asks, most) }

    -- memory was wanted after it was missed
    pub missed-stops : TreeStops who root false old mid Memory
    missed-stops = (moved.0, record { rows = []; missing = tt; most = asks })

    -- its tree was brought in
    pub tree-there : (new : View) (d : Digest) → d ≡ root → HasTreeIn who d mid new → IsThere who root old new
    tree-there new d same tree =
        let h : HasTreeIn who root mid new = subst (λ (x : Digest). HasTreeIn who x mid new) same tree in
        record {
          brings = (moved-then who root false true true old mid new moved (moved-true who root mid new h.brings)).0;
          there = h.there;
          cost = record { rows = h.cost.rows; missing = before h.cost.rows h.cost.missing; there = h.cost.there; most = let most = h.cost.most in omega (arith, asks, most) };
        }

    pub tree-stops : (new : View) (d : Digest) (error : FaultInError) → d ≡ root → TreeStops who d true mid new error → TreeStops who root false old new error
    tree-stops new d error same stops = step error (subst (λ (x : Digest). TreeStops who x true mid new error) same stops) where
      step : (e : FaultInError) → TreeStops who root true mid new e → TreeStops who root false old new e
      step (Full full) h = (refused-then who root false true old mid new full.at full.asked full.size moved h.0, costs-before new h.1)
      step Memory h = ((moved-then who root false true true old mid new moved (moved-true who root mid new h.0)).0, costs-before new h.1)

-- ---- whether the upstream has the digest

pub none-told : {A : Type 0} (found : Option A) (test : Bool) → is_some found ≡ not test → test ≡ true → is_none found ≡ true
none-told None test told is = refl
none-told (Some x) true told is = cc
none-told (Some x) false told is = cc

pub some-told : {A : Type 0} (found : Option A) (test : Bool) → is_some found ≡ not test → test ≡ false → is_none found ≡ false
some-told None true told is = cc
some-told None false told is = cc
some-told (Some x) test told is = refl

cell-none : (n : ℕ) → is_none (place_in n) ≡ true → n ≡ 0
cell-none zero none = refl
cell-none (suc n) none = cc

cell-some : (n : ℕ) → is_none (place_in n) ≡ false → 0 < n
cell-some zero some = cc
cell-some (suc n) some = omega arith

pub up-lacks : (t : Tables) (d : Digest) (place : Option Place) → place ≡ place_in (cell_under t Objects d) → is_none place ≡ true → has (primary t) d ≡ false
up-lacks t d place is none = cell-lacks t d (cell-none (cell_under t Objects d) (ap is_none (sym is) ∙ none))

pub up-has : (seen : FrozenSeen) (d : Digest) (place : Option Place) → IsSeen seen → place ≡ place_in (cell_under seen.tables Objects d) → is_none place ≡ false → has (primary seen.tables) d ≡ true
up-has seen d place h is some = cell-has seen.tables d (sound-start seen.tables h.start) (cell-some (cell_under seen.tables Objects d) (ap is_none (sym is) ∙ some))

-- the answer is another than false, where the upstream has the digest
pub other-answer : (b : Bool) (answer : Result Bool FaultInError) → b ≡ true → (answer ≡ Ok false → ⊥) → (answer ≡ Ok false) ↔ (b ≡ false)
other-answer b answer has_it other = (λ same. absurd (other same), λ lacks_it. cc)

pub error-answer : (b : Bool) (answer : Result Bool FaultInError) (P : FaultInError → Type 0) → b ≡ true → IsErrAnd answer P → (answer ≡ Ok false) ↔ (b ≡ false)
error-answer b (Ok x) P has_it made = absurd made
error-answer b (Err e) P has_it made = other-answer b (Err e) has_it (λ same. cc)
