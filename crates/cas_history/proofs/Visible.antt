-- What a call looked for, and what is visible over an upstream.
use Rattle.std.proofs.Common.{◌≡◌, ℕ, zero, suc, ◌+◌, ◌<◌, List, [], ◌∷◌, ◌++◌, Bool, true, false, not, ◌==◌, ◌&&◌, ◌||◌, ◌⊎◌, inl, inr, None, Some, is_some, is_none, take, refl, ap, sym, ◌∙◌, subst, arith}
use Rattle.std.specs.Prelude.{slice_get}
use Rattle.std.specs.declared.option.Option.{Option}
use Rattle.std.specs.Option.{option_or}
use Rattle.std.proofs.lemmas.Bool.{eqb-true}
use Rattle.cas_model.specs.declared.digest.Digest.{Digest}
use Rattle.cas_model.specs.declared.object.Object.{Object}
use Rattle.cas_model.specs.declared.call.Call.{Call}
use Rattle.cas_model.specs.declared.call.Call.TheVariants.{Store, Load, Put, Get}
use Rattle.cas_model.specs.declared.place.Place.{Place}
use Rattle.cas_model.specs.declared.place.Space.{Space}
use Rattle.cas_model.specs.declared.place.Space.TheVariants.{Objects, Actions}
use Rattle.cas_model.specs.declared.note.Stage.{Stage}
use Rattle.cas_model.specs.declared.note.Stage.TheVariants.{Ref, Own, Key, Deep}
use Rattle.cas_model.specs.declared.call.Who.{Who}
use Rattle.cas_model.specs.State.{State, has, HasAll, over, IsClosed}
use Rattle.cas_history.proofs.Answered.{fill-no-miss, fill-no-read}
use Rattle.cas_history.specs.declared.event.Act.{Act}
use Rattle.cas_history.specs.declared.event.Act.TheVariants.{Look, Bind, Read, Claim, Room, Fill}
use Rattle.cas_history.specs.declared.event.Event.{Event}
use Rattle.cas_model.specs.Tables.{Tables, place_of, cell_of}
use Rattle.cas_history.specs.Run.{tables, primary_of}
use Rattle.cas_history.specs.Lawful.{IsLawfulRun}
use Rattle.cas_model.specs.Primary.{cell_at, cell_under, object_under, value_under, primary}
use Rattle.cas_history.specs.Carried.{filled_state}
use Rattle.cas_history.specs.History.{is_miss, read_by}
use Rattle.cas_history.specs.Conduct.{HasConduct, MayAct, MayMake, MayLookFor, IsAbout, AreThere, found_ref, same_who, is_ref}
use Rattle.cas_model.proofs.Maps.{get-object, get-value, get-both, put-both}
use Rattle.cas_history.proofs.Grown.{Grows, grows-act}
use Rattle.cas_history.proofs.Sound.{IsSound, sound-run}
use Rattle.cas_history.proofs.Under.{IsUnder, under-cases, under-none, under-some, object-stays}
use Rattle.std.specs.FinMap as fin

-- ---- what an act shows

place-none : (s : Tables) (space : Space) (d : Digest) (o : Option Place) → is_none o ≡ true → cell_at s.filled o ≡ 0
place-none s space d None h = refl
place-none s space d (Some p) h = cc

-- a look or a read that missed shows an empty cell
pub miss-empty : (s : Tables) (space : Space) (d : Digest) (act : Act) → IsAbout s space d act → is_miss s act ≡ true → cell_under s space d ≡ 0
miss-empty s space d (Look its k) about h = place-none s space d (place_of s.bound space d) (ap is_none (λ i. place_of s.bound (sym about.0 i) (sym about.1 i)) ∙ h)
miss-empty s space d (Read cell) about h = ap (cell_at s.filled) about ∙ eqb-true (cell_of s.filled cell.at) 0 h
miss-empty s space d (Bind its k own) about h = cc
miss-empty s space d (Claim n) about h = cc
miss-empty s space d (Room n moved) about h = cc
miss-empty s space d (Fill cell value words) about h = cc (h, fill-no-miss (cell_of s.filled cell.at) value)

-- a read shows its cell
pub read-shows : (s : Tables) (space : Space) (d : Digest) (act : Act) → IsAbout s space d act → 0 < read_by s act → cell_under s space d ≡ read_by s act
read-shows s space d (Read cell) about h = ap (cell_at s.filled) about
read-shows s space d (Look its k) about h = absurd (omega (arith, h))
read-shows s space d (Bind its k own) about h = absurd (omega (arith, h))
read-shows s space d (Claim n) about h = absurd (omega (arith, h))
read-shows s space d (Room n moved) about h = absurd (omega (arith, h))
read-shows s space d (Fill cell value words) about h = absurd (let e = fill-no-read (cell_of s.filled cell.at) value in omega (arith, e, h))

-- a filled cell is that of an object that is there
pub cell-has : (s : Tables) (d : Digest) → IsSound s → 0 < cell_under s Objects d → has (primary s) d ≡ true
cell-has s d sound some = ap is_some (get-object s d) ∙ step (under-cases s d sound) where
  step : (cell_under s Objects d ≡ 0) ⊎ IsUnder s d → is_some (object_under s d) ≡ true
  step (inl none) = absurd (omega (arith, none, some))
  step (inr u) = ap is_some (under-some s d u)

-- what is there stays there
pub has-stays : (s t : Tables) (d : Digest) → IsSound s → Grows s t → has (primary s) d ≡ true → has (primary t) d ≡ true
has-stays s t d sound grows h = ap is_some (get-object t d) ∙ step (under-cases s d sound) where
  step : (cell_under s Objects d ≡ 0) ⊎ IsUnder s d → is_some (object_under t d) ≡ true
  step (inl none) = absurd (cc (h, ap is_some (get-object s d), ap is_some (under-none s d none)))
  step (inr u) = ap is_some (object-stays s t sound grows d u)

-- ---- what the call found stays there

and-left : (a b : Bool) → (a && b) ≡ true → a ≡ true
and-left true b h = refl
and-left false b h = cc

and-right : (a b : Bool) → (a && b) ≡ true → b ≡ true
and-right true b h = h
and-right false b h = cc

or-cases : (a b : Bool) → (a || b) ≡ true → (a ≡ true) ⊎ (b ≡ true)
or-cases true b h = inl refl
or-cases false b h = inr h

pub who-is : (a b : Who) → same_who a b ≡ true → a ≡ b
who-is a b h =
    let one : a.session ≡ b.session = eqb-true a.session b.session (and-left _ _ h) in
    let two : a.index ≡ b.index = eqb-true a.index b.index (and-right _ _ h) in
    λ i. record { session = one i; index = two i }

not-zero : (n : ℕ) → not (n == 0) ≡ true → 0 < n
not-zero zero h = cc
not-zero (suc n) h = omega arith

-- the references that a call looks for
abbrev pub refs_of : Call → List Digest
refs_of (Store o) = o.refs
refs_of (Put k v) = v ∷ []
refs_of (Load d) = []
refs_of (Get k) = []

ref-about : (up : State) (start : Tables) (es : List Event) (who : Who) (call : Call) (stage : Stage) (act : Act) (i : ℕ) (d : Digest)
    → is_ref i stage ≡ true → slice_get (refs_of call) i ≡ Some d → MayAct up start es who call stage act → IsAbout (tables start es) Objects d act
ref-about up start es who (Store o) (Ref j) act i d is at may =
    let same : slice_get o.refs j ≡ Some d = ap (slice_get o.refs) (eqb-true j i is) ∙ at in
    (subst (λ (x : Option Digest). MayLookFor up start es who o.refs j x act) same may).1
ref-about up start es who (Put k v) (Ref j) act i d is at may =
    let same : slice_get (v ∷ []) j ≡ Some d = ap (slice_get (v ∷ [])) (eqb-true j i is) ∙ at in
    (subst (λ (x : Option Digest). MayLookFor up start es who (v ∷ []) j x act) same may).1
ref-about up start es who (Load x) (Ref j) act i d is at may = absurd may
ref-about up start es who (Get x) (Ref j) act i d is at may = absurd may
ref-about up start es who call Own act i d is at may = cc
ref-about up start es who call Key act i d is at may = cc
ref-about up start es who call Deep act i d is at may = cc

pub found-has : (up : State) (start : Tables) (calls : Who → Option Call) (seen : List Event) (who : Who) (call : Call) (i : ℕ) (d : Digest)
    → IsLawfulRun up start seen → HasConduct up start calls who.session seen → calls who ≡ Some call → slice_get (refs_of call) i ≡ Some d → found_ref start who i seen ≡ true
    → has (primary_of start seen) d ≡ true
found-has up start calls [] who call i d lawful conduct is at found = cc
found-has up start calls (e ∷ es) who call i d lawful conduct is at found =
    has-stays (tables start es) (tables start (e ∷ es)) d sound (grows-act up (tables start es) e.note.who e.act lawful.1)
    (step (λ below. found-has up start calls es who call i d lawful.0 conduct.0 is at below) (or-cases _ _ found)) where
      sound : IsSound (tables start es)
      sound = sound-run up start es lawful.0

      here : (same_who e.note.who who && is_ref i e.note.stage && not (read_by (tables start es) e.act == 0)) ≡ true → has (primary_of start es) d ≡ true
      here h =
          let first : (same_who e.note.who who && is_ref i e.note.stage) ≡ true = and-left (same_who e.note.who who && is_ref i e.note.stage) (not (read_by (tables start es) e.act == 0)) h in
          let him : e.note.who ≡ who = who-is e.note.who who (and-left (same_who e.note.who who) (is_ref i e.note.stage) first) in
          let call_is : calls e.note.who ≡ Some call = ap calls him ∙ is in
          let may = (conduct.1 (ap (λ (w : Who). w.session) him)).1 in
          let acts = subst (λ (c : Option Call). MayMake up start es c e) call_is may in
          let about = ref-about up start es e.note.who call e.note.stage e.act i d (and-right (same_who e.note.who who) (is_ref i e.note.stage) first) at acts in
          let some = not-zero (read_by (tables start es) e.act) (and-right (same_who e.note.who who && is_ref i e.note.stage) (not (read_by (tables start es) e.act == 0)) h) in
          let cell = read-shows (tables start es) Objects d e.act about some in
          cell-has (tables start es) d sound (subst (λ n. 0 < n) (sym cell) some)

      step : (found_ref start who i es ≡ true → has (primary_of start es) d ≡ true)
          → ((same_who e.note.who who && is_ref i e.note.stage && not (read_by (tables start es) e.act == 0)) ≡ true) ⊎ (found_ref start who i es ≡ true) → has (primary_of start es) d ≡ true
      step again (inl h) = here h
      step again (inr below) = again below

-- ---- what is visible

pub see-object : (s : Tables) (up : State) (d : Digest) → fin.get (over (primary s) up).objects d ≡ option_or (object_under s d) (fin.get up.objects d)
see-object s up d = get-both (primary s).objects up.objects d ∙ ap (λ (o : Option Object). option_or o (fin.get up.objects d)) (get-object s d)

pub see-value : (s : Tables) (up : State) (k : Digest) → fin.get (over (primary s) up).cache k ≡ option_or (value_under s k) (fin.get up.cache k)
see-value s up k = get-both (primary s).cache up.cache k ∙ ap (λ (o : Option Digest). option_or o (fin.get up.cache k)) (get-value s k)

some-or : {X : Type 0} (a b : Option X) → is_some b ≡ true → is_some (option_or a b) ≡ true
some-or (Some x) b h = refl
some-or None b h = h

or-some : {X : Type 0} (a b : Option X) → is_some a ≡ true → is_some (option_or a b) ≡ true
or-some (Some x) b h = refl
or-some None b h = cc

pub see-own : (p up : State) (d : Digest) → has p d ≡ true → has (over p up) d ≡ true
see-own p up d h = ap is_some (get-both p.objects up.objects d) ∙ or-some _ _ h

pub see-under : (p up : State) (d : Digest) → has up d ≡ true → has (over p up) d ≡ true
see-under p up d h = ap is_some (get-both p.objects up.objects d) ∙ some-or _ _ h

-- each reference that was found, or is the upstream's, is visible
pub there-all : (up : State) (start : Tables) (calls : Who → Option Call) (seen : List Event) (who : Who) (call : Call) (i : ℕ) (ds : List Digest)
    → IsLawfulRun up start seen → HasConduct up start calls who.session seen → calls who ≡ Some call
    → ((k : ℕ) (d : Digest) → slice_get ds k ≡ Some d → slice_get (refs_of call) (k + i) ≡ Some d)
    → AreThere up start seen who i ds → HasAll (over (primary_of start seen) up) ds
there-all up start calls seen who call i [] lawful conduct is at there = tt
there-all up start calls seen who call i (d ∷ ds) lawful conduct is at there =
    (here there.0, there-all up start calls seen who call (suc i) ds lawful conduct is (λ k x h. let e : suc k + i ≡ k + suc i = omega arith in ap (slice_get (refs_of call)) (sym e) ∙ at (suc k) x h) there.1) where
      here : (has up d ≡ true) ⊎ (found_ref start who i seen ≡ true) → has (over (primary_of start seen) up) d ≡ true
      here (inl h) = see-under (primary_of start seen) up d h
      here (inr h) =
          let e : 0 + i ≡ i = omega arith in
          let at_i : slice_get (refs_of call) i ≡ Some d = ap (slice_get (refs_of call)) (sym e) ∙ at 0 d refl in
          see-own (primary_of start seen) up d (found-has up start calls seen who call i d lawful conduct is at_i h)

pub taken-at : (i : ℕ) (ds : List Digest) (k : ℕ) (d : Digest) → slice_get (take i ds) k ≡ Some d → slice_get ds k ≡ Some d
taken-at zero ds k d h = cc
taken-at (suc i) [] k d h = h
taken-at (suc i) (x ∷ xs) zero d h = h
taken-at (suc i) (x ∷ xs) (suc k) d h = taken-at i xs k d h

pub plus-zero : (k : ℕ) → k + 0 ≡ k
plus-zero k = omega arith

-- a fill adds to what is visible what it adds to the primary state
pub over-filled : (p up : State) (space : Space) (d : Digest) (o : Object) (value : Digest) → over (filled_state p space d o value) up ≡ filled_state (over p up) space d o value
over-filled p up Objects d o value = λ i. record { objects = put-both p.objects up.objects d o i; cache = fin.from_entries (fin.entries p.cache ++ fin.entries up.cache) }
over-filled p up Actions d o value = λ i. record { objects = fin.from_entries (fin.entries p.objects ++ fin.entries up.objects); cache = put-both p.cache up.cache d value i }

-- ---- what is visible over a closed upstream is closed

own-all : (p u : State) (ds : List Digest) → HasAll p ds → HasAll (over p u) ds
own-all p u [] all = tt
own-all p u (d ∷ ds) all = (see-own p u d all.0, own-all p u ds all.1)

under-all : (p u : State) (ds : List Digest) → HasAll u ds → HasAll (over p u) ds
under-all p u [] all = tt
under-all p u (d ∷ ds) all = (see-under p u d all.0, under-all p u ds all.1)

pub closed-over : (p u : State) → IsClosed p → IsClosed u → IsClosed (over p u)
closed-over p u one two = record {
  objects = λ d o is. object d o (fin.get p.objects d) refl (sym (get-both p.objects u.objects d) ∙ is);
  cache = λ k d is. value k d (fin.get p.cache k) refl (sym (get-both p.cache u.cache k) ∙ is);
} where
  object : (d : Digest) (o : Object) (mine : Option Object) → fin.get p.objects d ≡ mine → option_or (fin.get p.objects d) (fin.get u.objects d) ≡ Some o → HasAll (over p u) o.refs
  object d o None e is = under-all p u o.refs (two.objects d o (sym (ap (λ (x : Option Object). option_or x (fin.get u.objects d)) e) ∙ is))
  object d o (Some x) e is =
      let same : Some x ≡ Some o = sym (ap (λ (y : Option Object). option_or y (fin.get u.objects d)) e) ∙ is in
      own-all p u o.refs (one.objects d o (e ∙ same))

  value : (k d : Digest) (mine : Option Digest) → fin.get p.cache k ≡ mine → option_or (fin.get p.cache k) (fin.get u.cache k) ≡ Some d → has (over p u) d ≡ true
  value k d None e is = see-under p u d (two.cache k d (sym (ap (λ (x : Option Digest). option_or x (fin.get u.cache k)) e) ∙ is))
  value k d (Some x) e is =
      let same : Some x ≡ Some d = sym (ap (λ (y : Option Digest). option_or y (fin.get u.cache k)) e) ∙ is in
      see-own p u d (one.cache k d (e ∙ same))
