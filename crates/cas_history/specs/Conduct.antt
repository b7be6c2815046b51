-- The conduct of a session: which events its calls may make, and when.
use Rattle.std.specs.Prelude.{◌≡◌, ℕ, suc, List, [], ◌∷◌, Bool, true, false, not, ◌==◌, ◌&&◌, ◌||◌, ◌⊎◌, Some, None, length, take, slice_get}
use Rattle.std.specs.declared.option.Option.{Option}
use Rattle.cas_model.specs.declared.digest.Digest.{Digest}
use Rattle.cas_model.specs.declared.object.Object.{Object}
use Rattle.cas_model.specs.declared.call.Call.{Call}
use Rattle.cas_model.specs.declared.call.Call.TheVariants.{Store, Load, Put, Get}
use Rattle.cas_model.specs.declared.place.Place.{Place}
use Rattle.cas_model.specs.declared.place.Space.{Space}
use Rattle.cas_model.specs.declared.place.Space.TheVariants.{Objects, Actions}
use Rattle.cas_model.specs.declared.note.Stage.{Stage}
use Rattle.cas_model.specs.declared.note.Stage.TheVariants.{Ref, Own, Key, Deep}
use Rattle.cas_model.specs.declared.call.Who.{Who}
use Rattle.cas_model.specs.Object.{object_digest}
use Rattle.cas_model.specs.Content.{content_size}
use Rattle.cas_model.specs.State.{State, has, Member, Leads}
use Rattle.cas_history.specs.declared.event.Act.{Act}
use Rattle.cas_history.specs.declared.event.Act.TheVariants.{Look, Bind, Read, Claim, Room, Fill}
use Rattle.cas_history.specs.declared.event.Event.{Event}
use Rattle.cas_model.specs.Tables.{Tables, place_of, digest_at, object_of}
use Rattle.cas_history.specs.Run.{tables}
use Rattle.cas_history.specs.History.{history, count_of, is_miss, read_by}
use Rattle.std.specs.FinMap as fin

abbrev pub same_who : Who → Who → Bool
same_who a b = (a.session == b.session) && (a.index == b.index)

abbrev pub is_ref : ℕ → Stage → Bool
is_ref i (Ref j) = j == i
is_ref i Own = false
is_ref i Key = false
is_ref i Deep = false

abbrev pub is_own : Stage → Bool
is_own Own = true
is_own (Ref i) = false
is_own Key = false
is_own Deep = false

abbrev pub is_key : Stage → Bool
is_key Key = true
is_key (Ref i) = false
is_key Own = false
is_key Deep = false

abbrev pub is_shallow : Stage → Bool
is_shallow Deep = false
is_shallow (Ref i) = true
is_shallow Own = true
is_shallow Key = true

-- the call made an event of such a stage that missed
abbrev pub missed : Tables → Who → (Stage → Bool) → List Event → Bool
missed start who is [] = false
missed start who is (e ∷ earlier) = (same_who e.note.who who && is e.note.stage && is_miss (tables start earlier) e.act) || missed start who is earlier

-- the call read a filled cell when it looked for its i-th reference
abbrev pub found_ref : Tables → Who → ℕ → List Event → Bool
found_ref start who i [] = false
found_ref start who i (e ∷ earlier) = (same_who e.note.who who && is_ref i e.note.stage && not (read_by (tables start earlier) e.act == 0)) || found_ref start who i earlier

-- each of the references, counted from the i-th, is the upstream's or was found
abbrev pub AreThere : State → Tables → List Event → Who → ℕ → List Digest → Type 0
AreThere up start earlier who i [] = Unit {0}
AreThere up start earlier who i (d ∷ ds) = ((has up d ≡ true) ⊎ (found_ref start who i earlier ≡ true)) × AreThere up start earlier who (suc i) ds

-- ---- the call's tree: what references of the upstream's objects reach

-- the digests that a call names or stores, and the upstream's value of its key
abbrev pub IsRoot : State → Call → Digest → Type 0
IsRoot up (Store o) d = (d ≡ object_digest o) ⊎ Member d o.refs
IsRoot up (Load named) d = d ≡ named
IsRoot up (Put k v) d = (d ≡ v) ⊎ (fin.get up.cache k ≡ Some d)
IsRoot up (Get k) d = fin.get up.cache k ≡ Some d

-- the object is the upstream's, and references reach it from one of the call's digests
pub record InTree (up : State) (call : Call) (digest : Digest) (o : Object) : Type 0 where
  pub root : Digest
  pub from : IsRoot up call root
  pub path : List Digest
  pub leads : Leads up path root digest
  pub is : fin.get up.objects digest ≡ Some o

-- ---- what one event may be

-- a look, bind, read or fill is of this digest in this space
abbrev pub IsAbout : Tables → Space → Digest → Act → Type 0
IsAbout s space digest (Look its d) = (its ≡ space) × (d ≡ digest)
IsAbout s space digest (Bind its d own) = (its ≡ space) × (d ≡ digest)
IsAbout s space digest (Read cell) = place_of s.bound space digest ≡ Some cell
IsAbout s space digest (Fill cell value words) = place_of s.bound space digest ≡ Some cell
IsAbout s space digest (Claim n) = Unit {0}
IsAbout s space digest (Room n moved) = Unit {0}

-- a claim of so many words for a record or a subtrie
abbrev pub IsPart : ℕ → Type 0
IsPart n = (n ≡ 5) ⊎ (n ≡ 16)

abbrev pub IsContentOf : Object → ℕ → Type 0
IsContentOf o n = n ≡ content_size (length o.refs) (length o.data)

-- a claim and a refused claim are such claims, and a fill is such a fill
abbrev pub IsMove : (ℕ → Type 0) → (Place → ℕ → List ℕ → Type 0) → Act → Type 0
IsMove claim fill (Look space digest) = Unit {0}
IsMove claim fill (Bind space digest own) = Unit {0}
IsMove claim fill (Read cell) = Unit {0}
IsMove claim fill (Claim n) = claim n
IsMove claim fill (Room n moved) = claim n
IsMove claim fill (Fill cell value words) = fill cell value words

abbrev pub NoClaim : ℕ → Type 0
NoClaim n = ⊥

abbrev pub NoFill : Place → ℕ → List ℕ → Type 0
NoFill cell value words = ⊥

-- looking for the i-th reference, after those before it
abbrev pub MayLookFor : State → Tables → List Event → Who → List Digest → ℕ → Option Digest → Act → Type 0
MayLookFor up start earlier who refs i None act = ⊥
MayLookFor up start earlier who refs i (Some d) act =
    AreThere up start earlier who 0 (take i refs) × IsAbout (tables start earlier) Objects d act × IsMove NoClaim NoFill act

-- a store's own events: it may claim what it needs after it missed its digest, and fills with its object where the upstream lacks it
abbrev pub MayStore : State → Tables → List Event → Who → Object → Act → Type 0
MayStore up start earlier who o act =
    AreThere up start earlier who 0 o.refs
    × IsAbout (tables start earlier) Objects (object_digest o) act
    × IsMove
    (λ n. (IsPart n ⊎ IsContentOf o n) × (missed start who is_own earlier ≡ true))
    (λ cell value words. (object_of (tables start earlier).bound words ≡ o) × (fin.get up.objects (object_digest o) ≡ None))
    act

-- a load looks for its digest alone
abbrev pub MayLoad : Tables → List Event → Digest → Act → Type 0
MayLoad start earlier d act = IsAbout (tables start earlier) Objects d act × IsMove NoClaim NoFill act

-- a claim at the stage of the key
abbrev pub MayClaimKey : Tables → List Event → Who → ℕ → Type 0
MayClaimKey start earlier who n = IsPart n × (missed start who is_key earlier ≡ true)

-- the value is the upstream's where it has the key, and else the call's
abbrev pub IsValue : Option Digest → Digest → Digest → Type 0
IsValue (Some w) v filled = filled ≡ w
IsValue None v filled = filled ≡ v

-- a put's events of its key, after its value was found
abbrev pub MayPut : State → Tables → List Event → Who → Digest → Digest → Act → Type 0
MayPut up start earlier who k v act =
    AreThere up start earlier who 0 (v ∷ [])
    × IsAbout (tables start earlier) Actions k act
    × IsMove (MayClaimKey start earlier who) (λ cell value words. IsValue (fin.get up.cache k) v (digest_at (tables start earlier).bound value)) act

-- a get's events of its key: it fills with the upstream's value
abbrev pub MayGet : State → Tables → List Event → Who → Digest → Act → Type 0
MayGet up start earlier who k act =
    IsAbout (tables start earlier) Actions k act
    × IsMove (MayClaimKey start earlier who) (λ cell value words. fin.get up.cache k ≡ Some (digest_at (tables start earlier).bound value)) act

-- bringing in an object of the call's tree
abbrev pub MayBring : State → Tables → List Event → Who → Call → Act → Type 0
MayBring up start earlier who call act =
    IsMove
    (λ n. (IsPart n ⊎ ((d : Digest) × (o : Object) × InTree up call d o × IsContentOf o n)) × (missed start who is_shallow earlier ≡ true))
    (λ cell value words. (d : Digest) × (o : Object) × InTree up call d o × (place_of (tables start earlier).bound Objects d ≡ Some cell))
    act

-- which events a call may make, by its stage
abbrev pub MayAct : State → Tables → List Event → Who → Call → Stage → Act → Type 0
MayAct up start earlier who call Deep act = MayBring up start earlier who call act
MayAct up start earlier who (Store o) (Ref i) act = MayLookFor up start earlier who o.refs i (slice_get o.refs i) act
MayAct up start earlier who (Store o) Own act = MayStore up start earlier who o act
MayAct up start earlier who (Load d) Own act = MayLoad start earlier d act
MayAct up start earlier who (Put k v) (Ref i) act = MayLookFor up start earlier who (v ∷ []) i (slice_get (v ∷ []) i) act
MayAct up start earlier who (Put k v) Key act = MayPut up start earlier who k v act
MayAct up start earlier who (Get k) Key act = MayGet up start earlier who k act
MayAct up start earlier who call stage act = ⊥

-- the event is one that its call may make
abbrev pub MayMake : State → Tables → List Event → Option Call → Event → Type 0
MayMake up start earlier None event = ⊥
MayMake up start earlier (Some call) event = MayAct up start earlier event.note.who call event.note.stage event.act

-- each event of the session is one that its call may make, and its calls come in order, each decided before the next
abbrev pub HasConduct : State → Tables → (Who → Option Call) → ℕ → List Event → Type 0
HasConduct up start calls session [] = Unit {0}
HasConduct up start calls session (event ∷ earlier) =
    HasConduct up start calls session earlier
    × (event.note.who.session ≡ session → (event.note.who.index ≡ count_of session (history up start calls earlier)) × MayMake up start earlier (calls event.note.who) event)

-- the session's events have conduct, and this call is the one that is not decided yet
pub record CallOpen (up : State) (start : Tables) (calls : Who → Option Call) (who : Who) (seen : List Event) : Type 0 where
  pub conduct : HasConduct up start calls who.session seen
  pub next : who.index ≡ count_of who.session (history up start calls seen)
