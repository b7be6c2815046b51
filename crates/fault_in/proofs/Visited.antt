-- The order in which objects are brought in, as the call goes through the tree.
use Rattle.std.proofs.Common.{◌≡◌, ℕ, zero, suc, ◌+◌, List, [], ◌∷◌, ◌++◌, true, false, None, Some, refl, ap, sym, ◌∙◌, subst, append_assoc, slice_get, take, drop, length}
use Rattle.std.specs.FinMap as fin
use Rattle.cas_model.specs.declared.call.Who.{Who}
use Rattle.cas_model.specs.declared.digest.Digest.{Digest}
use Rattle.cas_model.specs.declared.object.Object.{Object}
use Rattle.cas_model.specs.State.{State, has}
use Rattle.cas_model.specs.Tables.{Tables}
use Rattle.cas_history.specs.declared.event.Event.{Event}
use Rattle.cas_history.specs.Run.{primary_of}
use Rattle.fault_in.specs.declared.walking.Open.{Open}
use Rattle.fault_in.specs.Open.{HasAdded, IsOpening}
use Rattle.fault_in.specs.Order.{FillsLast, HasNoFill, IsQuiet, Visits, VisitsSome, ends, passes, brings, stops, goes_on, goes_below}
use Rattle.fault_in.proofs.Opened.{AreLinked, AreOpened, length-more, linked-pop, take-end, take-more}

-- ---- quiet stretches

no-fill-append : (who : Who) (xs ys : List Event) → HasNoFill who xs → HasNoFill who ys → HasNoFill who (xs ++ ys)
no-fill-append who [] ys one two = two
no-fill-append who (x ∷ xs) ys one two = (one.0, no-fill-append who xs ys one.1 two)

pub quiet-self : (who : Who) (seen : List Event) → IsQuiet who seen seen
quiet-self who seen = record { more = []; is = refl; none = tt }

pub quiet-then : (who : Who) (a b c : List Event) → IsQuiet who a b → IsQuiet who b c → IsQuiet who a c
quiet-then who a b c ab bc = record {
  more = bc.more ++ ab.more;
  is = bc.is ∙ ap (λ (s : List Event). bc.more ++ s) ab.is ∙ sym (append_assoc bc.more ab.more a);
  none = no-fill-append who bc.more ab.more bc.none ab.none;
}

module _ (up : State) (start : Tables) (who : Who) where
  -- ---- visits one after another

  pub visits-then : {xs ys : List Digest} {a b c : List Event} → Visits up start who xs a b → Visits up start who ys b c → Visits up start who (xs ++ ys) a c
  visits-then ends then = then
  visits-then (passes quiet there rest) then = passes quiet there (visits-then rest then)
  visits-then (brings o is quiet lacks below fills rest) then = brings o is quiet lacks below fills (visits-then rest then)

  pub some-then : {xs ys : List Digest} {a b c : List Event} → Visits up start who xs a b → VisitsSome up start who ys b c → VisitsSome up start who (xs ++ ys) a c
  some-then ends then = then
  some-then (passes quiet there rest) then = goes_on (passes quiet there ends) (some-then rest then)
  some-then (brings o is quiet lacks below fills rest) then = goes_on (brings o is quiet lacks below fills ends) (some-then rest then)

  some-more : {xs : List Digest} {a b : List Event} (ys : List Digest) → VisitsSome up start who xs a b → VisitsSome up start who (xs ++ ys) a b
  some-more ys (stops quiet) = stops quiet
  some-more ys (goes_on first rest) = goes_on first (some-more ys rest)
  some-more ys (goes_below o is quiet lacks below) = goes_below o is quiet lacks below

  pub visits-after : {digest : Digest} {rest : List Digest} {a b c : List Event} → IsQuiet who a b → Visits up start who (digest ∷ rest) b c → Visits up start who (digest ∷ rest) a c
  visits-after before (passes quiet there rest) = passes (quiet-then who _ _ _ before quiet) there rest
  visits-after before (brings o is quiet lacks below fills rest) = brings o is (quiet-then who _ _ _ before quiet) lacks below fills rest

  pub some-after : {digest : Digest} {rest : List Digest} {a b c : List Event} → IsQuiet who a b → VisitsSome up start who (digest ∷ rest) b c → VisitsSome up start who (digest ∷ rest) a c
  some-after before (stops quiet) = stops (quiet-then who _ _ _ before quiet)
  some-after before (goes_on first rest) = goes_on (visits-after before first) rest
  some-after before (goes_below o is quiet lacks below) = goes_below o is (quiet-then who _ _ _ before quiet) lacks below

  -- ---- open objects

  -- the object was missing when it was looked for, and its first references were visited
  pub record IsVisiting (f : Open) (before now : List Event) : Type 0 where
    pub looked : List Event
    pub quiet : IsQuiet who before looked
    pub lacks : has (primary_of start looked) f.digest ≡ false
    pub refs : Visits up start who (take (length f.places.items) f.object.refs) looked now

  -- those that wait, one after another, and the newest one
  abbrev pub AreVisiting : List Open → Open → List Event → List Event → Type 0
  AreVisiting [] top before now = IsVisiting top before now
  AreVisiting (f ∷ fs) top before now = (mid : List Event) × IsVisiting f before mid × AreVisiting fs top mid now

  pub opening-visits : (child : Digest) (f : Open) (before looked : List Event) → IsOpening up child f → IsQuiet who before looked → has (primary_of start looked) child ≡ false → IsVisiting f before looked
  opening-visits child f before looked opening quiet lacks = record {
    looked = looked;
    quiet = quiet;
    lacks = subst (λ (d : Digest). has (primary_of start looked) d ≡ false) (sym opening.digest_is) lacks;
    refs = subst (λ (ns : List ℕ). Visits up start who (take (length ns) f.object.refs) looked looked) (sym opening.none) ends;
  }

  -- one more reference was visited
  visiting-more : (f next : Open) (child : Digest) (place : ℕ) (before now new : List Event) → IsVisiting f before now → slice_get f.object.refs (length f.places.items) ≡ Some child
      → Visits up start who (child ∷ []) now new → HasAdded f next place → IsVisiting next before new
  visiting-more f next child place before now new h at visit added =
      let long : length (f.places.items ++ (place ∷ [])) ≡ length f.places.items + 1 = length-more f.places.items place in
      let more : take (length (f.places.items ++ (place ∷ []))) f.object.refs ≡ take (length f.places.items) f.object.refs ++ (child ∷ []) = ap (λ n. take n f.object.refs) long ∙ take-more f.object.refs (length f.places.items) child at in
      record {
        looked = h.looked;
        quiet = h.quiet;
        lacks = subst (λ (d : Digest). has (primary_of start h.looked) d ≡ false) (sym added.digest) h.lacks;
        refs = subst (λ (o : Object). Visits up start who (take (length next.places.items) o.refs) h.looked new) (sym added.object)
            (subst (λ (ns : List ℕ). Visits up start who (take (length ns) f.object.refs) h.looked new) (sym added.places)
            (subst (λ (ds : List Digest). Visits up start who ds h.looked new) (sym more) (visits-then h.refs visit)));
      }

  -- all references were visited, and the object was filled
  pub visited-whole : (f : Open) (before now new : List Event) → IsVisiting f before now → fin.get up.objects f.digest ≡ Some f.object → slice_get f.object.refs (length f.places.items) ≡ None
      → FillsLast start who f.digest now new → Visits up start who (f.digest ∷ []) before new
  visited-whole f before now new h is at fills =
      brings f.object is h.quiet h.lacks (subst (λ (ds : List Digest). Visits up start who ds h.looked now) (take-end f.object.refs (length f.places.items) at) h.refs) fills ends

  -- the next reference of the newest one was there
  pub order-found : (fs : List Open) (top next : Open) (child : Digest) (place : ℕ) (before now new : List Event) → AreVisiting fs top before now → slice_get top.object.refs (length top.places.items) ≡ Some child
      → IsQuiet who now new → has (primary_of start new) child ≡ true → HasAdded top next place → AreVisiting fs next before new
  order-found [] top next child place before now new h at quiet there added = visiting-more top next child place before now new h at (passes quiet there ends) added
  order-found (f ∷ fs) top next child place before now new h at quiet there added = (h.0, h.1, order-found fs top next child place h.0 now new h.2 at quiet there added)

  -- it was not, and is opened
  order-push : (fs : List Open) (top next : Open) (before now new : List Event) → AreVisiting fs top before now → IsVisiting next now new → AreVisiting (fs ++ (top ∷ [])) next before new
  order-push [] top next before now new h one = (now, h, one)
  order-push (f ∷ fs) top next before now new h one = (h.0, h.1, order-push fs top next h.0 now new h.2 one)

  pub order-down : (fs later : List Open) (top next : Open) (child : Digest) (before now new : List Event) → AreVisiting fs top before now → IsQuiet who now new → has (primary_of start new) child ≡ false
      → IsOpening up child next → later ≡ fs ++ (top ∷ []) → AreVisiting later next before new
  order-down fs later top next child before now new h quiet lacks opening is =
      subst (λ (os : List Open). AreVisiting os next before new) (sym is) (order-push fs top next before now new h (opening-visits child next now new opening quiet lacks))

  -- the newest one was visited whole, and another one waits for it
  order-pop : (rest : List Open) (parent top next : Open) (place : ℕ) (before now new : List Event) → AreVisiting (rest ++ (parent ∷ [])) top before now → slice_get parent.object.refs (length parent.places.items) ≡ Some top.digest
      → ((mid : List Event) → IsVisiting top mid now → Visits up start who (top.digest ∷ []) mid new) → HasAdded parent next place → AreVisiting rest next before new
  order-pop [] parent top next place before now new h at whole added = visiting-more parent next top.digest place before h.0 new h.1 at (whole h.0 h.2) added
  order-pop (f ∷ fs) parent top next place before now new h at whole added = (h.0, h.1, order-pop fs parent top next place h.0 now new h.2 at whole added)

  pub order-up : (root : Digest) (fs rest : List Open) (parent top next : Open) (place : ℕ) (before now new : List Event) → AreVisiting fs top before now → AreLinked root fs top.digest
      → fin.get up.objects top.digest ≡ Some top.object → slice_get top.object.refs (length top.places.items) ≡ None → FillsLast start who top.digest now new → fs ≡ rest ++ (parent ∷ [])
      → HasAdded parent next place → AreVisiting rest next before new
  order-up root fs rest parent top next place before now new h linked is at fills last added =
      order-pop rest parent top next place before now new (subst (λ (os : List Open). AreVisiting os top before now) last h)
      (linked-pop root rest parent top.digest (subst (λ (os : List Open). AreLinked root os top.digest) last linked)).1 (λ mid one. visited-whole top mid now new one is at fills) added

  -- nothing waits for it
  pub order-out : (root : Digest) (fs : List Open) (top : Open) (before now new : List Event) → AreVisiting fs top before now → AreLinked root fs top.digest → fin.get up.objects top.digest ≡ Some top.object
      → slice_get top.object.refs (length top.places.items) ≡ None → FillsLast start who top.digest now new → fs ≡ [] → Visits up start who (root ∷ []) before new
  order-out root fs top before now new h linked is at fills none =
      let last : root ≡ top.digest = subst (λ (os : List Open). AreLinked root os top.digest) none linked in
      subst (λ (d : Digest). Visits up start who (d ∷ []) before new) (sym last)
      (visited-whole top before now new (subst (λ (os : List Open). AreVisiting os top before now) none h) is at fills)

  -- ---- the call stops

  split-at : (xs : List Digest) (i : ℕ) (d : Digest) → slice_get xs i ≡ Some d → xs ≡ take i xs ++ (d ∷ drop (suc i) xs)
  split-at [] i d at = cc
  split-at (x ∷ xs) zero d at = let e : x ≡ d = cc in ap (λ (y : Digest). y ∷ xs) e
  split-at (x ∷ xs) (suc i) d at = ap (λ (ys : List Digest). x ∷ ys) (split-at xs i d at)

  split-all : (xs : List Digest) (i : ℕ) → xs ≡ take i xs ++ drop i xs
  split-all [] zero = refl
  split-all [] (suc i) = refl
  split-all (x ∷ xs) zero = refl
  split-all (x ∷ xs) (suc i) = ap (λ (ys : List Digest). x ∷ ys) (split-all xs i)

  -- at the next reference
  stops-within : (f : Open) (child : Digest) (before mid new : List Event) → IsVisiting f before mid → fin.get up.objects f.digest ≡ Some f.object → slice_get f.object.refs (length f.places.items) ≡ Some child
      → VisitsSome up start who (child ∷ []) mid new → VisitsSome up start who (f.digest ∷ []) before new
  stops-within f child before mid new h is at some =
      goes_below f.object is h.quiet h.lacks
      (subst (λ (ds : List Digest). VisitsSome up start who ds h.looked new) (sym (split-at f.object.refs (length f.places.items) child at))
      (some-then h.refs (some-more (drop (suc (length f.places.items)) f.object.refs) some)))

  stops-quiet : (f : Open) (before now new : List Event) → IsVisiting f before now → fin.get up.objects f.digest ≡ Some f.object → IsQuiet who now new → VisitsSome up start who (f.digest ∷ []) before new
  stops-quiet f before now new h is quiet =
      goes_below f.object is h.quiet h.lacks
      (subst (λ (ds : List Digest). VisitsSome up start who ds h.looked new) (sym (split-all f.object.refs (length f.places.items))) (some-then h.refs (stops quiet)))

  stops-in : (s : Tables) (r root : Digest) (fs : List Open) (top : Open) (before now new : List Event) → AreVisiting fs top before now → AreOpened s up r fs → AreLinked root fs top.digest
      → ((mid : List Event) → IsVisiting top mid now → VisitsSome up start who (top.digest ∷ []) mid new) → VisitsSome up start who (root ∷ []) before new
  stops-in s r root [] top before now new h opened linked last = subst (λ (d : Digest). VisitsSome up start who (d ∷ []) before new) (sym linked) (last before h)
  stops-in s r root (f ∷ fs) top before now new h opened linked last =
      subst (λ (d : Digest). VisitsSome up start who (d ∷ []) before new) linked.0
      (stops-within f linked.1 before h.0 new h.1 opened.0.below.is linked.2 (stops-in s r linked.1 fs top h.0 now new h.2 opened.1 linked.3 last))

  -- nothing more was filled
  pub order-stops : (s : Tables) (r root : Digest) (fs : List Open) (top : Open) (before now new : List Event) → AreVisiting fs top before now → AreOpened s up r fs → AreLinked root fs top.digest
      → fin.get up.objects top.digest ≡ Some top.object → IsQuiet who now new → VisitsSome up start who (root ∷ []) before new
  order-stops s r root fs top before now new h opened linked is quiet = stops-in s r root fs top before now new h opened linked (λ mid one. stops-quiet top mid now new one is quiet)

  -- the newest one was filled
  pub order-filled : (s : Tables) (r root : Digest) (fs : List Open) (top : Open) (before now new : List Event) → AreVisiting fs top before now → AreOpened s up r fs → AreLinked root fs top.digest
      → fin.get up.objects top.digest ≡ Some top.object → slice_get top.object.refs (length top.places.items) ≡ None → FillsLast start who top.digest now new → VisitsSome up start who (root ∷ []) before new
  order-filled s r root fs top before now new h opened linked is at fills =
      stops-in s r root fs top before now new h opened linked (λ mid one. goes_on (visited-whole top mid now new one is at fills) (stops (quiet-self who new)))
