-- The list of open objects.
use Rattle.std.proofs.Common.{◌≡◌, ℕ, zero, suc, ◌+◌, ◌<◌, ◌≤◌, List, [], ◌∷◌, ◌++◌, true, inl, inr, None, Some, refl, ap, sym, ◌∙◌, subst, arith, slice_get, take, length}
use Rattle.std.specs.FinMap as fin
use Rattle.cas_model.specs.declared.digest.Digest.{Digest}
use Rattle.cas_model.specs.declared.object.Object.{Object}
use Rattle.cas_model.specs.declared.place.Place.{Place}
use Rattle.cas_model.specs.declared.place.Space.TheVariants.{Objects}
use Rattle.cas_model.specs.State.{State, HasAll, Leads, Member, Refers, has}
use Rattle.cas_model.specs.Tables.{Tables, place_of}
use Rattle.cas_history.proofs.Grown.{Grows}
use Rattle.cas_port.specs.View.{View, tables}
use Rattle.graph_db.specs.Storing.{AreFilled, place_number, places_in}
use Rattle.graph_db.proofs.Found.{filled-grows}
use Rattle.fault_in.specs.declared.walking.Open.{Open}
use Rattle.fault_in.specs.Open.{HasAdded, IsOpening}
use Rattle.fault_in.specs.Bringing.{IsFilledAt}
use Rattle.fault_in.specs.Tree.{IsBelow}
use Rattle.fault_in.proofs.Contents.{places-grow}

-- ---- lists of digests

filled-append : (s : Tables) (xs ys : List Digest) → AreFilled s xs → AreFilled s ys → AreFilled s (xs ++ ys)
filled-append s [] ys one two = two
filled-append s (x ∷ xs) ys one two = (one.0, filled-append s xs ys one.1 two)

places-append : (s : Tables) (xs ys : List Digest) → places_in s (xs ++ ys) ≡ places_in s xs ++ places_in s ys
places-append s [] ys = refl
places-append s (x ∷ xs) ys = ap (λ (ns : List ℕ). place_number (place_of s.bound Objects x) ∷ ns) (places-append s xs ys)

pub take-more : (xs : List Digest) (i : ℕ) (d : Digest) → slice_get xs i ≡ Some d → take (i + 1) xs ≡ take i xs ++ (d ∷ [])
take-more [] i d at = cc
take-more (x ∷ xs) zero d at = let e : x ≡ d = cc in ap (λ (y : Digest). y ∷ []) e
take-more (x ∷ xs) (suc i) d at = let e : suc i + 1 ≡ suc (i + 1) = omega arith in ap (λ n. take n (x ∷ xs)) e ∙ ap (λ (ys : List Digest). x ∷ ys) (take-more xs i d at)

pub get-within : (xs : List Digest) (i : ℕ) (d : Digest) → slice_get xs i ≡ Some d → i < length xs
get-within [] i d at = cc
get-within (x ∷ xs) zero d at = omega arith
get-within (x ∷ xs) (suc i) d at = let lt = get-within xs i d at in omega (arith, lt)

pub get-member : (xs : List Digest) (i : ℕ) (d : Digest) → slice_get xs i ≡ Some d → Member d xs
get-member [] i d at = cc
get-member (x ∷ xs) zero d at = let e : x ≡ d = cc in inl e
get-member (x ∷ xs) (suc i) d at = inr (get-member xs i d at)

pub take-end : (xs : List Digest) (i : ℕ) → slice_get xs i ≡ None → take i xs ≡ xs
take-end [] zero at = refl
take-end [] (suc i) at = refl
take-end (x ∷ xs) zero at = cc
take-end (x ∷ xs) (suc i) at = ap (λ (ys : List Digest). x ∷ ys) (take-end xs i at)

pub length-more : (xs : List ℕ) (n : ℕ) → length (xs ++ (n ∷ [])) ≡ length xs + 1
length-more [] n = refl
length-more (x ∷ xs) n = ap suc (length-more xs n) ∙ omega arith

pub member-has : (s : State) (d : Digest) (ds : List Digest) → HasAll s ds → Member d ds → has s d ≡ true
member-has s d [] all there = absurd there
member-has s d (x ∷ xs) all (inl e) = subst (λ (y : Digest). has s y ≡ true) e all.0
member-has s d (x ∷ xs) all (inr there) = member-has s d xs all.1 there

-- ---- chains of references

leads-more : (s : State) (path : List Digest) (a b c : Digest) → Leads s path a b → Refers s b c → Leads s (path ++ (c ∷ [])) a c
leads-more s [] a b c leads refers = (subst (λ (x : Digest). Refers s x c) (sym leads) refers, refl)
leads-more s (next ∷ path) a b c leads refers = (leads.0, leads-more s path next b c leads.1 refers)

pub below-more : (up : State) (root d child : Digest) (o next : Object) (i : ℕ) → IsBelow up root d o → slice_get o.refs i ≡ Some child → fin.get up.objects child ≡ Some next → IsBelow up root child next
below-more up root d child o next i h at is = record {
  path = h.path ++ (child ∷ []);
  leads = leads-more up h.path root d child h.leads (o, h.is, get-member o.refs i child at);
  is = is;
}

-- ---- open objects

-- an object of the tree whose first references are filled at these places
pub record IsOpenedAs (s : Tables) (up : State) (root : Digest) (digest : Digest) (o : Object) (ns : List ℕ) : Type 0 where
  pub below : IsBelow up root digest o
  pub few : length ns ≤ length o.refs
  pub filled : AreFilled s (take (length ns) o.refs)
  pub places : ns ≡ places_in s (take (length ns) o.refs)

abbrev pub IsOpened : Tables → State → Digest → Open → Type 0
IsOpened s up root f = IsOpenedAs s up root f.digest f.object f.places.items

abbrev pub AreOpened : Tables → State → Digest → List Open → Type 0
AreOpened s up root [] = Unit {0}
AreOpened s up root (f ∷ fs) = IsOpened s up root f × AreOpened s up root fs

-- the first is the root's, each waits for the next one, and the last for the digest
abbrev pub AreLinked : Digest → List Open → Digest → Type 0
AreLinked root [] d = root ≡ d
AreLinked root (f ∷ fs) d = (f.digest ≡ root) × (next : Digest) × (slice_get f.object.refs (length f.places.items) ≡ Some next) × AreLinked next fs d

pub opened-grows : (s t : Tables) (up : State) (root : Digest) (f : Open) → Grows s t → IsOpened s up root f → IsOpened t up root f
opened-grows s t up root f grows h = record {
  below = h.below;
  few = h.few;
  filled = filled-grows s t (take (length f.places.items) f.object.refs) grows h.filled;
  places = h.places ∙ places-grow s t (take (length f.places.items) f.object.refs) grows h.filled;
}

pub all-grow : (s t : Tables) (up : State) (root : Digest) (fs : List Open) → Grows s t → AreOpened s up root fs → AreOpened t up root fs
all-grow s t up root [] grows h = tt
all-grow s t up root (f ∷ fs) grows h = (opened-grows s t up root f grows h.0, all-grow s t up root fs grows h.1)

pub all-push : (s : Tables) (up : State) (root : Digest) (fs : List Open) (f : Open) → AreOpened s up root fs → IsOpened s up root f → AreOpened s up root (fs ++ (f ∷ []))
all-push s up root [] f h one = (one, tt)
all-push s up root (x ∷ fs) f h one = (h.0, all-push s up root fs f h.1 one)

pub all-pop : (s : Tables) (up : State) (root : Digest) (fs : List Open) (f : Open) → AreOpened s up root (fs ++ (f ∷ [])) → AreOpened s up root fs × IsOpened s up root f
all-pop s up root [] f h = (tt, h.0)
all-pop s up root (x ∷ fs) f h = let rest = all-pop s up root fs f h.1 in ((h.0, rest.0), rest.1)

pub linked-push : (root : Digest) (fs : List Open) (f : Open) (d : Digest) → AreLinked root fs f.digest → slice_get f.object.refs (length f.places.items) ≡ Some d → AreLinked root (fs ++ (f ∷ [])) d
linked-push root [] f d h at = (sym h, d, at, refl)
linked-push root (x ∷ fs) f d h at = (h.0, h.1, h.2, linked-push h.1 fs f d h.3 at)

pub linked-pop : (root : Digest) (fs : List Open) (f : Open) (d : Digest) → AreLinked root (fs ++ (f ∷ [])) d → AreLinked root fs f.digest × (slice_get f.object.refs (length f.places.items) ≡ Some d)
linked-pop root [] f d h = (sym h.0, subst (λ (x : Digest). slice_get f.object.refs (length f.places.items) ≡ Some x) h.3 h.2)
linked-pop root (x ∷ fs) f d h = let rest = linked-pop h.1 fs f d h.3 in ((h.0, h.1, h.2, rest.0), rest.1)

-- one more reference is filled
pub opened-more : (v : View) (up : State) (root : Digest) (f next : Open) (d : Digest) (place : Place) → IsOpened (tables v) up root f → slice_get f.object.refs (length f.places.items) ≡ Some d → IsFilledAt d v place
    → HasAdded f next place.at → IsOpened (tables v) up root next
opened-more v up root f next d place h at there added =
    let s : Tables = tables v in
    let long : length (f.places.items ++ (place.at ∷ [])) ≡ length f.places.items + 1 = length-more f.places.items place.at in
    let more : take (length (f.places.items ++ (place.at ∷ []))) f.object.refs ≡ take (length f.places.items) f.object.refs ++ (d ∷ []) = ap (λ n. take n f.object.refs) long ∙ take-more f.object.refs (length f.places.items) d at in
    let number : place.at ≡ place_number (place_of s.bound Objects d) = sym (ap place_number there.at) in
    let one : IsOpenedAs (tables v) up root f.digest f.object (f.places.items ++ (place.at ∷ [])) = record {
      below = h.below;
      few = let lt = get-within f.object.refs (length f.places.items) d at in omega (arith, lt, long);
      filled = subst (λ (ds : List Digest). AreFilled s ds) (sym more) (filled-append s (take (length f.places.items) f.object.refs) (d ∷ []) h.filled (there.filled, tt));
      places = (λ i. h.places i ++ (number i ∷ [])) ∙ sym (places-append s (take (length f.places.items) f.object.refs) (d ∷ [])) ∙ ap (places_in s) (sym more);
    } in
    subst (λ (x : Digest). IsOpenedAs (tables v) up root x next.object next.places.items) (sym added.digest)
    (subst (λ (x : Object). IsOpenedAs (tables v) up root f.digest x next.places.items) (sym added.object)
    (subst (λ (ns : List ℕ). IsOpenedAs (tables v) up root f.digest f.object ns) (sym added.places) one))

-- an object that is opened
pub opening-opened : (s : Tables) (up : State) (root child : Digest) (f : Open) → IsOpening up child f → IsBelow up root child f.object → IsOpened s up root f
opening-opened s up root child f h below = record {
  below = subst (λ (d : Digest). IsBelow up root d f.object) (sym h.digest_is) below;
  few = let e = ap length h.none in omega (arith, e);
  filled = subst (λ (ns : List ℕ). AreFilled s (take (length ns) f.object.refs)) (sym h.none) tt;
  places = subst (λ (ns : List ℕ). ns ≡ places_in s (take (length ns) f.object.refs)) (sym h.none) refl;
}

-- all references are filled
pub opened-whole : (s : Tables) (up : State) (root : Digest) (f : Open) → IsOpened s up root f → slice_get f.object.refs (length f.places.items) ≡ None
    → AreFilled s f.object.refs × (f.places.items ≡ places_in s f.object.refs)
opened-whole s up root f h at =
    let all = take-end f.object.refs (length f.places.items) at in
    (subst (λ (ds : List Digest). AreFilled s ds) all h.filled, h.places ∙ ap (places_in s) all)
