-- What holds of the rows in which contents are stored.
use Rattle.std.proofs.Common.{◌≡◌, ℕ, zero, suc, ◌<◌, ◌≤◌, ◌⊎◌, ◌++◌, List, [], ◌∷◌, Bool, true, false, cond, ◌&&◌, inl, inr, Some, None, length, min, append-nil, refl, ap, sym, ◌∙◌, subst, arith}
use Rattle.std.specs.Prelude.{◌↔◌, IsSome, is_some}
use Rattle.std.specs.declared.option.Option.{Option}
use Rattle.std.specs.FinMap as fin
use Rattle.cas_model.specs.declared.contents.Pair.{Pair}
use Rattle.cas_model.specs.declared.digest.Digest.{Digest}
use Rattle.cas_model.specs.declared.note.Note.{Note}
use Rattle.cas_model.specs.declared.note.Stage.TheVariants.{Own}
use Rattle.cas_model.specs.declared.object.Object.{Object}
use Rattle.cas_model.specs.declared.place.Place.{Place}
use Rattle.cas_model.specs.declared.place.Space.{Space}
use Rattle.cas_model.specs.declared.place.Space.TheVariants.{Objects, Actions}
use Rattle.cas_model.specs.declared.tables.Cell.{Cell}
use Rattle.cas_model.specs.declared.tables.Content.{Content}
use Rattle.cas_model.specs.declared.tables.Record.{Record}
use Rattle.cas_model.specs.Contents.{contents_state, objects_map, object_digests, AllMembers}
use Rattle.cas_model.specs.Object.{object_digest}
use Rattle.cas_model.specs.Primary.{primary, cell_under}
use Rattle.cas_model.specs.Start.{IsLawfulStart, IsFilled, RefsBelow}
use Rattle.cas_model.specs.State.{State, empty_state, Member}
use Rattle.cas_model.specs.Tables.{Tables, place_of, record_at, words_at, cell_of, digest_at, digests_at, digest_of_record, same_space, same_digest}
use Rattle.cas_model.proofs.Maps.{get-put, get-object, same-is, same-self}
use Rattle.cas_history.specs.declared.event.Event.{Event}
use Rattle.cas_history.specs.Carried.{carried}
use Rattle.cas_history.specs.End.{ended}
use Rattle.cas_history.specs.Grows.{Grows}
use Rattle.cas_history.specs.Lawful.{IsLawfulRun}
use Rattle.cas_history.specs.Run.{tables}
use Rattle.cas_history.proofs.Grown.{grows-more}
use Rattle.cas_history.proofs.Sound.{sound-start}
use Rattle.cas_history.proofs.Under.{IsUnder, under-cases, under-none}
use Rattle.cell_port.specs.FilledRows.{AreRows, RowNames, filled_objects, row_object, object_with}
use Rattle.cell_port.specs.Needed.{bound_in}
use Rattle.cell_port.specs.Parts.{at_place, places_of}
use Rattle.cell_port.specs.Plain.{Ties, Tied, IsPaid, claims_on}
use Rattle.cell_port.specs.Tables.{PlainRows, as_start}
use Rattle.cell_port.proofs.PlainTies.{content-long}
use Rattle.cell_port.proofs.RowsGrow.{RecordsStay, ContentsStay, object-grow}

-- ---- what is bound

-- a digest with a place is listed
pub bound-listed : (rs : List Record) (space : Space) (d : Digest) → IsSome (place_of rs space d) → Member d (bound_in space rs)
bound-listed [] space d is = cc
bound-listed (r ∷ rs) space d is = step (same_space r.space space) (same_digest r.digest d) refl is (λ h. bound-listed rs space d h) where
  step : (a b : Bool) → same_digest r.digest d ≡ b → IsSome (cond (a && b) (Some r.place) (place_of rs space d)) → (IsSome (place_of rs space d) → Member d (bound_in space rs))
      → Member d (cond a (r.digest ∷ bound_in space rs) (bound_in space rs))
  step true true same is again = inl (same-is r.digest d same)
  step true false same is again = inr (again is)
  step false b same is again = again is

-- and a listed one has a place
listed-bound : (rs : List Record) (space : Space) (d : Digest) → Member d (bound_in space rs) → IsSome (place_of rs space d)
listed-bound [] space d m = absurd m
listed-bound (r ∷ rs) space d m = step (same_space r.space space) (same_digest r.digest d) refl m (λ h. listed-bound rs space d h) where
  step : (a b : Bool) → same_digest r.digest d ≡ b → Member d (cond a (r.digest ∷ bound_in space rs) (bound_in space rs)) → (Member d (bound_in space rs) → IsSome (place_of rs space d))
      → IsSome (cond (a && b) (Some r.place) (place_of rs space d))
  step true true same m again = refl
  step true false same (inl is) again = absurd (cc (ap (λ x. same_digest x d) is, same, same-self d))
  step true false same (inr m) again = again m
  step false b same m again = again m

-- so where these are listed, exactly these have places
pub bound-are : (rs : List Record) (space : Space) (ds : List Digest) → bound_in space rs ≡ ds → (d : Digest) → IsSome (place_of rs space d) ↔ Member d ds
bound-are rs space ds is d = subst (λ (xs : List Digest). IsSome (place_of rs space d) ↔ Member d xs) is (bound-listed rs space d, listed-bound rs space d)

-- a digest that is not among the bound ones is not bound
pub none-in : (rs : List Record) (space : Space) (d : Digest) → (Member d (bound_in space rs) → ⊥) → place_of rs space d ≡ None
none-in rs space d none = step (place_of rs space d) refl where
  step : (o : Option Place) → place_of rs space d ≡ o → place_of rs space d ≡ None
  step None is = is
  step (Some p) is = absurd (none (bound-listed rs space d (ap is_some is)))

-- an object whose digest is listed is in the map
pub member-has : (objects : List Object) (d : Digest) → Member d (object_digests objects) → (o : Object) × (fin.get (objects_map objects) d ≡ Some o)
member-has [] d m = absurd m
member-has (x ∷ xs) d m = step (same_digest d (object_digest x)) refl m (λ h. member-has xs d h) where
  step : (b : Bool) → same_digest d (object_digest x) ≡ b → Member d (object_digests (x ∷ xs)) → (Member d (object_digests xs) → (o : Object) × (fin.get (objects_map xs) d ≡ Some o))
      → (o : Object) × (fin.get (objects_map (x ∷ xs)) d ≡ Some o)
  step true test m again = (x, get-put (objects_map xs) (object_digest x) x d ∙ ap (λ b. cond b (Some x) (fin.get (objects_map xs) d)) test)
  step false test (inl same) again = absurd (cc (ap (same_digest d) same, test, same-self d))
  step false test (inr m) again = let there = again m in (there.0, get-put (objects_map xs) (object_digest x) x d ∙ ap (λ b. cond b (Some x) (fin.get (objects_map xs) d)) test ∙ there.1)

-- the objects that the rows name stay the same
pub row-stays : (bound new : List Record) (blocks more : List Content) (records : RecordsStay bound new) → ContentsStay blocks more → (cells : List Cell) (found : Record) (value : ℕ) (space : Space) → found.space ≡ space
    → RowNames bound blocks cells space found.digest value → row_object new more (Some found) value ≡ row_object bound blocks (Some found) value
row-stays bound new blocks more records contents cells found value Actions is names =
    (λ i. cond (same_space (is i) Objects) (object_with new (words_at more value)) []) ∙ sym (λ i. cond (same_space (is i) Objects) (object_with bound (words_at blocks value)) [])
row-stays bound new blocks more records contents cells found value Objects is (words, there, names) =
    (λ i. cond (same_space (is i) Objects) (object_with new (contents.stay value words there i)) [])
    ∙ ap (λ (o : Object). o ∷ []) (object-grow bound new records cells words names.refs)
    ∙ sym (λ i. cond (same_space (is i) Objects) (object_with bound (there i)) [])

pub filled-stay : (bound new : List Record) (blocks more : List Content) → RecordsStay bound new → ContentsStay blocks more → (cells : List Cell) → AreRows bound blocks cells
    → filled_objects new more cells ≡ filled_objects bound blocks cells
filled-stay bound new blocks more records contents [] rows = refl
filled-stay bound new blocks more records contents (c ∷ cs) rows =
    let now = records.stay c.of.at rows.0.found rows.0.is in
    let same = row-stays bound new blocks more records contents cs rows.0.found c.value rows.0.found.space refl rows.0.names in
    let here : row_object new more (record_at new c.of.at) c.value ≡ row_object bound blocks (record_at bound c.of.at) c.value =
    ap (λ (o : Option Record). row_object new more o c.value) now ∙ same ∙ sym (ap (λ (o : Option Record). row_object bound blocks o c.value) rows.0.is) in
    λ i. here i ++ filled-stay bound new blocks more records contents cs rows.1 i

-- ---- the start of one more step

pub somebody : Note
somebody = record { who = record { session = 0; index = 0 }; stage = Own }

-- the rows so far, as those of a start
abbrev pub from_here : PlainRows → PlainRows
from_here r = record r { start = as_start r }

pub tied-here : (r : PlainRows) → IsLawfulStart (as_start r) → AreRows r.bound r.blocks r.filled → IsPaid r [] → Tied empty_state (from_here r) [] []
tied-here r lawful rows paid = record {
  ties = record { size_is = refl; counter_is = refl; given_is = refl; bound_is = refl; filled_is = refl; blocks_is = refl };
  lawful = lawful;
  within = lawful.counter_most;
  opens = tt;
  paid = paid;
  rows = rows;
}

-- the end of a run is the start of the rows that go with it
pub ended-is : (s : Tables) (r : PlainRows) → Ties s r → r.counter ≤ r.start.size → ended s ≡ as_start r
ended-is s r t within =
    let least : min s.counter s.size ≡ r.counter = omega (arith, t.counter_is, t.size_is) in
    λ i. record { size = t.size_is i; counter = least i; given = least i; bound = t.bound_is i; filled = t.filled_is i; blocks = t.blocks_is i; claims = [] }

-- claims add nothing to the state
pub carried-claims : (start : Tables) (note : Note) (k : ℕ) (seen : List Event) → carried start (claims_on note k seen) ≡ carried start seen
carried-claims start note zero seen = refl
carried-claims start note (suc k) seen = carried-claims start note k seen

-- what the rows say of the record of a stored object
pub record RefIs (r : PlainRows) (d : Digest) : Type 0 where
  pub place : Place
  pub at : place_of r.bound Objects d ≡ Some place
  pub found : Record
  pub is : record_at r.bound place.at ≡ Some found
  pub object : found.space ≡ Objects
  pub named : found.digest ≡ d
  pub some : 0 < cell_of r.filled place.at
  pub below : cell_of r.filled place.at < r.counter

pub ref-is : (r : PlainRows) (objects : List Object) (pairs : List Pair) → IsLawfulStart (as_start r) → primary (as_start r) ≡ contents_state objects pairs → (d : Digest) → Member d (object_digests objects) → RefIs r d
ref-is r objects pairs lawful state d m = step (under-cases (as_start r) d (sound-start (as_start r) lawful)) where
  step : (cell_under (as_start r) Objects d ≡ 0) ⊎ IsUnder (as_start r) d → RefIs r d
  step (inl none) =
      let there = member-has objects d m in
      absurd (cc (under-none (as_start r) d none, sym (get-object (as_start r) d) ∙ ap (λ (s : State). fin.get s.objects d) state, there.1))
  step (inr u) =
      let tied = lawful.tied.to Objects d u.place u.at in
      let long = content-long empty_state (as_start r) [] lawful (cell_of r.filled u.place.at) u.words u.some u.there in
      let within = lawful.within (cell_of r.filled u.place.at) (length u.words) (inr (u.words, u.there, refl)) in
      record { place = u.place; at = u.at; found = tied.0; is = tied.1; object = tied.2; named = tied.3; some = u.some; below = omega (arith, within.1, long) }

-- the references of an object lie there, in tables that have grown from these rows
pub refs-there : (r : PlainRows) (t : Tables) (value : ℕ) → Grows (as_start r) t → r.counter ≤ value → (ds known : List Digest) → ((d : Digest) → Member d known → RefIs r d) → AllMembers ds known
    → RefsBelow t value (places_of r.bound ds) × (digests_at t.bound (places_of r.bound ds) ≡ ds)
refs-there r t value grows le [] known refs all = (tt, refl)
refs-there r t value grows le (d ∷ ds) known refs all =
    let ref = refs d all.0 in
    let rest = refs-there r t value grows le ds known refs all.1 in
    let place : at_place (place_of r.bound Objects d) ≡ ref.place.at = ap at_place ref.at in
    let now : record_at t.bound ref.place.at ≡ Some ref.found = grows.records ref.place.at ref.found ref.is in
    let cell : cell_of t.filled ref.place.at ≡ cell_of r.filled ref.place.at = grows.cells ref.place.at ref.some in
    let filled : IsFilled t ref.place.at = record { object = record { found = ref.found; is = now; in_space = ref.object }; filled = subst (λ (n : ℕ). 0 < n) (sym cell) ref.some } in
    let below : cell_of t.filled ref.place.at < value = omega (arith, cell, ref.below) in
    let named : digest_at t.bound ref.place.at ≡ d = ap digest_of_record now ∙ ref.named in (
      subst (λ (n : ℕ). IsFilled t n × (cell_of t.filled n < value) × RefsBelow t value (places_of r.bound ds)) (sym place) (filled, below, rest.0),
      λ i. (ap (digest_at t.bound) place ∙ named) i ∷ rest.1 i,
    )

pub grows-run : (up : State) (start : Tables) (seen : List Event) → IsLawfulRun up start seen → Grows start (tables start seen)
grows-run up start seen lawful =
    subst (λ (es : List Event). Grows start (tables start es)) (append-nil seen) (grows-more up start seen [] (subst (λ (es : List Event). IsLawfulRun up start es) (sym (append-nil seen)) lawful))
