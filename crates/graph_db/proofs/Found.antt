-- Looking for the references of a store.
use Rattle.std.proofs.Common.{◌≡◌, ℕ, zero, suc, ◌+◌, ◌<◌, List, [], ◌∷◌, ◌++◌, Bool, true, false, not, ◌==◌, ◌&&◌, ◌||◌, inl, inr, None, Some, refl, ap, sym, ◌∙◌, subst, arith, slice_get, take, length, add-zero}
use Rattle.std.specs.declared.option.Option.{Option}
use Rattle.std.proofs.lemmas.Bool.{eq-eqb, eqb-true}
use Rattle.cas_model.specs.declared.call.Call.{Call}
use Rattle.cas_model.specs.declared.call.Call.TheVariants.{Store}
use Rattle.cas_model.specs.declared.call.Reply.{Reply}
use Rattle.cas_model.specs.declared.call.Reply.TheVariants.{Dangling}
use Rattle.cas_model.specs.declared.call.Who.{Who}
use Rattle.cas_model.specs.declared.digest.Digest.{Digest}
use Rattle.cas_model.specs.declared.note.Note.{Note}
use Rattle.cas_model.specs.declared.note.Stage.{Stage}
use Rattle.cas_model.specs.declared.place.Place.{Place}
use Rattle.cas_model.specs.declared.place.Space.TheVariants.{Objects}
use Rattle.cas_model.specs.Primary.{primary, cell_under, cell_at}
use Rattle.cas_model.specs.State.{State, has, HasAll}
use Rattle.cas_model.specs.Tables.{Tables, place_of, cell_of}
use Rattle.cas_history.specs.declared.event.Act.{Act}
use Rattle.cas_history.specs.declared.event.Act.TheVariants.{Look}
use Rattle.cas_history.specs.declared.event.Event.{Event}
use Rattle.cas_history.specs.Conduct.{MayLookFor, AreThere, same_who, found_ref, is_ref, missed}
use Rattle.cas_history.specs.Cost.{object_cost}
use Rattle.cas_history.specs.History.{decided_at, dangling, reply_where, is_miss, read_by}
use Rattle.cas_history.specs.Lawful.{IsLawfulRun}
use Rattle.cas_history.specs.Run.{tables as tables_after}
use Rattle.cas_history.proofs.Grown.{Grows, grows-more}
use Rattle.cas_history.proofs.Sound.{IsSound, sound-run}
use Rattle.cas_history.proofs.Visible.{cell-has}
use Rattle.cas_port.specs.Calls.{IsLawful}
use Rattle.cas_port.specs.View.{View, tables}
use Rattle.graph_db.specs.Events.{Goes, Reads, Stands, Ends, Last, Stops}
use Rattle.graph_db.specs.Holds.{MaySeek, HasSought, SeekStops}
use Rattle.graph_db.specs.Stores.{object_with, IsDangling}
use Rattle.cas_model.specs.Notes.{ref_note}
use Rattle.graph_db.specs.Storing.{HasSoughtValue, IsLawfulOrSame, AreFilled, HasRefs, FindsFirst}
use Rattle.graph_db.proofs.Steps.{reads-self, reads-then, reads-goes, ends-self, ends-then, goes-upstream, goes-opened, lawful-then, then-stops, stops-more}
use Rattle.graph_db.proofs.Sought.{found-more}

-- ---- what stays

pub goes-grows : (who : Who) (a b : View) → Goes who a b → IsLawfulRun b.upstream b.start b.seen → Grows (tables a) (tables b)
goes-grows who a b goes lawful =
    subst (λ (v : View). IsLawfulRun v.upstream v.start v.seen → Grows (tables a) (tables v)) (sym goes.is) (λ run. grows-more a.upstream a.start goes.more a.seen run) lawful

goes-found : (who him : Who) (i : ℕ) (a b : View) → Goes who a b → found_ref a.start him i a.seen ≡ true → found_ref b.start him i b.seen ≡ true
goes-found who him i a b goes h = subst (λ (v : View). found_ref v.start him i v.seen ≡ true) (sym goes.is) (found-more a.start him i goes.more a.seen h)

pub cell-grows : (s t : Tables) (d : Digest) → Grows s t → 0 < cell_under s Objects d → cell_under t Objects d ≡ cell_under s Objects d
cell-grows s t d grows some = step (place_of s.bound Objects d) refl where
  step : (p : Option Place) → place_of s.bound Objects d ≡ p → cell_under t Objects d ≡ cell_under s Objects d
  step None at = absurd (let e = ap (cell_at s.filled) at in omega (arith, e, some))
  step (Some p) at =
      let here : cell_under s Objects d ≡ cell_of s.filled p.at = ap (cell_at s.filled) at in
      ap (cell_at t.filled) (grows.places Objects d p at) ∙ grows.cells p.at (omega (arith, here, some)) ∙ sym here

pub filled-grows : (s t : Tables) (ds : List Digest) → Grows s t → AreFilled s ds → AreFilled t ds
filled-grows s t [] grows filled = tt
filled-grows s t (d ∷ ds) grows filled = (let e = cell-grows s t d grows filled.0 in omega (arith, e, filled.0), filled-grows s t ds grows filled.1)

pub refs-stay : (who him : Who) (refs : List Digest) (a b : View) → Goes who a b → IsLawfulRun b.upstream b.start b.seen → HasRefs him refs a → HasRefs him refs b
refs-stay who him refs a b goes lawful h = record {
  found = λ i lt. goes-found who him i a b goes (h.found i lt);
  filled = filled-grows (tables a) (tables b) refs (goes-grows who a b goes lawful) h.filled;
}

-- ---- what the conduct asks

pub there-from : (up : State) (start : Tables) (seen : List Event) (who : Who) (k : ℕ) (ds : List Digest)
    → ((i : ℕ) → i < length ds → found_ref start who (k + i) seen ≡ true) → AreThere up start seen who k ds
there-from up start seen who k [] found = tt
there-from up start seen who k (d ∷ ds) found = (
  inr (subst (λ n. found_ref start who n seen ≡ true) (add-zero k) (found 0 (omega arith))),
  there-from up start seen who (suc k) ds (λ i lt. let e : k + suc i ≡ suc k + i = omega arith in subst (λ n. found_ref start who n seen ≡ true) e (found (suc i) (omega (arith, lt)))),
)

pub refs-there : (who : Who) (refs : List Digest) (v : View) → HasRefs who refs v → AreThere v.upstream v.start v.seen who 0 refs
refs-there who refs v h = there-from v.upstream v.start v.seen who 0 refs (λ i lt. let e : i ≡ 0 + i = omega arith in subst (λ n. found_ref v.start who n v.seen ≡ true) e (h.found i lt))

pub may-seek-ref : (who : Who) (refs : List Digest) (bytes : List ℕ) (i : ℕ) (d : Digest) (v : View) → slice_get refs i ≡ Some d → HasRefs who (take i refs) v
    → MaySeek v (ref_note who i) (Store (object_with refs bytes)) d
may-seek-ref who refs bytes i d v at h =
    subst (λ (found : Option Digest). MayLookFor v.upstream v.start v.seen who refs i found (Look Objects d)) (sym at) (refs-there who (take i refs) v h, (refl, refl), tt)

-- ---- what was sought decides

pub sought-ends : (note : Note) (digest : Digest) (old new : View) (found : Bool) (call : Call) (reply : Option Reply) → (h : HasSought note digest old new found) → MaySeek old note call digest
    → decided_at new.upstream (tables_after new.start h.earlier) call note.stage h.act ≡ reply → Ends note.who call reply old new 0
sought-ends note digest old new found call reply h may says = record {
  goes = reads-goes note.who old new h.reads;
  stands = λ calls is opens. subst (λ (r : Option Reply). Stands new.upstream new.start calls note.who call r new.seen) (h.decides call ∙ says) (h.stands calls call is may opens);
  cost = let e = h.cost in omega (arith, e);
}

pub sought-last : (note : Note) (digest : Digest) (old new : View) (found : Bool) (call : Call) (reply : Option Reply) → (h : HasSought note digest old new found)
    → decided_at new.upstream (tables_after new.start h.earlier) call note.stage h.act ≡ reply → Last note call reply new
sought-last note digest old new found call reply h says = record { act = h.act; earlier = h.earlier; is = h.is; decides = h.decides call ∙ says }

-- what the search for a reference decides
ref-says : (up : State) (s : Tables) (refs : List Digest) (i : ℕ) (d : Digest) (act : Act) (found : Bool) → slice_get refs i ≡ Some d → is_miss s act ≡ not found
    → dangling up s i (slice_get refs i) act ≡ reply_where (not found && not (has up d)) (Dangling i d)
ref-says up s refs i d act found at miss =
    ap (λ (o : Option Digest). dangling up s i o act) at ∙ ap (λ b. reply_where (b && not (has up d)) (Dangling i d)) miss

pub same-self : (who : Who) → same_who who who ≡ true
same-self who = ap (λ b. b && (who.index == who.index)) (eq-eqb who.session who.session refl) ∙ eq-eqb who.index who.index refl

-- an event of the stage that missed, or that read a filled cell
here : (a b c d : Bool) → a ≡ true → b ≡ true → c ≡ true → ((a && b && c) || d) ≡ true
here true true true d one two three = refl
here true true false d one two three = cc
here true false c d one two three = cc
here false b c d one two three = cc

pub missed-here : (note : Note) (digest : Digest) (old new : View) (which : Stage → Bool) → which note.stage ≡ true → HasSought note digest old new false → missed new.start note.who which new.seen ≡ true
missed-here note digest old new which is h =
    subst (λ (es : List Event). missed new.start note.who which es ≡ true) (sym h.is)
    (here (same_who note.who note.who) (which note.stage) (is_miss (tables_after new.start h.earlier) h.act) (missed new.start note.who which h.earlier) (same-self note.who) is h.missed)

pub found-here : (who : Who) (i : ℕ) (digest : Digest) (old new : View) → HasSought (ref_note who i) digest old new true → found_ref new.start who i new.seen ≡ true
found-here who i digest old new h =
    subst (λ (es : List Event). found_ref new.start who i es ≡ true) (sym h.is)
    (here (same_who who who) (i == i) (not (read_by (tables_after new.start h.earlier) h.act == 0)) (found_ref new.start who i h.earlier) (same-self who) (eq-eqb i i refl) (ap not h.unread))

pub seek-stops : (note : Note) (digest : Digest) (old new : View) (call : Call) → SeekStops note digest old new → MaySeek old note call digest → Stops note.who call old new 0
seek-stops note digest old new call h may =
    let goes = reads-goes note.who old new h.reads in
    record {
      takes = h.takes;
      left = [];
      opened = goes-opened note.who old new goes;
      ends = subst (λ (v : View). Ends note.who call None old v 0) (λ i. record new { opened = goes-opened note.who old new goes i })
          (record { goes = goes; stands = λ calls is opens. h.stands calls call is may opens; cost = let e = h.cost in omega (arith, e) });
    }

pub not-zero-test : (value : ℕ) → (value ≡ 0 → ⊥) → not (value == 0) ≡ true
not-zero-test value some = step (value == 0) refl where
  step : (b : Bool) → (value == 0) ≡ b → not b ≡ true
  step true test = absurd (some (eqb-true value 0 test))
  step false test = refl

pub not-zero-less : (value : ℕ) → (value ≡ 0 → ⊥) → 0 < value
not-zero-less zero some = absurd (some refl)
not-zero-less (suc n) some = omega arith

pub goes-then-reads : (who : Who) (a b c : View) → Reads who a b → Reads who b c → Goes who a c
goes-then-reads who a b c ab bc = reads-goes who a c (reads-then who a b c ab bc)

pub filled-have : (s : Tables) (ds : List Digest) → IsSound s → AreFilled s ds → HasAll (primary s) ds
filled-have s [] sound filled = tt
filled-have s (d ∷ ds) sound filled = (cell-has s d sound filled.0, filled-have s ds sound filled.1)

-- ---- the loop

pub lawful-same-then : (a b c : View) → IsLawfulOrSame a b → IsLawful b c → IsLawful a c
lawful-same-then a b c (inl same) bc = subst (λ (v : View). IsLawful v c) same bc
lawful-same-then a b c (inr ab) bc = lawful-then a b c ab bc

pub finds-none : (who : Who) (all : List Digest) (a : View) → FindsFirst who all 0 a a
finds-none who all a = record {
  reads = reads-self who a;
  ends = λ bytes. ends-self who (Store (object_with all bytes)) a 0;
  refs = record { found = λ i lt. absurd (omega (arith, lt)); filled = tt };
  lawful = inl refl;
}

filled-append : (s : Tables) (xs ys : List Digest) → AreFilled s xs → AreFilled s ys → AreFilled s (xs ++ ys)
filled-append s [] ys one two = two
filled-append s (x ∷ xs) ys one two = (one.0, filled-append s xs ys one.1 two)

take-more : (xs : List Digest) (i : ℕ) (d : Digest) → slice_get xs i ≡ Some d → take (i + 1) xs ≡ take i xs ++ (d ∷ [])
take-more [] i d at = cc
take-more (x ∷ xs) zero d at = let e : x ≡ d = cc in ap (λ (y : Digest). y ∷ []) e
take-more (x ∷ xs) (suc i) d at = let e : suc i + 1 ≡ suc (i + 1) = omega arith in ap (λ n. take n (x ∷ xs)) e ∙ ap (λ (ys : List Digest). x ∷ ys) (take-more xs i d at)

pub length-taken : (xs : List Digest) (i : ℕ) (d : Digest) → slice_get xs i ≡ Some d → length (take i xs) ≡ i
length-taken [] i d at = cc
length-taken (x ∷ xs) zero d at = refl
length-taken (x ∷ xs) (suc i) d at = ap suc (length-taken xs i d at)

length-more : (xs : List Digest) (d : Digest) → length (xs ++ (d ∷ [])) ≡ length xs + 1
length-more [] d = refl
length-more (x ∷ xs) d = ap suc (length-more xs d) ∙ omega arith

not-equal : (a b : ℕ) → (a == b) ≡ false → a ≡ b → ⊥
not-equal a b test same = let e = eq-eqb a b same in cc

module _ (who : Who) (all : List Digest) (i : ℕ) (d : Digest) (old mid new : View) (at : slice_get all i ≡ Some d) (first : FindsFirst who all i old mid) (lawful : IsLawful mid new) where
  -- the reference is there
  finds-next-one : HasSought (ref_note who i) d mid new true → (value : ℕ) → 0 < value → value ≡ cell_under (tables new) Objects d → FindsFirst who all (i + 1) old new
  finds-next-one h value some is =
      let stay = refs-stay who who (take i all) mid new (reads-goes who mid new h.reads) lawful.is first.refs in
      let more = take-more all i d at in
      let len = length-taken all i d at in
      record {
        reads = reads-then who old mid new first.reads h.reads;
        ends = λ bytes. ends-then who (Store (object_with all bytes)) None old mid new 0 0 (first.ends bytes)
            (sought-ends (ref_note who i) d mid new true (Store (object_with all bytes)) None h (may-seek-ref who all bytes i d mid at first.refs)
            (ref-says new.upstream (tables_after new.start h.earlier) all i d h.act true at h.missed));
        refs = subst (λ (ds : List Digest). HasRefs who ds new) (sym more) (record {
          found = λ j lt. step j lt stay.found h;
          filled = filled-append (tables new) (take i all) (d ∷ []) stay.filled (omega (arith, is, some), tt);
        });
        lawful = inr (lawful-same-then old mid new first.lawful lawful);
      } where
        step : (j : ℕ) → j < length (take i all ++ (d ∷ [])) → ((k : ℕ) → k < length (take i all) → found_ref new.start who k new.seen ≡ true) → HasSought (ref_note who i) d mid new true
            → found_ref new.start who j new.seen ≡ true
        step j lt earlier h = by_test (j == i) refl where
          by_test : (b : Bool) → (j == i) ≡ b → found_ref new.start who j new.seen ≡ true
          by_test true test = subst (λ n. found_ref new.start who n new.seen ≡ true) (sym (eqb-true j i test)) (found-here who i d mid new h)
          by_test false test = earlier j (let len = length-taken all i d at in let all-len = length-more (take i all) d in let ne = not-equal j i test in omega (arith, lt, len, all-len, ne))

  pub finds-next : (value : ℕ) → (value ≡ 0 → ⊥) → HasSoughtValue (ref_note who i) d mid new value → FindsFirst who all (i + 1) old new
  finds-next value some h =
      finds-next-one (subst (λ b. HasSought (ref_note who i) d mid new b) (not-zero-test value some) h.sought) value (not-zero-less value some) h.value_is

  -- the reference is missing
  pub is-dangling : (bytes : List ℕ) → HasSoughtValue (ref_note who i) d mid new 0 → IsDangling who (object_with all bytes) old new i d
  is-dangling bytes v =
      let h : HasSought (ref_note who i) d mid new false = v.sought in
      let says = ref-says new.upstream (tables_after new.start h.earlier) all i d h.act false at h.missed in
      let goes = goes-then-reads who old mid new first.reads h.reads in
      let up : new.upstream ≡ old.upstream = goes-upstream who old new goes in
      let reply : reply_where (not (has new.upstream d)) (Dangling i d) ≡ reply_where (not (has old.upstream d)) (Dangling i d) = ap (λ (s : State). reply_where (not (has s d)) (Dangling i d)) up in
      let stay = refs-stay who who (take i all) mid new (reads-goes who mid new h.reads) lawful.is first.refs in
      record {
        first = (filled-have (tables new) (take i all) (sound-run new.upstream new.start new.seen lawful.is) stay.filled, at, sym h.there);
        reads = reads-then who old mid new first.reads h.reads;
        ends = subst (λ (r : Option Reply). Ends who (Store (object_with all bytes)) r old new 0) reply
            (ends-then who (Store (object_with all bytes)) _ old mid new 0 0 (first.ends bytes) (sought-ends (ref_note who i) d mid new false (Store (object_with all bytes)) _ h (may-seek-ref who all bytes i d mid at first.refs) says));
        last = subst (λ (r : Option Reply). Last (ref_note who i) (Store (object_with all bytes)) r new) reply (sought-last (ref_note who i) d mid new false (Store (object_with all bytes)) _ h says);
        missed = missed-here (ref_note who i) d mid new (is_ref i) (eq-eqb i i refl) h;
      }

  -- memory was wanted
  pub ref-stops : (bytes : List ℕ) → SeekStops (ref_note who i) d mid new → Stops who (Store (object_with all bytes)) old new (object_cost (object_with all bytes))
  ref-stops bytes h =
      stops-more who (Store (object_with all bytes)) old new (0 + 0) (object_cost (object_with all bytes)) (omega arith)
      (then-stops who (Store (object_with all bytes)) old mid new 0 0 (first.ends bytes)
      (seek-stops (ref_note who i) d mid new (Store (object_with all bytes)) h (may-seek-ref who all bytes i d mid at first.refs)))
