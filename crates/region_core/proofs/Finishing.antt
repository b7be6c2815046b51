-- All contents are built.
use Rattle.std.proofs.Common.{◌≡◌, ◌≢◌, ℕ, ◌+◌, ◌-◌, ◌<◌, ◌≤◌, List, [], ◌∷◌, ◌++◌, length, get_or, set, length-set, drop, replicate, zero, suc, inl, inr, refl, sym, ap, ◌∙◌, subst, arith, append_assoc, Some, None, Bool, true, false, cond}
use Rattle.std.specs.declared.option.Option.{Option}
use Rattle.std.specs.FinMap as fin
use Rattle.std.specs.List.{sum}
use Rattle.std.proofs.lemmas.Bool.{cases_lt}
use Rattle.std.proofs.lemmas.List.{length-append, length-replicate, get_or-replicate, get_or_past, get_or-append-add, get_or-set_same, get_or-set_other, append-nil, drop_more}
use Rattle.std.proofs.lemmas.List.Sums.{sum_by-append}
use Rattle.cas_model.specs.declared.contents.Pair.{Pair}
use Rattle.cas_model.specs.declared.digest.Digest.{Digest}
use Rattle.cas_model.specs.declared.object.Object.{Object}
use Rattle.cas_model.specs.declared.place.Space.TheVariants.{Objects, Actions}
use Rattle.cas_model.specs.Content.{content_size}
use Rattle.cas_model.specs.Contents.{object_digests, pair_keys, contents_state, objects_map, actions_map, AreStorable, ArePuttable, AreLawfulContents}
use Rattle.cas_model.specs.Object.{object_digest}
use Rattle.cas_model.specs.State.{State, Member, digest_cmp}
use Rattle.cas_model.specs.Tables.{same_digest}
use Rattle.cas_model.proofs.Maps.{get-put, same-is, same-maps}
use Rattle.region_core.specs.declared.insertion.BuildError.{BuildError}
use Rattle.region_core.specs.Builds.{Building, IsBuilt, CanAddObject, CanAddPair, AddsObject, AddsPair, RefusesObject, RefusesPair, ObjectsAdded, PairsAdded, HasCertificate, PairsBegin, empty_region, one_object_claims, turned}
use Rattle.region_core.specs.Certificate.{Names, ObjectIn, ActionIn}
use Rattle.region_core.specs.Change.{Wrote}
use Rattle.cas_model.specs.Claims.{record_claims, object_claims, action_claims, contents_claims}
use Rattle.region_core.specs.Claims.{Refuses}
use Rattle.region_core.specs.Heap.{Block, Laid, memory_of}
use Rattle.region_core.specs.Inserts.{SameHead}
use Rattle.region_core.specs.Places.{LieInOrder}
use Rattle.region_core.specs.Stands.{Stands}
use Rattle.region_core.proofs.Empty.{empty, empty_heap, no_record, no_content, root_only}
use Rattle.region_core.proofs.Gathering.{refuses_more, refuses_after}
use Rattle.region_core.proofs.Heap.{fixed_within, same_tries, wide}
use Rattle.region_core.proofs.Inserting.{wrote_set, laid_long}
use Rattle.region_core.proofs.Labels.{certified_stands}
use Rattle.region_core.proofs.Places.{lie_in_order}

-- ---- words in which nothing is stored

pub empty_long : (size : ℕ) → length (empty_region size) ≡ 520
unfolding empty_region
empty_long size =
    let zeros : List ℕ = replicate 516 0 in
    let long : length zeros ≡ 516 = length-replicate {A = ℕ} 516 0 in
    length-append (6000011104285311299 ∷ 1 ∷ size ∷ 520 ∷ []) zeros ∙ ap (λ n. 4 + n) long

blank : List ℕ
blank = replicate 516 0

no_words : (k : ℕ) → get_or blank k 0 ≡ 0
unfolding blank
no_words k = elim (cases_lt k 516) [
  | inl h ↦ get_or-replicate {A = ℕ} 516 k 0 0 h
  | inr h ↦ get_or_past blank k 0 (omega (arith, h, length-replicate {A = ℕ} 516 0))
]

pub empty_zeros : (size i : ℕ) → 4 ≤ i → get_or (empty_region size) i 0 ≡ 0
unfolding empty_region blank
empty_zeros size i h =
    let at : 4 + (i - 4) ≡ i = omega arith in
    ap (λ n. get_or ((6000011104285311299 ∷ 1 ∷ size ∷ 520 ∷ []) ++ replicate 516 0) n 0) (sym at)
    ∙ get_or-append-add (6000011104285311299 ∷ 1 ∷ size ∷ 520 ∷ []) (replicate 516 0) (i - 4) 0
    ∙ no_words (i - 4)

pub empty_head : (size : ℕ) → (get_or (empty_region size) 0 0 ≡ 6000011104285311299) × (get_or (empty_region size) 1 0 ≡ 1) × (get_or (empty_region size) 2 0 ≡ size) × ((i : ℕ) → 4 ≤ i → i < 8 → get_or (empty_region size) i 0 ≡ 0)
unfolding empty_region
empty_head size = (refl, refl, refl, λ i h _. empty_zeros size i h)

none_some : {X : Type 0} (x : X) → None ≡ Some x → ⊥
none_some x e = cc

pub empty_building : (size : ℕ) → Building empty_heap (empty_region size) [] []
empty_building size = record {
  laid = subst (Laid empty_heap (memory_of (empty_region size))) (sym (empty_long size)) (empty (memory_of (empty_region size)) (λ i h. empty_zeros size i (omega arith)));
  contents = λ p r d ws h _. absurd (no_content p r ws h);
  filled = λ p s d c h _. no_record p s d c h;
  tight = λ t j s above h. absurd (let clash : j ∷ above ≡ [] = (root_only t s (j ∷ above) h).1 in cc);
  objects_are = record { on = λ d m. absurd m; back = λ d p c h. absurd (no_record p Objects d c h); distinct = tt };
  keys_are = record { on = λ d m. absurd m; back = λ d p c h. absurd (no_record p Actions d c h); distinct = tt };
  names = record {
    objects = λ d o. (λ h. absurd (none_some o (sym (fin.get-empty digest_cmp d) ∙ h)), λ (x : ObjectIn empty_heap d o). absurd (no_record x.owner Objects d.bytes x.place x.record_));
    cache = λ k v. (λ h. absurd (none_some v (sym (fin.get-empty digest_cmp k) ∙ h)), λ (x : ActionIn empty_heap k v). absurd (no_record x.owner Actions k.bytes x.cell x.record_));
  };
  long = empty_long size;
  objects_begin = tt;
  pairs_begin = tt;
}

-- ---- the objects

nothing : Object
nothing = record { refs = []; «data» = [] }

pub objects_start : (size : ℕ) (words : List ℕ) (objects : List Object) → words ≡ empty_region size → AreStorable [] objects → ObjectsAdded words objects 0
objects_start size words objects e storable = record {
  done = [];
  built = subst (λ ws. IsBuilt ws [] []) (sym e) record { heap = empty_heap; building = empty_building size };
  rest = storable;
  order = refl;
  claims = [];
  split = refl;
  long = ap length e ∙ empty_long size;
}

next_object : (words : List ℕ) (objects : List Object) (i : ℕ) (o : Object) (later : List Object) → (x : ObjectsAdded words objects i) → drop i objects ≡ o ∷ later → AreStorable (object_digests x.done) (o ∷ later)
next_object words objects i o later x e = subst (AreStorable (object_digests x.done)) e x.rest

pub object_can : (words : List ℕ) (objects : List Object) (i : ℕ) (o : Object) (later : List Object) → ObjectsAdded words objects i → drop i objects ≡ o ∷ later → CanAddObject words o
object_can words objects i o later x e =
    let all = next_object words objects i o later x e in
    record {
      heap = x.built.heap;
      objects = x.done;
      building = x.built.building;
      next = record { few = all.0; short = all.1; refs = all.2; fresh = all.3 };
    }

pub object_more : (words new : List ℕ) (objects : List Object) (i : ℕ) (o : Object) → ObjectsAdded words objects i → drop i objects ≡ o ∷ drop (i + 1) objects → AddsObject words new o → ObjectsAdded new objects (i + 1)
object_more words new objects i o x e adds =
    let later : List Object = drop (i + 1) objects in
    let all = next_object words objects i o (drop (i + 1) objects) x e in
    let added = adds x.built.heap x.done x.built.building record { few = all.0; short = all.1; refs = all.2; fresh = all.3 } in
    record {
      done = o ∷ x.done;
      built = added.built;
      rest = all.4;
      order = sym (ap (turned x.done) e) ∙ x.order;
      claims = x.claims ++ one_object_claims (object_digests x.done) o;
      split = x.split ∙ ap (λ os. x.claims ++ object_claims (object_digests x.done) os) e
          ∙ ap (λ cs. x.claims ++ cs) (sym (append_assoc (record_claims (object_digests x.done) (object_digest o)) (content_size (length o.refs) (length o.data) ∷ []) (object_claims (object_digest o ∷ object_digests x.done) (drop (i + 1) objects))))
          ∙ sym (append_assoc x.claims (one_object_claims (object_digests x.done) o) (object_claims (object_digest o ∷ object_digests x.done) (drop (i + 1) objects)));
      long = added.grown ∙ ap (λ n. n + sum (one_object_claims (object_digests x.done) o)) x.long ∙ regroup (sum x.claims) (sum (one_object_claims (object_digests x.done) o)) ∙ ap (λ n. 520 + n) (sym (sum_by-append (λ m. m) x.claims (one_object_claims (object_digests x.done) o)));
    }
  where
    regroup : (a b : ℕ) → 520 + a + b ≡ 520 + (a + b)
    regroup a b = omega arith

pub object_refused : (words : List ℕ) (objects : List Object) (pairs : List Pair) (i size : ℕ) (o : Object) (error : BuildError) → ObjectsAdded words objects i → drop i objects ≡ o ∷ drop (i + 1) objects → RefusesObject words size o error → Refuses size 520 (contents_claims objects pairs) error
object_refused words objects pairs i size o error x e refused =
    let all = next_object words objects i o (drop (i + 1) objects) x e in
    let known : List Digest = object_digests x.done in
    let rest : List ℕ = object_claims (object_digest o ∷ object_digests x.done) (drop (i + 1) objects) in
    let own = refused x.built.heap x.done x.built.building record { few = all.0; short = all.1; refs = all.2; fresh = all.3 } in
    let here : Refuses size (length words) (object_claims (object_digests x.done) (o ∷ drop (i + 1) objects)) error =
    subst (λ cs. Refuses size (length words) cs error) (append_assoc (record_claims (object_digests x.done) (object_digest o)) (content_size (length o.refs) (length o.data) ∷ []) rest)
    (refuses_more size (length words) (one_object_claims (object_digests x.done) o) rest error own) in
    let all_claims : object_claims [] objects ≡ x.claims ++ object_claims (object_digests x.done) (o ∷ drop (i + 1) objects) = x.split ∙ ap (λ os. x.claims ++ object_claims (object_digests x.done) os) e in
    refuses_more size 520 (object_claims [] objects) (action_claims [] pairs) error
    (subst (λ cs. Refuses size 520 cs error) (sym all_claims) (refuses_after size 520 (length words) x.claims (object_claims (object_digests x.done) (o ∷ drop (i + 1) objects)) error x.long here))

-- ---- the pairs

in_turned : (d : Digest) (acc os : List Object) → Member d (object_digests acc) → Member d (object_digests (turned acc os))
in_turned d acc [] m = m
in_turned d acc (o ∷ os) m = in_turned d (o ∷ acc) os (inr m)

turned_all : (d : Digest) (acc os : List Object) → Member d (object_digests os) → Member d (object_digests (turned acc os))
turned_all d acc [] m = absurd m
turned_all d acc (o ∷ os) m = elim m [ inl is ↦ in_turned d (o ∷ acc) os (inl is) | inr there ↦ turned_all d (o ∷ acc) os there ]

drop_all : {X : Type 0} (xs : List X) (n : ℕ) → length xs ≤ n → drop n xs ≡ []
drop_all [] zero h = refl
drop_all [] (suc n) h = refl
drop_all (x ∷ xs) zero h = absurd (omega arith)
drop_all (x ∷ xs) (suc n) h = drop_all xs n (omega arith)

pub pairs_start : (words : List ℕ) (objects : List Object) (pairs : List Pair) (n : ℕ) → ObjectsAdded words objects n → length objects ≤ n → ArePuttable (object_digests objects) [] pairs → PairsAdded words objects pairs 0
pairs_start words objects pairs n x h puttable =
    let none = drop_all objects n h in
    let done_is : x.done ≡ turned [] objects = sym (ap (turned x.done) none) ∙ x.order in
    let claims_are : object_claims [] objects ≡ x.claims = x.split ∙ ap (λ os. x.claims ++ object_claims (object_digests x.done) os) none ∙ append-nil x.claims in
    record {
      done = [];
      built = subst (λ os. IsBuilt words os []) done_is x.built;
      rest = puttable;
      order = refl;
      claims = [];
      split = refl;
      long = x.long ∙ ap (λ cs. 520 + sum cs) (sym claims_are) ∙ plus_none (520 + sum (object_claims [] objects));
    }
  where
    plus_none : (n : ℕ) → n ≡ n + 0
    plus_none n = omega arith

next_pair : (words : List ℕ) (objects : List Object) (pairs : List Pair) (i : ℕ) (p : Pair) (later : List Pair) → (x : PairsAdded words objects pairs i) → drop i pairs ≡ p ∷ later → ArePuttable (object_digests objects) (pair_keys x.done) (p ∷ later)
next_pair words objects pairs i p later x e = subst (ArePuttable (object_digests objects) (pair_keys x.done)) e x.rest

pub pair_can : (words : List ℕ) (objects : List Object) (pairs : List Pair) (i : ℕ) (p : Pair) (later : List Pair) → PairsAdded words objects pairs i → drop i pairs ≡ p ∷ later → CanAddPair words p
pair_can words objects pairs i p later x e =
    let all = next_pair words objects pairs i p later x e in
    record {
      heap = x.built.heap;
      objects = turned [] objects;
      pairs = x.done;
      building = x.built.building;
      next = record { value = turned_all p.value [] objects all.0; fresh = all.1 };
    }

pub pair_more : (words new : List ℕ) (objects : List Object) (pairs : List Pair) (i : ℕ) (p : Pair) → PairsAdded words objects pairs i → drop i pairs ≡ p ∷ drop (i + 1) pairs → AddsPair words new p → PairsAdded new objects pairs (i + 1)
pair_more words new objects pairs i p x e adds =
    let all = next_pair words objects pairs i p (drop (i + 1) pairs) x e in
    let added = adds x.built.heap (turned [] objects) x.done x.built.building record { value = turned_all p.value [] objects all.0; fresh = all.1 } in
    record {
      done = p ∷ x.done;
      built = added.built;
      rest = all.2;
      order = sym (ap (turned x.done) e) ∙ x.order;
      claims = x.claims ++ record_claims (pair_keys x.done) p.key;
      split = x.split ∙ ap (λ ps. x.claims ++ action_claims (pair_keys x.done) ps) e
          ∙ sym (append_assoc x.claims (record_claims (pair_keys x.done) p.key) (action_claims (p.key ∷ pair_keys x.done) (drop (i + 1) pairs)));
      long = added.grown ∙ ap (λ n. n + sum (record_claims (pair_keys x.done) p.key)) x.long ∙ regroup (sum (object_claims [] objects)) (sum x.claims) (sum (record_claims (pair_keys x.done) p.key)) ∙ ap (λ n. 520 + sum (object_claims [] objects) + n) (sym (sum_by-append (λ m. m) x.claims (record_claims (pair_keys x.done) p.key)));
    }
  where
    regroup : (o a b : ℕ) → 520 + o + a + b ≡ 520 + o + (a + b)
    regroup o a b = omega arith

pub pair_refused : (words : List ℕ) (objects : List Object) (pairs : List Pair) (i size : ℕ) (p : Pair) (error : BuildError) → PairsAdded words objects pairs i → drop i pairs ≡ p ∷ drop (i + 1) pairs → RefusesPair words size p error → Refuses size 520 (contents_claims objects pairs) error
pair_refused words objects pairs i size p error x e refused =
    let all = next_pair words objects pairs i p (drop (i + 1) pairs) x e in
    let rest : List ℕ = action_claims (p.key ∷ pair_keys x.done) (drop (i + 1) pairs) in
    let own = refused x.built.heap (turned [] objects) x.done x.built.building record { value = turned_all p.value [] objects all.0; fresh = all.1 } in
    let here : Refuses size (length words) (action_claims (pair_keys x.done) (p ∷ drop (i + 1) pairs)) error = refuses_more size (length words) (record_claims (pair_keys x.done) p.key) rest error own in
    let all_claims : action_claims [] pairs ≡ x.claims ++ action_claims (pair_keys x.done) (p ∷ drop (i + 1) pairs) = x.split ∙ ap (λ ps. x.claims ++ action_claims (pair_keys x.done) ps) e in
    let before : List ℕ = object_claims [] objects ++ x.claims in
    let long : length words ≡ 520 + sum (object_claims [] objects ++ x.claims) = x.long ∙ regroup (sum (object_claims [] objects)) (sum x.claims) ∙ ap (λ n. 520 + n) (sym (sum_by-append (λ m. m) (object_claims [] objects) x.claims)) in
    subst (λ cs. Refuses size 520 cs error) (append_assoc (object_claims [] objects) x.claims (action_claims (pair_keys x.done) (p ∷ drop (i + 1) pairs)) ∙ ap (λ cs. object_claims [] objects ++ cs) (sym all_claims))
    (refuses_after size 520 (length words) (object_claims [] objects ++ x.claims) (action_claims (pair_keys x.done) (p ∷ drop (i + 1) pairs)) error long here)
  where
    regroup : (a b : ℕ) → 520 + a + b ≡ 520 + (a + b)
    regroup a b = omega arith

-- ---- the order of insertion does not matter

abbrev keyed : {X : Type 0} → (X → Digest) → List X → List Digest
keyed f [] = []
keyed f (x ∷ xs) = f x ∷ keyed f xs

abbrev made : {X V : Type 0} → (X → Digest) → (X → V) → List X → fin.FinMap digest_cmp V
made f g [] = fin.empty
made f g (x ∷ xs) = fin.insert (made f g xs) (f x) (g x)

swap : {V : Type 0} (m : fin.FinMap digest_cmp V) (a b : Digest) (v w : V) → a ≢ b → fin.insert (fin.insert m a v) b w ≡ fin.insert (fin.insert m b w) a v
swap {V} m a b v w ne = same-maps _ _ (λ q.
    get-put (fin.insert m a v) b w q ∙ ap (λ (o : Option V). cond (same_digest q b) (Some w) o) (get-put m a v q)
    ∙ both q (same_digest q a) (same_digest q b) refl refl
    ∙ sym (get-put (fin.insert m b w) a v q ∙ ap (λ (o : Option V). cond (same_digest q a) (Some v) o) (get-put m b w q)))
  where
    both : (q : Digest) (s t : Bool) → same_digest q a ≡ s → same_digest q b ≡ t → cond t (Some w) (cond s (Some v) (fin.get m q)) ≡ cond s (Some v) (cond t (Some w) (fin.get m q))
    both q true true ea eb = absurd (ne (sym (same-is q a ea) ∙ same-is q b eb))
    both q true false ea eb = refl
    both q false true ea eb = refl
    both q false false ea eb = refl

moved : {X V : Type 0} (f : X → Digest) (g : X → V) (x : X) (xs acc : List X) → (Member (f x) (keyed f xs) → ⊥) → made f g (xs ++ x ∷ acc) ≡ fin.insert (made f g (xs ++ acc)) (f x) (g x)
moved f g x [] acc apart = refl
moved f g x (y ∷ xs) acc apart =
    ap (λ m. fin.insert m (f y) (g y)) (moved f g x xs acc (λ m. apart (inr m)))
    ∙ swap (made f g (xs ++ acc)) (f x) (f y) (g x) (g y) (λ e. apart (inl (sym e)))

abbrev AllApart : {X : Type 0} → (X → Digest) → List X → Type 0
AllApart f [] = Unit {0}
AllApart f (x ∷ xs) = (Member (f x) (keyed f xs) → ⊥) × AllApart f xs

made_turned : {X V : Type 0} (f : X → Digest) (g : X → V) (xs acc : List X) → AllApart f xs → made f g (turned acc xs) ≡ made f g (xs ++ acc)
made_turned f g [] acc apart = refl
made_turned f g (x ∷ xs) acc apart = made_turned f g xs (x ∷ acc) apart.1 ∙ moved f g x xs acc apart.0

objects_made : (os : List Object) → objects_map os ≡ made object_digest (λ o. o) os
objects_made [] = refl
objects_made (o ∷ os) = ap (λ m. fin.insert m (object_digest o) o) (objects_made os)

pairs_made : (ps : List Pair) → actions_map ps ≡ made (λ (p : Pair). p.key) (λ p. p.value) ps
pairs_made [] = refl
pairs_made (p ∷ ps) = ap (λ m. fin.insert m p.key p.value) (pairs_made ps)

not_later : (d : Digest) (known : List Digest) (os : List Object) → Member d known → AreStorable known os → Member d (keyed object_digest os) → ⊥
not_later d known [] m s there = there
not_later d known (o ∷ os) m s there = elim there [
  | inl is ↦ s.3 (subst (λ z. Member z known) (sym is) m)
  | inr later ↦ not_later d (object_digest o ∷ known) os (inr m) s.4 later
]

objects_apart : (known : List Digest) (os : List Object) → AreStorable known os → AllApart object_digest os
objects_apart known [] s = tt
objects_apart known (o ∷ os) s = (not_later (object_digest o) (object_digest o ∷ known) os (inl refl) s.4, objects_apart (object_digest o ∷ known) os s.4)

not_later_key : (ds : List Digest) (k : Digest) (known : List Digest) (ps : List Pair) → Member k known → ArePuttable ds known ps → Member k (keyed (λ (p : Pair). p.key) ps) → ⊥
not_later_key ds k known [] m s there = there
not_later_key ds k known (p ∷ ps) m s there = elim there [
  | inl is ↦ s.1 (subst (λ z. Member z known) (sym is) m)
  | inr later ↦ not_later_key ds k (p.key ∷ known) ps (inr m) s.2 later
]

pairs_apart : (ds known : List Digest) (ps : List Pair) → ArePuttable ds known ps → AllApart (λ (p : Pair). p.key) ps
pairs_apart ds known [] s = tt
pairs_apart ds known (p ∷ ps) s = (not_later_key ds p.key (p.key ∷ known) ps (inl refl) s.2, pairs_apart ds (p.key ∷ known) ps s.2)

pub state_turned : (objects : List Object) (pairs : List Pair) → AreStorable [] objects → ArePuttable (object_digests objects) [] pairs → contents_state (turned [] objects) (turned [] pairs) ≡ contents_state objects pairs
state_turned objects pairs storable puttable =
    let os : objects_map (turned [] objects) ≡ objects_map objects =
    objects_made (turned [] objects) ∙ made_turned object_digest (λ o. o) objects [] (objects_apart [] objects storable) ∙ ap (made object_digest (λ o. o)) (append-nil objects) ∙ sym (objects_made objects) in
    let ps : actions_map (turned [] pairs) ≡ actions_map pairs =
    pairs_made (turned [] pairs) ∙ made_turned (λ (p : Pair). p.key) (λ p. p.value) pairs [] (pairs_apart (object_digests objects) [] pairs puttable) ∙ ap (made (λ (p : Pair). p.key) (λ p. p.value)) (append-nil pairs) ∙ sym (pairs_made pairs) in
    λ i. record { objects = os i; cache = ps i }

-- the item at an index is the first of the rest
pub first_rest : {X : Type 0} (xs ys : List X) (i : ℕ) (x : X) → ys ≡ xs → i < length ys → x ≡ get_or ys i x → drop i xs ≡ x ∷ drop (i + 1) xs
first_rest xs ys i x e h is =
    subst (λ zs. drop i zs ≡ x ∷ drop (i + 1) zs) e (drop_more ys i x h ∙ ap (λ z. z ∷ drop (i + 1) ys) (sym is))

pub first_rest_or : {X : Type 0} (xs ys : List X) (i : ℕ) (other : X) → ys ≡ xs → i < length ys → drop i xs ≡ get_or ys i other ∷ drop (i + 1) xs
first_rest_or xs ys i other e h = subst (λ zs. drop i zs ≡ get_or ys i other ∷ drop (i + 1) zs) e (drop_more ys i other h)

-- ---- the header

pub header_laid : (heap : ℕ → Block) (memory memory' : ℕ → ℕ) (counter at w : ℕ) → at < 8 → 520 ≤ counter → Wrote memory memory' at w → Laid heap memory counter → Laid heap memory' counter
header_laid heap memory memory' counter at w low long wrote laid = record {
  shape = laid.shape;
  keeps = record {
    held = λ p i h. wrote.same (p + i) (λ e. omega (arith, laid.shape.low p (omega (arith, fixed_within (heap p))))) ∙ laid.keeps.held p i h;
    clear = λ i h. wrote.same i (λ e. omega arith) ∙ laid.keeps.clear i h;
  };
  tries = same_tries heap heap memory memory' record { table = λ p s π h. h; record_ = λ p s d c h. (c, h) } record { table = λ p s π h. h; record_ = λ p s d c h. (c, h) }
      (λ p s π j h hj. wrote.same (p + j) (λ e. omega (arith, laid.shape.low p (rw h (omega (arith, wide π)))))) laid.tries;
  cells = laid.cells;
}

-- the labelling stays where the counter is written
closed_laid : (words : List ℕ) (objects : List Object) (pairs : List Pair) → (x : IsBuilt words objects pairs) → Laid x.heap (memory_of (set words 3 (length words))) (length (set words 3 (length words)))
closed_laid words objects pairs x =
    let long : 520 ≤ length words = laid_long x.heap words x.building.laid in
    subst (Laid x.heap (memory_of (set words 3 (length words)))) (sym (length-set words 3 (length words)))
    (header_laid x.heap (memory_of words) (memory_of (set words 3 (length words))) (length words) 3 (length words) (omega arith) long (wrote_set words 3 (length words) (omega arith)) x.building.laid)

pub finished : (words : List ℕ) (objects : List Object) (pairs : List Pair) (n size : ℕ) → AreLawfulContents objects pairs → 4096 ≤ size → size ≤ 67108864 → length words ≤ size → SameHead (empty_region size) words → PairsAdded words objects pairs n → length pairs ≤ n
    → HasCertificate (set words 3 (length words)) size (contents_state objects pairs)
finished words objects pairs n size lawful least most within head x h =
    let done_is : x.done ≡ turned [] pairs = sym (ap (turned x.done) (drop_all pairs n h)) ∙ x.order in
    let b = x.built.building in
    let long : 520 ≤ length words = laid_long x.built.heap words x.built.building.laid in
    let all : List ℕ = set words 3 (length words) in
    let all_long : length (set words 3 (length words)) ≡ length words = length-set words 3 (length words) in
    let first = empty_head size in
    let other : (i : ℕ) → i < 8 → i ≢ 3 → get_or (set words 3 (length words)) i 0 ≡ get_or (empty_region size) i 0 = λ i hi ne. get_or-set_other words 3 i (length words) 0 ne ∙ head i hi in
    let state_is : contents_state (turned [] objects) x.done ≡ contents_state objects pairs = ap (contents_state (turned [] objects)) done_is ∙ state_turned objects pairs lawful.storable lawful.puttable in
    record {
      heap = x.built.heap;
      certified = record {
        headed = record {
          magic = other 0 (omega arith) (λ e. omega arith) ∙ first.0;
          version = other 1 (omega arith) (λ e. omega arith) ∙ first.1;
          size_there = other 2 (omega arith) (λ e. omega arith) ∙ first.2;
          counter = get_or-set_same words 3 (length words) 0 (omega arith) ∙ sym all_long;
          zeros = λ i lo hi. other i hi (λ e. omega arith) ∙ first.3 i lo hi;
          least = least;
          most = most;
          long = subst (λ k. 520 ≤ k) (sym all_long) long;
          within = subst (λ k. k ≤ size) (sym all_long) within;
        };
        laid = closed_laid words (turned [] objects) x.done x.built;
        contents = x.built.building.contents;
        names = subst (Names x.built.heap) state_is x.built.building.names;
      };
    }

pub certificate_stands : (words : List ℕ) (size : ℕ) (state : State) → HasCertificate words size state → Stands words size state
certificate_stands words size state x = certified_stands x.heap words size state x.certified

-- each block lies behind the claims before it
pub finished_places : (words : List ℕ) (objects : List Object) (pairs : List Pair) (n : ℕ) → PairsAdded words objects pairs n → length pairs ≤ n → LieInOrder (set words 3 (length words)) objects pairs
finished_places words objects pairs n x h =
    let done_is : x.done ≡ turned [] pairs = sym (ap (turned x.done) (drop_all pairs n h)) ∙ x.order in
    let b = x.built.building in
    lie_in_order x.built.heap (set words 3 (length words)) objects pairs (closed_laid words (turned [] objects) x.done x.built) b.filled b.objects_begin (subst (PairsBegin x.built.heap (turned [] objects)) done_is b.pairs_begin)

pub finished_long : (words : List ℕ) (objects : List Object) (pairs : List Pair) (n : ℕ) → PairsAdded words objects pairs n → length pairs ≤ n → length (set words 3 (length words)) ≡ 520 + sum (contents_claims objects pairs)
finished_long words objects pairs n x h =
    let claims_are : action_claims [] pairs ≡ x.claims = x.split ∙ ap (λ ps. x.claims ++ action_claims (pair_keys x.done) ps) (drop_all pairs n h) ∙ append-nil x.claims in
    length-set words 3 (length words) ∙ x.long ∙ regroup (sum (object_claims [] objects)) (sum x.claims) ∙ ap (λ cs. 520 + (sum (object_claims [] objects) + sum cs)) (sym claims_are)
    ∙ ap (λ k. 520 + k) (sym (sum_by-append (λ m. m) (object_claims [] objects) (action_claims [] pairs)))
  where
    regroup : (a b : ℕ) → 520 + a + b ≡ 520 + (a + b)
    regroup a b = omega arith
