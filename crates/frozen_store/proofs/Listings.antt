-- The listed contents are those of the state, and can be stored in their order.
use Rattle.std.proofs.Common.{◌≡◌, ◌⊎◌, ℕ, suc, ◌+◌, ◌<◌, ◌≤◌, List, [], ◌∷◌, ◌++◌, length, get_or, take, Some, None, true, cond, refl, sym, ap, ◌∙◌, subst, inl, inr, arith}
use Rattle.std.specs.FinMap as fin
use Rattle.std.specs.List.{AllByRecursion}
use Rattle.std.specs.List.Sorted.{IsStrictlySortedBy}
use Rattle.std.specs.Ordering.{nat_cmp, ordering_reverse}
use Rattle.std.specs.declared.cmp.Ordering.TheVariants.{Less, Greater}
use Rattle.std.proofs.lemmas.Bool.{cases_Bool}
use Rattle.std.proofs.lemmas.Cmp.{ranked}
use Rattle.std.proofs.lemmas.List.{take_more}
use Rattle.std.proofs.lemmas.Map.Keys.{sorted_head, sorted_tail}
use Rattle.cas_model.specs.declared.contents.Pair.{Pair}
use Rattle.cas_model.specs.declared.digest.Digest.{Digest}
use Rattle.cas_model.specs.declared.object.Object.{Object}
use Rattle.cas_model.specs.declared.place.Space.TheVariants.{Objects}
use Rattle.cas_model.specs.Content.{content_places}
use Rattle.cas_model.specs.Claims.{Fit, contents_claims}
use Rattle.cas_model.specs.Contents.{object_digests, pair_keys, objects_map, actions_map, contents_state, AllMembers, AreStorable, ArePuttable, AreLawfulContents}
use Rattle.cas_model.specs.Object.{object_digest}
use Rattle.cas_model.specs.Primary.{primary, cell_under}
use Rattle.cas_model.specs.State.{State, Member, digest_cmp}
use Rattle.cas_model.specs.Tables.{same_digest}
use Rattle.cas_model.proofs.Maps.{digest_total, get-put, same-is, same-self, same-states}
use Rattle.region_core.specs.Leads.{IsContentOf, digest_there, digests_there, cell_there, content_there, object_there}
use Rattle.region_core.specs.Stands.{Stands, AreReferences}
use Rattle.region_core.proofs.Labels.{content_label, digest_is}
use Rattle.region_core.proofs.Starts.{tables_in-fit}
use Rattle.region_core.proofs.Tables.{same_option}
use Rattle.region_core.specs.Found.{heap_of, tables_in}
use Rattle.frozen_store.specs.Gathers.{IsIn}
use Rattle.frozen_store.specs.Lists.{AreContentPlaces, AreKeys, AreObjects, AreContentsOf, objects_there, places_of}
use Rattle.frozen_store.specs.Reads.{IsWhole, HasContentAt}
use Rattle.frozen_store.specs.Seen.{FrozenSeen, IsSeen}
use Rattle.frozen_store.proofs.Facts.{Inside, inside_of, certified, go, cell_is}
use Rattle.frozen_store.proofs.Sorting.{in_at, one_record}

-- ---- what the loop over the places reads

pub place_content : (words : List ℕ) → IsWhole words → (places : List ℕ) (i : ℕ) → AreContentPlaces words places → i < length places → HasContentAt words (get_or places i 0)
place_content words x places i a h =
    let z = a.only (get_or places i 0) (in_at places i 0 h) in
    record { state = x.state; stands = x.stands; owner = z.0; content = z.1 }

objects_append : (words cs ds : List ℕ) → objects_there words (cs ++ ds) ≡ objects_there words cs ++ objects_there words ds
objects_append words [] ds = refl
objects_append words (c ∷ cs) ds = ap (λ os. object_there words c ∷ os) (objects_append words cs ds)

pub objects_more : (words places : List ℕ) (i : ℕ) (now new : List Object) (o : Object) → now ≡ objects_there words (take i places) → i < length places → o ≡ object_there words (get_or places i 0) → new ≡ now ++ o ∷ [] → new ≡ objects_there words (take (i + 1) places)
objects_more words places i now new o was h o_is is =
    is ∙ (λ k. was k ++ o_is k ∷ []) ∙ sym (objects_append words (take i places) (get_or places i 0 ∷ [])) ∙ ap (objects_there words) (sym (take_more places i 0 h))

pub none_some : {X : Type 0} {v : X} → None ≡ Some v → ⊥
none_some h = absurd (cc)

some_same : {X : Type 0} {v w : X} → Some v ≡ Some w → v ≡ w
some_same h = cc

all_at : {X : Type 0} (P : X → Type 0) (xs : List X) (x : X) → AllByRecursion P xs → IsIn x xs → P x
all_at P [] x a m = absurd m
all_at P (y ∷ ys) x a m = elim m [ inl e ↦ subst P e a.0 | inr r ↦ all_at P ys x a.1 r ]

-- later places are higher
higher : (c d : ℕ) (cs : List ℕ) → IsStrictlySortedBy nat_cmp (c ∷ cs) → IsIn d cs → c < d
higher c d cs s m = ranked c d Less (sym (all_at (λ b. nat_cmp c b ≡ Less) cs d (sorted_head nat_cmp c cs s) m))

-- later keys are other ones
other_key : (k : Digest) (ks : List Digest) → IsStrictlySortedBy digest_cmp (k ∷ ks) → IsIn k ks → ⊥
other_key k ks s m =
    let less : digest_cmp k k ≡ Less = all_at (λ b. digest_cmp k b ≡ Less) ks k (sorted_head digest_cmp k ks s) m in
    let more : digest_cmp k k ≡ Greater = digest_total.antisymm k k ∙ ap ordering_reverse less in
    absurd (cc)

-- ---- what the loop over the keys makes

-- each pair is a key of the state with its value
abbrev pub AreValuesOf : State → List Pair → Type 0
AreValuesOf state [] = Unit {0}
AreValuesOf state (p ∷ ps) = (fin.get state.cache p.key ≡ Some p.value) × AreValuesOf state ps

-- the pairs of these keys in a state
pub record ArePairsOf (state : State) (keys : List Digest) (pairs : List Pair) : Type 0 where
  pub keys_are : pair_keys pairs ≡ keys
  pub values : AreValuesOf state pairs

values_both : (state : State) (ps qs : List Pair) → AreValuesOf state ps → AreValuesOf state qs → AreValuesOf state (ps ++ qs)
values_both state [] qs a b = b
values_both state (p ∷ ps) qs a b = (a.0, values_both state ps qs a.1 b)

pair_keys_append : (ps qs : List Pair) → pair_keys (ps ++ qs) ≡ pair_keys ps ++ pair_keys qs
pair_keys_append [] qs = refl
pair_keys_append (p ∷ ps) qs = ap (λ ks. p.key ∷ ks) (pair_keys_append ps qs)

pub no_pairs : (state : State) (keys : List Digest) (now : List Pair) → now ≡ [] → ArePairsOf state (take 0 keys) now
no_pairs state keys now e = record { keys_are = ap pair_keys e; values = subst (AreValuesOf state) (sym e) tt }

pub pairs_more : (state : State) (keys : List Digest) (i : ℕ) (d : Digest) (now new : List Pair) (p : Pair) → ArePairsOf state (take i keys) now → i < length keys → p.key ≡ get_or keys i d → fin.get state.cache p.key ≡ Some p.value → new ≡ now ++ p ∷ [] → ArePairsOf state (take (i + 1) keys) new
pairs_more state keys i d now new p was h key value is = record {
  keys_are = ap pair_keys is ∙ pair_keys_append now (p ∷ []) ∙ (λ k. was.keys_are k ++ key k ∷ []) ∙ sym (take_more keys i d h);
  values = subst (AreValuesOf state) (sym is) (values_both state now (p ∷ []) was.values (value, tt));
}

module _ (words : List ℕ) (x : IsWhole words) where
  -- a listed key has a value
  pub key_has : (keys : List Digest) (k : Digest) → AreKeys words keys → IsIn k keys → (v : Digest) × (fin.get x.state.cache k ≡ Some v)
  key_has keys k a m =
      let z = a.only k m in
      (digest_there words (cell_there words z.0), (x.stands.cache k (digest_there words (cell_there words z.0))).1 record { owner = z.0; filled = z.1; digest = z.2; value_there = refl })

  -- ---- the objects can be stored in their order

  digests_long : (ns : List ℕ) → length (digests_there words ns) ≡ length ns
  digests_long [] = refl
  digests_long (n ∷ ns) = ap suc (digests_long ns)

  refs_known : (known : List Digest) (c : ℕ) (ns : List ℕ) → ((r d : ℕ) → IsContentOf words r d → d < c → Member (digest_there words r) known) → AreReferences words c ns → AllMembers (digests_there words ns) known
  refs_known known c [] below all = tt
  refs_known known c (n ∷ ns) below all = (below n (cell_there words n) (all.0, refl) all.1, refs_known known c ns below all.2)

  -- places that are left when the objects with these digests are stored
  record Left (known : List Digest) (cs : List ℕ) : Type 0 where
    only : (c : ℕ) → IsIn c cs → (r : ℕ) × IsContentOf words r c
    has : (r c : ℕ) → IsContentOf words r c → IsIn c cs ⊎ Member (digest_there words r) known
    fresh : (r c : ℕ) → IsContentOf words r c → IsIn c cs → Member (digest_there words r) known → ⊥
    rising : IsStrictlySortedBy nat_cmp cs

  next_left : (known : List Digest) (c : ℕ) (cs : List ℕ) → Left known (c ∷ cs) → Left (object_digest (object_there words c) ∷ known) cs
  next_left known c cs a = record {
    only = λ d m. a.only d (inr m);
    has = λ r d k. elim (a.has r d k) [
      | inl m ↦ elim m [ inl e ↦ inr (inl (ap (λ n. object_digest (object_there words n)) e ∙ x.stands.named r d k)) | inr m ↦ inl m ]
      | inr q ↦ inr (inr q)
    ];
    fresh = λ r d k m q. elim q [
      | inl e ↦
          let z = a.only c (inl refl) in
          let owner : z.0 ≡ r = one_record words x Objects z.0 r z.1.0 k.0 (sym (x.stands.named z.0 c z.1) ∙ e) in
          let same : c ≡ d = z.1.1 ∙ ap (cell_there words) owner ∙ sym k.1 in
          omega (arith, same, higher c d cs a.rising m)
      | inr q ↦ a.fresh r d k (inr m) q
    ];
    rising = sorted_tail nat_cmp c cs a.rising;
  }

  storable_left : (known : List Digest) (cs : List ℕ) → Left known cs → AreStorable known (objects_there words cs)
  storable_left known [] a = tt
  storable_left known (c ∷ cs) a =
      let z = a.only c (inl refl) in
      let content = x.stands.contents z.0 c z.1 in (
        subst (λ n. n ≤ 65535) (sym (digests_long (content_places (content_there words c)))) content.0.few_refs,
        content.0.short,
        refs_known known c (content_places (content_there words c)) (λ r d k low. elim (a.has r d k) [
          | inl m ↦ elim m [ inl e ↦ absurd (omega (arith, e)) | inr m ↦ absurd (omega (arith, higher c d cs a.rising m)) ]
          | inr q ↦ q
        ]) (x.stands.references z.0 c z.1),
        (λ q. a.fresh z.0 c z.1 (inl refl) (subst (λ d. Member d known) (x.stands.named z.0 c z.1) q)),
        storable_left (object_digest (object_there words c) ∷ known) cs (next_left known c cs a),
      )

  -- ---- the pairs can be put in their order

  in_digests : (cs : List ℕ) (c : ℕ) → IsIn c cs → Member (object_digest (object_there words c)) (object_digests (objects_there words cs))
  in_digests [] c m = absurd m
  in_digests (d ∷ cs) c m = elim m [ inl e ↦ inl (ap (λ n. object_digest (object_there words n)) e) | inr r ↦ inr (in_digests cs c r) ]

  puttable_left : (cs : List ℕ) (known : List Digest) (pairs : List Pair) → AreContentPlaces words cs → AreValuesOf x.state pairs → ((k : Digest) → IsIn k (pair_keys pairs) → Member k known → ⊥) → IsStrictlySortedBy digest_cmp (pair_keys pairs)
      → ArePuttable (object_digests (objects_there words cs)) known pairs
  puttable_left cs known [] a values fresh rising = tt
  puttable_left cs known (p ∷ ps) a values fresh rising =
      let z = (x.stands.cache p.key p.value).0 values.0 in
      let value : IsContentOf words (cell_there words z.owner) (cell_there words (cell_there words z.owner)) = (x.stands.values z.owner z.filled, refl) in
      let named : object_digest (object_there words (cell_there words (cell_there words z.owner))) ≡ p.value = x.stands.named (cell_there words z.owner) (cell_there words (cell_there words z.owner)) value ∙ z.value_there in (
        subst (λ d. Member d (object_digests (objects_there words cs))) named (in_digests cs (cell_there words (cell_there words z.owner)) (a.has (cell_there words z.owner) (cell_there words (cell_there words z.owner)) value)),
        fresh p.key (inl refl),
        puttable_left cs (p.key ∷ known) ps a values.1 (λ k m q. elim q [
          | inl e ↦ other_key p.key (pair_keys ps) rising (subst (λ d. IsIn d (pair_keys ps)) (sym e) m)
          | inr q ↦ fresh k (inr m) q
        ]) (sorted_tail digest_cmp p.key (pair_keys ps) rising),
      )

  -- ---- the state

  -- the content of a digest in a list of places
  record ContentIn (cs : List ℕ) (d : Digest) (o : Object) : Type 0 where
    place : ℕ
    there : IsIn place cs
    digest : object_digest (object_there words place) ≡ d
    object : object_there words place ≡ o

  object_to : (cs : List ℕ) (d : Digest) (o : Object) → fin.get (objects_map (objects_there words cs)) d ≡ Some o → ContentIn cs d o
  object_to [] d o h = absurd (let clash : fin.get (fin.empty {R = digest_cmp}) d ≡ Some o = h in none_some (sym (fin.get-empty digest_cmp d) ∙ clash))
  object_to (c ∷ cs) d o h = elim (cases_Bool (same_digest d (object_digest (object_there words c)))) [
    | inl hit ↦
        let same : Some (object_there words c) ≡ Some o = sym (get-put (objects_map (objects_there words cs)) (object_digest (object_there words c)) (object_there words c) d ∙ ap (λ b. cond b (Some (object_there words c)) (fin.get (objects_map (objects_there words cs)) d)) hit) ∙ h in
        record { place = c; there = inl refl; digest = sym (same-is d (object_digest (object_there words c)) hit); object = some_same same }
    | inr miss ↦
        let z = object_to cs d o (sym (get-put (objects_map (objects_there words cs)) (object_digest (object_there words c)) (object_there words c) d ∙ ap (λ b. cond b (Some (object_there words c)) (fin.get (objects_map (objects_there words cs)) d)) miss) ∙ h) in
        record { place = z.place; there = inr z.there; digest = z.digest; object = z.object }
  ]

  object_back : (cs : List ℕ) (d : Digest) (o : Object) → ((c : ℕ) → IsIn c cs → object_digest (object_there words c) ≡ d → object_there words c ≡ o) → (c : ℕ) → IsIn c cs → object_digest (object_there words c) ≡ d
      → fin.get (objects_map (objects_there words cs)) d ≡ Some o
  object_back [] d o one c m e = absurd m
  object_back (b ∷ cs) d o one c m e =
      get-put (objects_map (objects_there words cs)) (object_digest (object_there words b)) (object_there words b) d ∙ elim (cases_Bool (same_digest d (object_digest (object_there words b)))) [
        | inl hit ↦ ap (λ t. cond t (Some (object_there words b)) (fin.get (objects_map (objects_there words cs)) d)) hit ∙ ap Some (one b (inl refl) (sym (same-is d (object_digest (object_there words b)) hit)))
        | inr miss ↦ ap (λ t. cond t (Some (object_there words b)) (fin.get (objects_map (objects_there words cs)) d)) miss ∙ elim m [
          | inl z ↦ absurd (let hit : same_digest d (object_digest (object_there words b)) ≡ true = ap (same_digest d) (ap (λ n. object_digest (object_there words n)) z ∙ e) ∙ same-self d in cc)
          | inr r ↦ object_back cs d o (λ n k. one n (inr k)) c r e
        ]
      ]

  value_to : (pairs : List Pair) (k v : Digest) → AreValuesOf x.state pairs → fin.get (actions_map pairs) k ≡ Some v → fin.get x.state.cache k ≡ Some v
  value_to [] k v values h = absurd (let clash : fin.get (fin.empty {R = digest_cmp}) k ≡ Some v = h in none_some (sym (fin.get-empty digest_cmp k) ∙ clash))
  value_to (p ∷ ps) k v values h = elim (cases_Bool (same_digest k p.key)) [
    | inl hit ↦
        let same : Some p.value ≡ Some v = sym (get-put (actions_map ps) p.key p.value k ∙ ap (λ b. cond b (Some p.value) (fin.get (actions_map ps) k)) hit) ∙ h in
        ap (fin.get x.state.cache) (same-is k p.key hit) ∙ values.0 ∙ same
    | inr miss ↦ value_to ps k v values.1 (sym (get-put (actions_map ps) p.key p.value k ∙ ap (λ b. cond b (Some p.value) (fin.get (actions_map ps) k)) miss) ∙ h)
  ]

  value_back : (pairs : List Pair) (k : Digest) → AreValuesOf x.state pairs → IsIn k (pair_keys pairs) → fin.get (actions_map pairs) k ≡ fin.get x.state.cache k
  value_back [] k values m = absurd m
  value_back (p ∷ ps) k values m =
      get-put (actions_map ps) p.key p.value k ∙ elim (cases_Bool (same_digest k p.key)) [
        | inl hit ↦ ap (λ t. cond t (Some p.value) (fin.get (actions_map ps) k)) hit ∙ sym (ap (fin.get x.state.cache) (same-is k p.key hit) ∙ values.0)
        | inr miss ↦ ap (λ t. cond t (Some p.value) (fin.get (actions_map ps) k)) miss ∙ elim m [
          | inl z ↦ absurd (let hit : same_digest k p.key ≡ true = ap (same_digest k) z ∙ same-self k in cc)
          | inr r ↦ value_back ps k values.1 r
        ]
      ]

  module _ (cs : List ℕ) (keys : List Digest) (pairs : List Pair) (a : AreContentPlaces words cs) (b : AreKeys words keys) (y : ArePairsOf x.state keys pairs) where
    lawful : AreLawfulContents (objects_there words cs) pairs
    lawful = record {
      storable = storable_left [] cs record { only = a.only; has = λ r c k. inl (a.has r c k); fresh = λ r c k m q. q; rising = a.rising };
      puttable = puttable_left cs [] pairs a y.values (λ k m q. q) (subst (IsStrictlySortedBy digest_cmp) (sym y.keys_are) b.rising);
    }

    same_object : (d : Digest) (o : Object) → fin.get x.state.objects d ≡ Some o → fin.get (objects_map (objects_there words cs)) d ≡ Some o
    same_object d o h =
        let z = (x.stands.objects d o).0 h in
        object_back cs d o (λ c m e.
        let q = a.only c m in
        let owner : q.0 ≡ z.owner = one_record words x Objects q.0 z.owner q.1.0 z.content.0 (sym (x.stands.named q.0 c q.1) ∙ e ∙ sym z.digest) in
        let same : c ≡ z.place = q.1.1 ∙ ap (cell_there words) owner ∙ sym z.content.1 in
        ap (object_there words) same ∙ z.object)
        z.place (a.has z.owner z.place z.content) (x.stands.named z.owner z.place z.content ∙ z.digest)

    object_of_map : (d : Digest) (o : Object) → fin.get (objects_map (objects_there words cs)) d ≡ Some o → fin.get x.state.objects d ≡ Some o
    object_of_map d o h =
        let z = object_to cs d o h in
        let q = a.only z.place z.there in
        (x.stands.objects d o).1 record { owner = q.0; place = z.place; content = q.1; digest = sym (x.stands.named q.0 z.place q.1) ∙ z.digest; object = z.object }

    value_of_map : (k v : Digest) → fin.get x.state.cache k ≡ Some v → fin.get (actions_map pairs) k ≡ Some v
    value_of_map k v h =
        let z = (x.stands.cache k v).0 h in
        value_back pairs k y.values (subst (IsIn k) (sym y.keys_are) (subst (λ d. IsIn d keys) z.digest (b.has z.owner z.filled))) ∙ h

    state_listed : contents_state (objects_there words cs) pairs ≡ x.state
    state_listed = same-states (contents_state (objects_there words cs) pairs) x.state
        (λ d. same_option (fin.get (objects_map (objects_there words cs)) d) (fin.get x.state.objects d) (object_of_map d) (same_object d))
        (λ k. same_option (fin.get (actions_map pairs) k) (fin.get x.state.cache k) (λ v. value_to pairs k v y.values) (value_of_map k))

-- the place of a content is in the cell of its digest
cell_listed : (seen : FrozenSeen) (y : Inside seen) (r c : ℕ) → IsContentOf seen.words r c → cell_under seen.tables Objects (object_digest (object_there seen.words c)) ≡ c
cell_listed seen y r c =
    subst (λ (z : FrozenSeen). IsContentOf z.words r c → cell_under z.tables Objects (object_digest (object_there z.words c)) ≡ c) y.is
    (λ k.
    let cert = certified y.words y.objects y.actions y.frozen in
    let label = content_label (heap_of y.words) y.words cert.laid cert.contents r c k in
    let digest : object_digest (object_there y.words c) ≡ record { bytes = label.digest } = y.frozen.stands.named r c k ∙ digest_is (heap_of y.words) y.words cert.laid r Objects label.digest c label.record_ in
    let bound = ((go y.words y.objects y.actions y.frozen).places Objects (record { bytes = label.digest }) (record { at = r })).1 (c, label.record_) in
    ap (cell_under (tables_in y.words) Objects) digest ∙ cell_is y.words y.objects y.actions y.frozen Objects (record { bytes = label.digest }) (record { at = r }) bound ∙ sym k.1)

places_listed : (seen : FrozenSeen) (y : Inside seen) (cs : List ℕ) → ((c : ℕ) → IsIn c cs → (r : ℕ) × IsContentOf seen.words r c) → places_of seen.tables (objects_there seen.words cs) ≡ cs
places_listed seen y [] only = refl
places_listed seen y (c ∷ cs) only =
    let z = only c (inl refl) in
    let head = cell_listed seen y z.0 c z.1 in
    let tail = places_listed seen y cs (λ d m. only d (inr m)) in
    λ i. head i ∷ tail i

-- what contracts see are whole words
abbrev pub whole_of : (seen : FrozenSeen) → IsSeen seen → IsWhole seen.words
whole_of seen x = record {
  state = primary seen.tables;
  stands = subst (λ n. Stands seen.words n (primary seen.tables)) (sym x.stands.headed.size_there) x.stands;
  words_are = x.words_are;
}

-- the listed contents are those of a closed region
pub contents_listed : (seen : FrozenSeen) (x : IsSeen seen) (objects : List Object) (keys : List Digest) (pairs : List Pair) → AreObjects seen.words objects → AreKeys seen.words keys → ArePairsOf (primary seen.tables) keys pairs → AreContentsOf seen objects pairs
contents_listed seen x objects keys pairs a b y = subst (λ os. AreContentsOf seen os pairs) (sym a.is) record {
  lawful = lawful seen.words (whole_of seen x) a.places keys pairs a.places_are b y;
  state = state_listed seen.words (whole_of seen x) a.places keys pairs a.places_are b y;
  objects_rise = subst (IsStrictlySortedBy nat_cmp) (sym (places_listed seen (inside_of seen x) a.places a.places_are.only)) a.places_are.rising;
  keys_rise = subst (IsStrictlySortedBy digest_cmp) (sym y.keys_are) b.rising;
}

-- the claims of what is there end at or below the end of the words
pub listed-short : (seen : FrozenSeen) (objects : List Object) (pairs : List Pair) → IsSeen seen → AreContentsOf seen objects pairs → Fit (length seen.words) 520 (contents_claims objects pairs)
listed-short seen objects pairs x a = tables_in-fit seen.words seen.tables.size (primary seen.tables) x.stands x.words_are objects pairs a.lawful (a.state ∙ ap primary x.tables)

-- and so they fit in the region
pub listed-fit : (seen : FrozenSeen) (objects : List Object) (pairs : List Pair) → IsSeen seen → AreContentsOf seen objects pairs → Fit seen.tables.size 520 (contents_claims objects pairs)
listed-fit seen objects pairs x a = omega (arith, listed-short seen objects pairs x a, x.stands.headed.within)
