-- The steps of building, over what its parts say.
use Rattle.std.proofs.Common.{◌≡◌, ℕ, ◌+◌, ◌*◌, ◌<◌, ◌≤◌, List, [], ◌∷◌, ◌++◌, length, get_or, set, take, suc, refl, sym, ap, ◌∙◌, subst, arith, append_assoc, None}
use Rattle.std.specs.List.{sum}
use Rattle.std.proofs.lemmas.List.{length-append}
use Rattle.std.proofs.lemmas.List.Sums.{sum_by-append}
use Rattle.std.proofs.Math.Seq.{take-append_seam}
use Rattle.cas_model.specs.declared.contents.Pair.{Pair}
use Rattle.cas_model.specs.declared.digest.Digest.{Digest}
use Rattle.cas_model.specs.declared.object.Object.{Object}
use Rattle.cas_model.specs.declared.place.Full.{Full}
use Rattle.cas_model.specs.declared.place.Space.TheVariants.{Objects, Actions}
use Rattle.cas_model.specs.Content.{content_words, content_head, content_size, data_words}
use Rattle.cas_model.specs.Contents.{object_digests, pair_keys, AllMembers}
use Rattle.cas_model.specs.Object.{object_digest}
use Rattle.cas_model.specs.State.{Member}
use Rattle.cas_model.specs.Trie.{new_subtries}
use Rattle.region_core.specs.declared.insertion.BuildError.{BuildError}
use Rattle.region_core.specs.declared.insertion.BuildError.TheVariants as errors
use Rattle.region_core.specs.Builds.{Building, IsBuilt, IsNextObject, IsNextPair, AreThere, ArePlaces, HasReferences, HasPlaces, HasContent, one_object_claims}
use Rattle.cas_model.specs.Claims.{record_claims}
use Rattle.region_core.specs.Claims.{Refuses}
use Rattle.region_core.specs.Heap.{Block, Record, Laid, memory_of}
use Rattle.region_core.specs.Holds.{IsRecord, Looked}
use Rattle.region_core.specs.Inserts.{IsReady, Inserted, SameHead, HasJust, SameDataBut, RefusesClaim}
use Rattle.region_core.proofs.Labels.{length-content_words}
use Rattle.region_core.proofs.Inserting.{head_append, head_set, head_then, laid_long}
use Rattle.region_core.proofs.Begins.{sum_record, sum_object}
use Rattle.region_core.proofs.Adding.{object_building, object_grown, pair_building, pair_grown}

-- ---- claims

pub refuses_more : (size start : ℕ) (claims more : List ℕ) (error : BuildError) → Refuses size start claims error → Refuses size start (claims ++ more) error
refuses_more size start claims more errors.Memory x = tt
refuses_more size start claims more (errors.Full full) x = record {
  earlier = x.earlier;
  later = x.later ++ more;
  is = ap (λ xs. xs ++ more) x.is ∙ append_assoc x.earlier (full.asked ∷ x.later) more;
  at_is = x.at_is;
  fits = x.fits;
  past = x.past;
  size_is = x.size_is;
}

pub refuses_after : (size start at : ℕ) (before claims : List ℕ) (error : BuildError) → at ≡ start + sum before → Refuses size at claims error → Refuses size start (before ++ claims) error
refuses_after size start at before claims errors.Memory e x = tt
refuses_after size start at before claims (errors.Full full) e x = record {
  earlier = before ++ x.earlier;
  later = x.later;
  is = ap (λ xs. before ++ xs) x.is ∙ sym (append_assoc before x.earlier (full.asked ∷ x.later));
  at_is = x.at_is ∙ omega (arith, e, sum_by-append (λ n. n) before x.earlier);
  fits = x.fits;
  past = x.past;
  size_is = x.size_is;
}

-- one claim
pub refuses_one : (size at asked : ℕ) (error : BuildError) → at ≤ size → RefusesClaim at asked size error → Refuses size at (asked ∷ []) error
refuses_one size at asked errors.Memory fits x = tt
refuses_one size at asked (errors.Full full) fits x = record {
  earlier = [];
  later = [];
  is = ap (λ n. n ∷ []) (sym (ap (λ (f : Full). f.asked) x.0));
  at_is = ap (λ (f : Full). f.at) x.0 ∙ omega arith;
  fits = omega (arith, ap (λ (f : Full). f.at) x.0);
  past = omega (arith, ap (λ (f : Full). f.at) x.0, ap (λ (f : Full). f.asked) x.0, x.1);
  size_is = ap (λ (f : Full). f.size) x.0;
}

-- ---- an object

pub ready_for : (heap : ℕ → Block) (words : List ℕ) (objects : List Object) (pairs : List Pair) (o : Object) (d : Digest) → Building heap words objects pairs → IsNextObject objects o → d ≡ object_digest o → IsReady heap (object_digests objects) words Objects d
ready_for heap words objects pairs o d b next d_is = record {
  laid = b.laid;
  absent = λ p c h. next.fresh (subst (λ z. Member z (object_digests objects)) d_is (b.objects_are.back d.bytes p c h));
  known_are = b.objects_are;
  tight = b.tight;
}

pub ready_for_key : (heap : ℕ → Block) (words : List ℕ) (objects : List Object) (pairs : List Pair) (p0 : Pair) → Building heap words objects pairs → IsNextPair objects pairs p0 → IsReady heap (pair_keys pairs) words Actions p0.key
ready_for_key heap words objects pairs p0 b next = record {
  laid = b.laid;
  absent = λ p c h. next.fresh (b.keys_are.back p0.key.bytes p c h);
  known_are = b.keys_are;
  tight = b.tight;
}

members_there : (heap after : ℕ → Block) (known : List Digest) (owner : ℕ) (refs : List Digest) → HasJust heap Objects known → SameDataBut heap after owner → AllMembers refs known → AreThere after refs
members_there heap after known owner [] just same m = tt
members_there heap after known owner (r ∷ rs) just same m =
    let x = just.on r m.0 in
    ((x.0, (x.1.0, (same x.0 (Record Objects r.bytes x.1.0) tt).0 x.1.1)), members_there heap after known owner rs just same m.1)

pub references_there : (heap : ℕ → Block) (first mid : List ℕ) (objects : List Object) (pairs : List Pair) (o : Object) (d : Digest) (owner : ℕ) → Building heap first objects pairs → IsNextObject objects o → Inserted heap (object_digests objects) mid Objects d owner → HasReferences mid o.refs
references_there heap first mid objects pairs o d owner b next x = record {
  heap = x.after;
  laid = x.laid;
  there = members_there heap x.after (object_digests objects) owner o.refs b.objects_are x.same next.refs;
}

same_length : (heap : ℕ → Block) (ns : List ℕ) (rs : List Digest) → ArePlaces heap ns rs → length ns ≡ length rs
same_length heap [] [] a = refl
same_length heap [] (r ∷ rs) a = absurd a
same_length heap (n ∷ ns) [] a = absurd a
same_length heap (n ∷ ns) (r ∷ rs) a = ap suc (same_length heap ns rs a.1)

pub old_region : (old one : List ℕ) (head end : ℕ) → one ≡ old ++ head ∷ [] → end ≡ length old → take end one ≡ old
old_region old one head end e end_is = (λ i. take (end_is i) (e i)) ∙ take-append_seam old (head ∷ [])

-- the head, the references and the data are a content
pub content_pushed : (old one two three : List ℕ) (o : Object) (head end : ℕ) → one ≡ old ++ head ∷ [] → end ≡ length old → head ≡ content_head (length o.refs) (length o.data) → HasReferences old o.refs
    → HasPlaces (take end one) one two o.refs → three ≡ two ++ data_words o.data → HasContent old three o
content_pushed old one two three o head end e end_is head_is refs x is =
    let region = old_region old one head end e end_is in
    let are : (heap : ℕ → Block) → Laid heap (memory_of old) (length old) → ArePlaces heap x.places o.refs = λ heap laid. x.are heap (subst (λ ws. Laid heap (memory_of ws) (length ws)) (sym region) laid) in
    let long : length x.places ≡ length o.refs = same_length refs.heap x.places o.refs (are refs.heap refs.laid) in
    let head_now : head ≡ content_head (length x.places) (length o.data) = head_is ∙ ap (λ n. content_head n (length o.data)) (sym long) in
    record {
      places = x.places;
      is = is ∙ ap (λ ws. ws ++ data_words o.data) (x.is ∙ ap (λ ws. ws ++ x.places) e ∙ append_assoc old (head ∷ []) x.places) ∙ append_assoc old (head ∷ x.places) (data_words o.data) ∙ ap (λ h. old ++ (h ∷ x.places ++ data_words o.data)) head_now;
      are = are;
    }

regroup : (a n s : ℕ) → a + 5 + 16 * n + s ≡ a + (5 + 16 * n + s)
regroup a n s = omega arith

regroup_two : (a n : ℕ) → a + 5 + 16 * n ≡ a + (5 + 16 * n)
regroup_two a n = omega arith

-- how long the content is
pub content_long : (old three : List ℕ) (o : Object) → HasReferences old o.refs → HasContent old three o → length three ≡ length old + content_size (length o.refs) (length o.data)
content_long old three o refs x =
    ap length x.is ∙ length-append old (content_words x.places o.data) ∙ ap (λ n. length old + n) (length-content_words x.places o.data ∙ ap (λ n. content_size n (length o.data)) (same_length refs.heap x.places o.refs (x.are refs.heap refs.laid)))

pub object_done : (heap : ℕ → Block) (objects : List Object) (first mid after : List ℕ) (o : Object) (d : Digest) (owner content : ℕ) → Building heap first objects [] → IsNextObject objects o → d ≡ object_digest o
    → Inserted heap (object_digests objects) mid Objects d owner → owner ≡ length first → HasContent mid after o → content ≡ length mid → ((i : ℕ) → get_or o.data i 0 < 256)
    → IsBuilt (set after (owner + 4) content) (o ∷ objects) [] × (length (set after (owner + 4) content) ≡ length first + sum (one_object_claims (object_digests objects) o))
object_done heap objects first mid after o d owner content b next d_is x start c content_is bytes =
    let y : Inserted heap (object_digests objects) mid Objects (object_digest o) owner = subst (λ z. Inserted heap (object_digests objects) mid Objects z owner) d_is x in
    let words : set after (owner + 4) content ≡ set (mid ++ content_words c.places o.data) (owner + 4) (length mid) = λ i. set (c.is i) (owner + 4) (content_is i) in
    let are = c.are y.after y.laid in
    subst (λ ws. IsBuilt ws (o ∷ objects) [] × (length ws ≡ length first + sum (one_object_claims (object_digests objects) o))) (sym words) (
      record { heap = _; building = object_building heap objects first mid o owner c.places b next y start are bytes },
      object_grown heap objects first mid o owner c.places b next y start are bytes ∙ regroup (length first) (new_subtries (object_digests objects) (object_digest o) 62) (content_size (length o.refs) (length o.data)) ∙ ap (λ n. length first + n) (sym (sum_object (object_digests objects) o)),
    )

pub pair_done : (heap : ℕ → Block) (objects : List Object) (pairs : List Pair) (first mid : List ℕ) (p0 : Pair) (owner value : ℕ) → Building heap first objects pairs → IsNextPair objects pairs p0
    → Inserted heap (pair_keys pairs) mid Actions p0.key owner → owner ≡ length first → IsRecord heap Objects p0.value.bytes value
    → IsBuilt (set mid (owner + 4) value) objects (p0 ∷ pairs) × (length (set mid (owner + 4) value) ≡ length first + sum (record_claims (pair_keys pairs) p0.key))
pair_done heap objects pairs first mid p0 owner value b next x start found = (
  record { heap = _; building = pair_building heap objects pairs first mid p0 owner value b next x start found },
  pair_grown heap objects pairs first mid p0 owner value b next x start found ∙ regroup_two (length first) (new_subtries (pair_keys pairs) p0.key 62) ∙ ap (λ n. length first + n) (sym (sum_record (pair_keys pairs) p0.key)),
)

-- the claim of a content is refused
pub refused_content : (heap : ℕ → Block) (objects : List Object) (first mid : List ℕ) (o : Object) (d : Digest) (owner size : ℕ) (error : BuildError) → d ≡ object_digest o → Inserted heap (object_digests objects) mid Objects d owner → owner ≡ length first → length mid ≤ size
    → RefusesClaim (length mid) (content_size (length o.refs) (length o.data)) size error → Refuses size (length first) (one_object_claims (object_digests objects) o) error
refused_content heap objects first mid o d owner size error d_is x start fits refused =
    let long : length mid ≡ length first + sum (record_claims (object_digests objects) (object_digest o)) =
    x.grown ∙ (λ i. start i + 5 + 16 * new_subtries (object_digests objects) (d_is i) 62) ∙ regroup_two (length first) (new_subtries (object_digests objects) (object_digest o) 62) ∙ ap (λ n. length first + n) (sym (sum_record (object_digests objects) (object_digest o))) in
    refuses_after size (length first) (length mid) (record_claims (object_digests objects) (object_digest o)) (content_size (length o.refs) (length o.data) ∷ []) error long
    (refuses_one size (length mid) (content_size (length o.refs) (length o.data)) error fits refused)

-- the header stays
pub object_head : (first mid after : List ℕ) (o : Object) (owner content : ℕ) → SameHead first mid → HasContent mid after o → owner ≡ length first → 520 ≤ length first → 8 ≤ length mid → SameHead first (set after (owner + 4) content)
object_head first mid after o owner content head x start long mid_long =
    head_then first after (set after (owner + 4) content)
    (head_then first mid after head (subst (SameHead mid) (sym x.is) (head_append mid (content_words x.places o.data) mid_long)))
    (head_set after (owner + 4) content (omega arith))

pub pair_head : (first mid : List ℕ) (owner value : ℕ) → SameHead first mid → owner ≡ length first → 520 ≤ length first → SameHead first (set mid (owner + 4) value)
pair_head first mid owner value head start long = head_then first mid (set mid (owner + 4) value) head (head_set mid (owner + 4) value (omega arith))

pub building_long : (heap : ℕ → Block) (words : List ℕ) (objects : List Object) (pairs : List Pair) → Building heap words objects pairs → 520 ≤ length words
building_long heap words objects pairs b = laid_long heap words b.laid

pub cell_within : (mid after : List ℕ) (o : Object) (owner n : ℕ) → HasContent mid after o → length mid ≡ owner + 5 + n → owner + 4 < length after
cell_within mid after o owner n x grown = more (length after) (length mid) (length (content_words x.places o.data)) owner n (ap length x.is ∙ length-append mid (content_words x.places o.data)) grown
  where
    more : (total mid_long own owner n : ℕ) → total ≡ mid_long + own → mid_long ≡ owner + 5 + n → owner + 4 < total
    more total mid_long own owner n a b = omega arith

pub owner_within : (total owner n : ℕ) → total ≡ owner + 5 + n → owner + 4 < total
owner_within total owner n e = omega arith

-- a value has a record
pub value_there : (heap : ℕ → Block) (words seen : List ℕ) (objects : List Object) (pairs : List Pair) (p0 : Pair) → seen ≡ words → Building heap words objects pairs → IsNextPair objects pairs p0
    → ((g : ℕ → Block) → Laid g (memory_of seen) (length seen) → Looked g Objects p0.value.bytes None) → ⊥
value_there heap words seen objects pairs p0 e b next none =
    let at = b.objects_are.on p0.value next.value in
    none heap (subst (λ ws. Laid heap (memory_of ws) (length ws)) (sym e) b.laid) at.0 at.1.0 at.1.1
