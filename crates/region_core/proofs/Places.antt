-- In words that are built, each block lies behind the claims before it.
use Rattle.std.proofs.Common.{◌≡◌, ◌≢◌, ℕ, ◌+◌, ◌*◌, ◌==◌, List, [], ◌∷◌, length, replicate, take, slice_get, Some, zero, suc, cond, refl, sym, ap, ◌∙◌, subst, append_assoc, arith}
use Rattle.std.specs.Cmp.Lexicographic.{pointwise}
use Rattle.std.specs.List.{sum}
use Rattle.std.specs.Prelude.{nat_eq}
use Rattle.std.proofs.lemmas.List.Sums.{sum_by-append, sum_by-cons}
use Rattle.cas_model.specs.declared.contents.Pair.{Pair}
use Rattle.cas_model.specs.declared.digest.Digest.{Digest}
use Rattle.cas_model.specs.declared.object.Object.{Object}
use Rattle.cas_model.specs.declared.place.Space.{Space}
use Rattle.cas_model.specs.declared.place.Space.TheVariants.{Objects, Actions}
use Rattle.cas_model.specs.Claims.{record_claims, object_claims, action_claims, contents_claims}
use Rattle.cas_model.specs.Content.{content_size}
use Rattle.cas_model.specs.Contents.{object_digests, pair_keys}
use Rattle.cas_model.specs.Object.{object_digest}
use Rattle.cas_model.specs.Trie.{path, sharing, new_subtries}
use Rattle.region_core.specs.Builds.{one_object_claims, objects_end, pairs_end, RecordBegins, ObjectBegins, ObjectsBegin, PairBegins, PairsBegin, turned}
use Rattle.region_core.specs.Heap.{Block, Record, Laid, memory_of}
use Rattle.region_core.specs.Places.{HasRecordFrom, HasObjectFrom, LieInOrder}
use Rattle.region_core.proofs.Labels.{label_leads, record_named, digest_is, cell_is, filled_named}

-- ---- the order of the known digests does not matter

digests_turned : (acc os : List Object) → object_digests (turned acc os) ≡ turned (object_digests acc) (object_digests os)
digests_turned acc [] = refl
digests_turned acc (o ∷ os) = digests_turned (o ∷ acc) os

keys_turned : (acc ps : List Pair) → pair_keys (turned acc ps) ≡ turned (pair_keys acc) (pair_keys ps)
keys_turned acc [] = refl
keys_turned acc (p ∷ ps) = keys_turned (p ∷ acc) ps

sharing_turned : (acc ds : List Digest) (d : Digest) (n : ℕ) → sharing (turned acc ds) d n ≡ sharing acc d n + sharing ds d n
sharing_turned acc [] d n = omega arith
sharing_turned acc (e ∷ ds) d n =
    omega (arith, sharing_turned (e ∷ acc) ds d n, sum_by-cons (λ (x : Digest). cond (pointwise nat_eq (path x.bytes n) (path d.bytes n)) 1 0) e acc, sum_by-cons (λ (x : Digest). cond (pointwise nat_eq (path x.bytes n) (path d.bytes n)) 1 0) e ds)

-- as many of the one as of the other share the indexes of a digest
abbrev Alike : List Digest → List Digest → Digest → Type 0
Alike ds es d = (n : ℕ) → sharing ds d n ≡ sharing es d n

objects_alike : (os : List Object) (d : Digest) → Alike (object_digests (turned [] os)) (object_digests os) d
objects_alike os d n = ap (λ ds. sharing ds d n) (digests_turned [] os) ∙ sharing_turned [] (object_digests os) d n ∙ omega arith

pairs_alike : (ps : List Pair) (d : Digest) → Alike (pair_keys (turned [] ps)) (pair_keys ps) d
pairs_alike ps d n = ap (λ ds. sharing ds d n) (keys_turned [] ps) ∙ sharing_turned [] (pair_keys ps) d n ∙ omega arith

subtries_alike : (ds es : List Digest) (d : Digest) (n : ℕ) → Alike ds es d → new_subtries ds d n ≡ new_subtries es d n
subtries_alike ds es d zero alike = refl
subtries_alike ds es d (suc n) alike = λ i. cond (alike (suc n) i == 1) 1 0 + subtries_alike ds es d n alike i

-- ---- where the claims end

objects_end-turned : (done os : List Object) → objects_end (turned done os) ≡ objects_end done + sum (object_claims (object_digests done) os)
objects_end-turned done [] = omega arith
objects_end-turned done (o ∷ os) =
    objects_end-turned (o ∷ done) os
    ∙ regroup (objects_end done) (sum (one_object_claims (object_digests done) o)) (sum (object_claims (object_digest o ∷ object_digests done) os))
    ∙ ap (λ n. objects_end done + n) (sym (sum_by-append (λ m. m) (one_object_claims (object_digests done) o) (object_claims (object_digest o ∷ object_digests done) os)))
    ∙ ap (λ cs. objects_end done + sum cs) (append_assoc (record_claims (object_digests done) (object_digest o)) (content_size (length o.refs) (length o.data) ∷ []) (object_claims (object_digest o ∷ object_digests done) os))
  where
    regroup : (a b c : ℕ) → a + b + c ≡ a + (b + c)
    regroup a b c = omega arith

pairs_end-turned : (objects : List Object) (done ps : List Pair) → pairs_end objects (turned done ps) ≡ pairs_end objects done + sum (action_claims (pair_keys done) ps)
pairs_end-turned objects done [] = omega arith
pairs_end-turned objects done (p ∷ ps) =
    pairs_end-turned objects (p ∷ done) ps
    ∙ regroup (pairs_end objects done) (sum (record_claims (pair_keys done) p.key)) (sum (action_claims (p.key ∷ pair_keys done) ps))
    ∙ ap (λ n. pairs_end objects done + n) (sym (sum_by-append (λ m. m) (record_claims (pair_keys done) p.key) (action_claims (p.key ∷ pair_keys done) ps)))
  where
    regroup : (a b c : ℕ) → a + b + c ≡ a + (b + c)
    regroup a b c = omega arith

all_end : (objects : List Object) (ps : List Pair) → pairs_end (turned [] objects) (turned [] ps) ≡ 520 + sum (contents_claims objects ps)
all_end objects ps =
    pairs_end-turned (turned [] objects) [] ps
    ∙ ap (λ n. n + sum (action_claims [] ps)) (objects_end-turned [] objects)
    ∙ regroup (sum (object_claims [] objects)) (sum (action_claims [] ps))
    ∙ ap (λ n. 520 + n) (sym (sum_by-append (λ m. m) (object_claims [] objects) (action_claims [] ps)))
  where
    regroup : (a b : ℕ) → 520 + a + b ≡ 520 + (a + b)
    regroup a b = omega arith

-- ---- the object and the pair at an index

older_begin : (heap : ℕ → Block) (acc os : List Object) → ObjectsBegin heap (turned acc os) → ObjectsBegin heap acc
older_begin heap acc [] x = x
older_begin heap acc (o ∷ os) x = (older_begin heap (o ∷ acc) os x).1

older_pairs_begin : (heap : ℕ → Block) (objects : List Object) (acc ps : List Pair) → PairsBegin heap objects (turned acc ps) → PairsBegin heap objects acc
older_pairs_begin heap objects acc [] x = x
older_pairs_begin heap objects acc (p ∷ ps) x = (older_pairs_begin heap objects (p ∷ acc) ps x).1

object_at : (heap : ℕ → Block) (acc os : List Object) (i : ℕ) (o : Object) → slice_get os i ≡ Some o → ObjectsBegin heap (turned acc os) → ObjectBegins heap (turned acc (take i os)) o
object_at heap acc [] i o e x = absurd cc
object_at heap acc (a ∷ os) zero o e x =
    let is : a ≡ o = cc in
    subst (ObjectBegins heap acc) is (older_begin heap (a ∷ acc) os x).0
object_at heap acc (a ∷ os) (suc i) o e x = object_at heap (a ∷ acc) os i o e x

pair_at : (heap : ℕ → Block) (objects : List Object) (acc ps : List Pair) (i : ℕ) (p : Pair) → slice_get ps i ≡ Some p → PairsBegin heap objects (turned acc ps) → PairBegins heap objects (turned acc (take i ps)) p
pair_at heap objects acc [] i p e x = absurd cc
pair_at heap objects acc (a ∷ ps) zero p e x =
    let is : a ≡ p = cc in
    subst (PairBegins heap objects acc) is (older_pairs_begin heap objects (a ∷ acc) ps x).0
pair_at heap objects acc (a ∷ ps) (suc i) p e x = pair_at heap objects (a ∷ acc) ps i p e x

-- ---- what the words say of it

module _ (heap : ℕ → Block) (words : List ℕ) (laid : Laid heap (memory_of words) (length words)) where
  has_record : (s : Space) (ds es : List Digest) (d : Digest) (place cell : ℕ) → Alike ds es d → RecordBegins heap s ds d place cell → HasRecordFrom words s es d place
  has_record s ds es d place cell alike x = record {
    named = record_named heap words laid place s d.bytes cell x.here;
    digest_is = digest_is heap words laid place s d.bytes cell x.here;
    subtries = λ l h one.
        label_leads heap words s (path d.bytes (suc l)) (place + 5 + 16 * new_subtries es d l) laid
        (ap (λ n. heap (place + 5 + 16 * n)) (sym (subtries_alike ds es d l alike)) ∙ x.subtries l h (alike (suc l) ∙ one));
  }

  has_object : (filled : (p : ℕ) (s : Space) (d : List ℕ) (c : ℕ) → heap p ≡ Record s d c → c ≢ 0) (older : List Object) (known : List Digest) (o : Object) → Alike (object_digests older) known (object_digest o) → ObjectBegins heap older o
      → HasObjectFrom words known o (objects_end older)
  has_object filled older known o alike x =
      let d : Digest = object_digest o in
      let cell : ℕ = objects_end older + sum (record_claims (object_digests older) (object_digest o)) in
      let cell_is_same : objects_end older + sum (record_claims known (object_digest o)) ≡ objects_end older + sum (record_claims (object_digests older) (object_digest o)) =
      ap (λ n. objects_end older + sum (5 ∷ replicate n 16)) (sym (subtries_alike (object_digests older) known (object_digest o) 62 alike)) in
      record {
        owner = has_record Objects (object_digests older) known d (objects_end older) cell alike x;
        content = (
          filled_named heap words laid (objects_end older) Objects d.bytes cell x.here (filled (objects_end older) Objects d.bytes cell x.here),
          cell_is_same ∙ sym (cell_is heap words laid (objects_end older) Objects d.bytes cell x.here),
        );
      }

pub lie_in_order : (heap : ℕ → Block) (words : List ℕ) (objects : List Object) (pairs : List Pair) → Laid heap (memory_of words) (length words) → ((p : ℕ) (s : Space) (d : List ℕ) (c : ℕ) → heap p ≡ Record s d c → c ≢ 0)
    → ObjectsBegin heap (turned [] objects) → PairsBegin heap (turned [] objects) (turned [] pairs) → LieInOrder words objects pairs
lie_in_order heap words objects pairs laid filled objects_begin pairs_begin = record {
  each_object = λ i o e.
      subst (HasObjectFrom words (object_digests (take i objects)) o) (objects_end-turned [] (take i objects))
      (has_object heap words laid filled (turned [] (take i objects)) (object_digests (take i objects)) o (objects_alike (take i objects) (object_digest o)) (object_at heap [] objects i o e objects_begin));
  each_action = λ i p e.
      let x = pair_at heap (turned [] objects) [] pairs i p e pairs_begin in
      subst (HasRecordFrom words Actions (pair_keys (take i pairs)) p.key) (all_end objects (take i pairs))
      (has_record heap words laid Actions (pair_keys (turned [] (take i pairs))) (pair_keys (take i pairs)) p.key (pairs_end (turned [] objects) (turned [] (take i pairs))) x.0 (pairs_alike (take i pairs) p.key) x.1);
}
