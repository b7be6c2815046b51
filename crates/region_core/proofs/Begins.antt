-- Where records begin in words that are being built, and that they stay there.
use Rattle.std.proofs.Common.{◌≡◌, ℕ, ◌+◌, ◌*◌, List, [], ◌∷◌, length, replicate, suc, sym, ap, ◌∙◌, arith}
use Rattle.std.specs.List.{sum}
use Rattle.std.proofs.lemmas.List.Sums.{sum_by-append, sum_by-cons}
use Rattle.std.proofs.lemmas.List.Folds.{sum_by-replicate}
use Rattle.cas_model.specs.declared.contents.Pair.{Pair}
use Rattle.cas_model.specs.declared.digest.Digest.{Digest}
use Rattle.cas_model.specs.declared.object.Object.{Object}
use Rattle.cas_model.specs.declared.place.Space.{Space}
use Rattle.cas_model.specs.declared.place.Space.TheVariants.{Objects, Actions}
use Rattle.cas_model.specs.Claims.{record_claims}
use Rattle.cas_model.specs.Content.{content_size}
use Rattle.cas_model.specs.Contents.{object_digests, pair_keys}
use Rattle.cas_model.specs.Object.{object_digest}
use Rattle.cas_model.specs.Trie.{path, new_subtries}
use Rattle.region_core.specs.Builds.{one_object_claims, objects_end, pairs_end, RecordBegins, ObjectsBegin, PairsBegin}
use Rattle.region_core.specs.Heap.{Block, Record}
use Rattle.region_core.specs.Inserts.{IsData, TablesStay, SubtriesBehind}

-- ---- the words of claims

pub sum_record : (known : List Digest) (d : Digest) → sum (record_claims known d) ≡ 5 + 16 * new_subtries known d 62
sum_record known d = sum_by-cons (λ m. m) 5 (replicate (new_subtries known d 62) 16) ∙ ap (λ m. 5 + m) (sum_by-replicate (λ m. m) (new_subtries known d 62) 16) ∙ omega arith

sum_one : (n : ℕ) → sum (n ∷ []) ≡ n
sum_one n = sum_by-cons (λ m. m) n [] ∙ omega arith

pub sum_object : (known : List Digest) (o : Object) → sum (one_object_claims known o) ≡ 5 + 16 * new_subtries known (object_digest o) 62 + content_size (length o.refs) (length o.data)
sum_object known o =
    let n : ℕ = content_size (length o.refs) (length o.data) in
    sum_by-append (λ m. m) (record_claims known (object_digest o)) (content_size (length o.refs) (length o.data) ∷ [])
    ∙ (λ i. sum_record known (object_digest o) i + sum_one (content_size (length o.refs) (length o.data)) i)

-- ---- records and their subtries stay

-- records and contents stay as they are
abbrev pub DataStays : (ℕ → Block) → (ℕ → Block) → Type 0
DataStays heap heap' = (p : ℕ) (b : Block) → IsData b → heap p ≡ b → heap' p ≡ b

module _ (heap heap' : ℕ → Block) (on : DataStays heap heap') (tables : TablesStay heap heap') where
  record_begins : (s : Space) (known : List Digest) (d : Digest) (place cell : ℕ) → RecordBegins heap s known d place cell → RecordBegins heap' s known d place cell
  record_begins s known d place cell x = record {
    here = on place (Record s d.bytes cell) tt x.here;
    subtries = λ l h one. tables (place + 5 + 16 * new_subtries known d l) s (path d.bytes (suc l)) (x.subtries l h one);
  }

  pub objects_begin : (os : List Object) → ObjectsBegin heap os → ObjectsBegin heap' os
  objects_begin [] x = tt
  objects_begin (o ∷ os) x = (
    record_begins Objects (object_digests os) (object_digest o) (objects_end os) (objects_end os + sum (record_claims (object_digests os) (object_digest o))) x.0,
    objects_begin os x.1,
  )

  pub pairs_begin : (objects : List Object) (ps : List Pair) → PairsBegin heap objects ps → PairsBegin heap' objects ps
  pairs_begin objects [] x = tt
  pairs_begin objects (p ∷ ps) x = (
    (x.0.0, record_begins Actions (pair_keys ps) p.key (pairs_end objects ps) x.0.0 x.0.1),
    pairs_begin objects ps x.1,
  )

-- a record that was put in begins where the words ended
pub new_begins : (heap after : ℕ → Block) (s : Space) (known : List Digest) (d : Digest) (owner place cell value : ℕ) → owner ≡ place → value ≡ cell → heap owner ≡ Record s d.bytes value
    → TablesStay after heap → SubtriesBehind after s known d owner 62 → RecordBegins heap s known d place cell
new_begins heap after s known d owner place cell value owner_is value_is here tables subtries = record {
  here = ap heap (sym owner_is) ∙ here ∙ ap (Record s d.bytes) value_is;
  subtries = λ l h one. ap (λ p. heap (p + 5 + 16 * new_subtries known d l)) (sym owner_is) ∙ tables (owner + 5 + 16 * new_subtries known d l) s (path d.bytes (suc l)) (subtries l h one);
}

-- the place of an object's content, behind its record and its subtries
pub content_behind : (known : List Digest) (d : Digest) (owner place v : ℕ) → owner ≡ place → v ≡ owner + 5 + 16 * new_subtries known d 62 → v ≡ place + sum (record_claims known d)
content_behind known d owner place v owner_is v_is = reach owner place v (new_subtries known d 62) (sum (record_claims known d)) owner_is v_is (sum_record known d)
  where
    reach : (owner place v n claimed : ℕ) → owner ≡ place → v ≡ owner + 5 + 16 * n → claimed ≡ 5 + 16 * n → v ≡ place + claimed
    reach owner place v n claimed a b c = omega arith

pub object_long : (known : List Digest) (o : Object) (total first end : ℕ) → first ≡ end → total ≡ first + 5 + 16 * new_subtries known (object_digest o) 62 + content_size (length o.refs) (length o.data) → total ≡ end + sum (one_object_claims known o)
object_long known o total first end first_is grown = reach total first end (new_subtries known (object_digest o) 62) (content_size (length o.refs) (length o.data)) (sum (one_object_claims known o)) first_is grown (sum_object known o)
  where
    reach : (total first end n size claimed : ℕ) → first ≡ end → total ≡ first + 5 + 16 * n + size → claimed ≡ 5 + 16 * n + size → total ≡ end + claimed
    reach total first end n size claimed a b c = omega arith

pub pair_long : (known : List Digest) (d : Digest) (total first end : ℕ) → first ≡ end → total ≡ first + 5 + 16 * new_subtries known d 62 → total ≡ end + sum (record_claims known d)
pair_long known d total first end first_is grown = content_behind known d first end total first_is grown
