-- Lists of places and keys, read from words and sorted.
use Rattle.std.proofs.Common.{◌≡◌, ℕ, zero, suc, ◌+◌, ◌<◌, ◌≤◌, List, [], ◌∷◌, ◌++◌, length, get_or, take, true, false, refl, sym, ap, ◌∙◌, subst, inl, inr, arith}
use Rattle.std.specs.Cmp.{IsTotalOrder}
use Rattle.std.specs.List.{Contains, IsDistinct, AllByRecursion, slice_index_or}
use Rattle.std.specs.List.Sorted.{IsPermutation, IsSorted, IsStrictlySortedBy}
use Rattle.std.specs.Ordering.{nat_cmp, eq_by_cmp, is_lt, is_eq, ordering_reverse}
use Rattle.std.specs.declared.cmp.Ordering.{Ordering}
use Rattle.std.specs.declared.cmp.Ordering.TheVariants.{Less, Equal, Greater}
use Rattle.std.proofs.lemmas.Cmp.{nat_cmp_total}
use Rattle.std.specs.FinMap as fin
use Rattle.std.proofs.lemmas.List.{take_more}
use Rattle.std.proofs.lemmas.List.Sorted.{Contains-permutation, IsPermutation-sym}
use Rattle.std.proofs.lemmas.Map.Keys.{IsDistinct-IsPermutation, apart_from_distinct, sorted_from_all_adjacent}
use Rattle.cas_model.specs.declared.digest.Digest.{Digest}
use Rattle.cas_model.specs.declared.place.Space.{Space}
use Rattle.cas_model.specs.declared.place.Space.TheVariants.{Objects, Actions}
use Rattle.cas_model.specs.State.{digest_cmp}
use Rattle.cas_model.proofs.Maps.{digest_total, digest_apart}
use Rattle.region_core.specs.Certificate.{IsCertified}
use Rattle.region_core.specs.Found.{heap_of}
use Rattle.region_core.specs.Heap.{Record, Content, memory_of}
use Rattle.region_core.specs.Inserts.{Region}
use Rattle.region_core.specs.Leads.{IsContentOf, IsFilledOf, digest_there, digests_there, cell_there}
use Rattle.region_core.proofs.Finding.{unique_record, record_below}
use Rattle.region_core.proofs.Founding.{stands_certified}
use Rattle.region_core.proofs.Labels.{content_label, filled_label, filled_named, digest_is}
use Rattle.frozen_store.specs.Gathers.{IsIn, AreApart, IsFilledUnder, AreFilled}
use Rattle.frozen_store.specs.Lists.{AreContentPlaces, AreKeys}
use Rattle.frozen_store.specs.Reads.{IsWhole, cells_there}

-- ---- lists in another order

in_contains : {X : Type 0} (x : X) (xs : List X) → IsIn x xs → Contains xs x
in_contains x [] m = absurd m
in_contains x (y ∷ ys) m = elim m [
  | inl e ↦ (0, omega arith, e)
  | inr r ↦ let z = in_contains x ys r in (suc z.0, omega (arith, z.1), z.2)
]

contains_in : {X : Type 0} (x : X) (xs : List X) → Contains xs x → IsIn x xs
contains_in x xs c = at xs c.0 c.1 c.2
  where
    at : (ys : List _) (k : ℕ) → k < length ys → slice_index_or ys k x ≡ x → IsIn x ys
    at [] k h e = absurd (omega arith)
    at (y ∷ ys) zero h e = inl e
    at (y ∷ ys) (suc k) h e = inr (at ys k (omega arith) e)

in_permuted : {X : Type 0} (xs ys : List X) (x : X) → IsPermutation xs ys → IsIn x xs → IsIn x ys
in_permuted xs ys x p m = contains_in x ys (Contains-permutation xs ys x p (in_contains x xs m))

out_permuted : {X : Type 0} (xs ys : List X) (x : X) → IsPermutation xs ys → IsIn x ys → IsIn x xs
out_permuted xs ys x p m = in_permuted ys xs x (IsPermutation-sym xs ys p) m

-- no item of the list is another one
all_differ : {K : Type 0} {R : K → K → Ordering} → fin.IsAntisymmetric R → (x : K) (xs : List K) → (IsIn x xs → ⊥) → AllByRecursion (λ y. eq_by_cmp R x y ≡ false) xs
all_differ same x [] none = tt
all_differ {K} {R} same x (y ∷ ys) none = (at (R x y) refl, all_differ same x ys (λ m. none (inr m)))
  where
    at : (r : Ordering) → R x y ≡ r → is_eq (R x y) ≡ false
    at Less e = ap is_eq e
    at Greater e = ap is_eq e
    at Equal e = absurd (none (inl (sym (same x y e))))

-- a sorted list of items that differ rises
strictly : {K : Type 0} {R : K → K → Ordering} (o : IsTotalOrder R) (xs : List K) (d : K) → IsSorted R xs → IsDistinct (eq_by_cmp R) xs → IsStrictlySortedBy R xs
strictly {K} {R} o xs d sorted distinct = sorted_from_all_adjacent o xs d (λ k h.
    less (get_or xs k d) (get_or xs (k + 1) d) (R (get_or xs k d) (get_or xs (k + 1) d)) refl (sorted k d (omega arith) h) (apart_from_distinct (eq_by_cmp R) xs k (k + 1) d distinct (omega arith) h))
  where
    less : (a b : K) (r : Ordering) → R a b ≡ r → is_lt (R b a) ≡ false → eq_by_cmp R a b ≡ false → R a b ≡ Less
    less a b Less e l q = e
    less a b Equal e l q = absurd (let clash : true ≡ false = sym (ap is_eq e) ∙ q in cc)
    less a b Greater e l q = absurd (let clash : true ≡ false = sym (ap is_lt (o.antisymm b a ∙ ap ordering_reverse e)) ∙ l in cc)

flips : {K : Type 0} {R : K → K → Ordering} (o : IsTotalOrder R) (x y : K) → eq_by_cmp R x y ≡ eq_by_cmp R y x
flips {K} {R} o x y = ap is_eq (o.antisymm x y) ∙ at (R y x)
  where
    at : (r : Ordering) → is_eq (ordering_reverse r) ≡ is_eq r
    at Less = refl
    at Equal = refl
    at Greater = refl

-- ---- what the loops read

pub in_at : {X : Type 0} (xs : List X) (i : ℕ) (d : X) → i < length xs → IsIn (get_or xs i d) xs
in_at [] i d h = absurd (omega arith)
in_at (x ∷ xs) zero d h = inl refl
in_at (x ∷ xs) (suc i) d h = inr (in_at xs i d (omega arith))

cells_append : (words ps qs : List ℕ) → cells_there words (ps ++ qs) ≡ cells_there words ps ++ cells_there words qs
cells_append words [] qs = refl
cells_append words (p ∷ ps) qs = ap (λ cs. cell_there words p ∷ cs) (cells_append words ps qs)

pub cells_more : (words ps : List ℕ) (i : ℕ) (now new : List ℕ) → now ≡ cells_there words (take i ps) → i < length ps → new ≡ now ++ get_or words (get_or ps i 0 + 4) 0 ∷ [] → new ≡ cells_there words (take (i + 1) ps)
cells_more words ps i now new was h is =
    is ∙ ap (λ cs. cs ++ get_or words (get_or ps i 0 + 4) 0 ∷ []) was ∙ sym (cells_append words (take i ps) (get_or ps i 0 ∷ [])) ∙ ap (cells_there words) (sym (take_more ps i 0 h))

in_cells : (words ps : List ℕ) (p : ℕ) → IsIn p ps → IsIn (cell_there words p) (cells_there words ps)
in_cells words [] p m = absurd m
in_cells words (q ∷ ps) p m = elim m [ inl e ↦ inl (ap (cell_there words) e) | inr r ↦ inr (in_cells words ps p r) ]

from_cells : (words ps : List ℕ) (c : ℕ) → IsIn c (cells_there words ps) → (p : ℕ) × IsIn p ps × (cell_there words p ≡ c)
from_cells words [] c m = absurd m
from_cells words (q ∷ ps) c m = elim m [
  | inl e ↦ (q, inl refl, e)
  | inr r ↦ let z = from_cells words ps c r in (z.0, inr z.1, z.2)
]

in_digests : (words ps : List ℕ) (p : ℕ) → IsIn p ps → IsIn (digest_there words p) (digests_there words ps)
in_digests words [] p m = absurd m
in_digests words (q ∷ ps) p m = elim m [ inl e ↦ inl (ap (digest_there words) e) | inr r ↦ inr (in_digests words ps p r) ]

from_digests : (words ps : List ℕ) (d : Digest) → IsIn d (digests_there words ps) → (p : ℕ) × IsIn p ps × (digest_there words p ≡ d)
from_digests words [] d m = absurd m
from_digests words (q ∷ ps) d m = elim m [
  | inl e ↦ (q, inl refl, e)
  | inr r ↦ let z = from_digests words ps d r in (z.0, inr z.1, z.2)
]

module _ (words : List ℕ) (x : IsWhole words) where
  cert : IsCertified (heap_of words) words (get_or words 2 0) x.state
  cert = stands_certified words (get_or words 2 0) x.state x.stands x.words_are

  pub whole_region : Region words
  whole_region = record { heap = heap_of words; laid = cert.laid }

  pub whole_short : length words ≤ 67108864
  whole_short = omega (arith, x.stands.headed.within, x.stands.headed.most)

  pub owner_inside : (s : Space) (ps : List ℕ) (i : ℕ) → AreFilled words s ps → i < length ps → get_or ps i 0 + 4 < length words
  owner_inside s ps i filled h =
      let z = (filled (heap_of words) cert.laid).only (get_or ps i 0) (in_at ps i 0 h) in
      omega (arith, record_below (heap_of words) (length words) s z.digest z.cell (get_or ps i 0) cert.laid.shape z.here)

  -- the filled records of the list are those that the words name
  filled_of : (s : Space) (p : ℕ) → IsFilledUnder (heap_of words) s [] p → IsFilledOf words s p
  filled_of s p z = filled_named (heap_of words) words cert.laid p s z.digest z.cell z.here z.filled

  under_of : (s : Space) (p : ℕ) → IsFilledOf words s p → IsFilledUnder (heap_of words) s [] p
  under_of s p z =
      let n = filled_label (heap_of words) words cert.laid p s z in
      record { digest = n.0; cell = n.1; here = n.2; filled = n.3; begins = refl }

  -- a content has one owner
  one_owner : (p q c : ℕ) → IsContentOf words p c → IsContentOf words q c → p ≡ q
  one_owner p q c a b =
      let la = content_label (heap_of words) words cert.laid cert.contents p c a in
      let lb = content_label (heap_of words) words cert.laid cert.contents q c b in
      let same : Content p la.own ≡ Content q lb.own = sym la.content ∙ lb.content in
      let is : p ≡ q = cc in
      is

  -- a digest has one record
  pub one_record : (s : Space) (p q : ℕ) → IsFilledOf words s p → IsFilledOf words s q → digest_there words p ≡ digest_there words q → p ≡ q
  one_record s p q a b e =
      let la = filled_label (heap_of words) words cert.laid p s a in
      let lb = filled_label (heap_of words) words cert.laid q s b in
      let da = digest_is (heap_of words) words cert.laid p s la.0 la.1 la.2 in
      let db = digest_is (heap_of words) words cert.laid q s lb.0 lb.1 lb.2 in
      let same : lb.0 ≡ la.0 = ap (λ (d : Digest). d.bytes) (sym db ∙ sym e ∙ da) in
      unique_record (heap_of words) (memory_of words) s la.0 la.1 lb.1 p q cert.laid.tries la.2 (lb.2 ∙ ap (λ d. Record s d lb.1) same)

  cells_distinct : (ps : List ℕ) → ((p : ℕ) → IsIn p ps → IsFilledOf words Objects p) → AreApart ps → IsDistinct (eq_by_cmp nat_cmp) (cells_there words ps)
  unfolding IsDistinct
  cells_distinct [] filled apart = tt
  cells_distinct (p ∷ ps) filled apart = (
    all_differ fin.nat_cmp-IsAntisymmetric (cell_there words p) (cells_there words ps) (λ m.
        let z = from_cells words ps (cell_there words p) m in
        let same = one_owner p z.0 (cell_there words p) (filled p (inl refl), refl) (filled z.0 (inr z.1), sym z.2) in
        apart.0 (subst (λ k. IsIn k ps) (sym same) z.1)),
    cells_distinct ps (λ q m. filled q (inr m)) apart.1,
  )

  digests_distinct : (s : Space) (ps : List ℕ) → ((p : ℕ) → IsIn p ps → IsFilledOf words s p) → AreApart ps → IsDistinct (eq_by_cmp digest_cmp) (digests_there words ps)
  unfolding IsDistinct
  digests_distinct s [] filled apart = tt
  digests_distinct s (p ∷ ps) filled apart = (
    all_differ digest_apart (digest_there words p) (digests_there words ps) (λ m.
        let z = from_digests words ps (digest_there words p) m in
        let same = one_record s p z.0 (filled p (inl refl)) (filled z.0 (inr z.1)) (sym z.2) in
        apart.0 (subst (λ k. IsIn k ps) (sym same) z.1)),
    digests_distinct s ps (λ q m. filled q (inr m)) apart.1,
  )

  -- the sorted cells of the filled objects
  pub places_sorted : (owners cells places : List ℕ) → AreFilled words Objects owners → cells ≡ cells_there words owners → IsPermutation cells places → IsSorted nat_cmp places → AreContentPlaces words places
  places_sorted owners cells places filled is moved sorted =
      let u = filled (heap_of words) cert.laid in
      let all : (p : ℕ) → IsIn p owners → IsFilledOf words Objects p = λ p m. filled_of Objects p (u.only p m) in
      record {
        only = λ c m.
            let z = from_cells words owners c (subst (IsIn c) is (out_permuted cells places c moved m)) in
            (z.0, (all z.0 z.1, sym z.2));
        has = λ r c k. in_permuted cells places c moved (subst (IsIn c) (sym is) (subst (λ n. IsIn n (cells_there words owners)) (sym k.1) (in_cells words owners r (u.has r (under_of Objects r k.0)))));
        rising = strictly nat_cmp_total places 0 sorted (IsDistinct-IsPermutation (eq_by_cmp nat_cmp) (flips nat_cmp_total) cells places moved (subst (IsDistinct (eq_by_cmp nat_cmp)) (sym is) (cells_distinct owners all u.apart)));
      }

  -- the sorted digests of the filled keys
  pub keys_sorted : (owners : List ℕ) (digests keys : List Digest) → AreFilled words Actions owners → digests ≡ digests_there words owners → IsPermutation digests keys → IsSorted digest_cmp keys → AreKeys words keys
  keys_sorted owners digests keys filled is moved sorted =
      let u = filled (heap_of words) cert.laid in
      let all : (p : ℕ) → IsIn p owners → IsFilledOf words Actions p = λ p m. filled_of Actions p (u.only p m) in
      record {
        only = λ k m.
            let z = from_digests words owners k (subst (IsIn k) is (out_permuted digests keys k moved m)) in
            (z.0, all z.0 z.1, z.2);
        has = λ r k. in_permuted digests keys (digest_there words r) moved (subst (IsIn (digest_there words r)) (sym is) (in_digests words owners r (u.has r (under_of Actions r k))));
        rising = strictly digest_total keys (record { bytes = [] }) sorted (IsDistinct-IsPermutation (eq_by_cmp digest_cmp) (flips digest_total) digests keys moved (subst (IsDistinct (eq_by_cmp digest_cmp)) (sym is) (digests_distinct Actions owners all u.apart)));
      }
