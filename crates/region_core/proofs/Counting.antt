-- The words of a labelling: its blocks have a place of their own, and each subtrie that its digests need is one of them.
use Rattle.std.proofs.Common.{◌≡◌, ◌≢◌, ◌⊎◌, ℕ, zero, suc, ◌+◌, ◌-◌, ◌*◌, ◌<◌, ◌≤◌, ◌==◌, List, [], ◌∷◌, length, Bool, true, false, cond, nat_eq, inl, inr, refl, sym, ap, ◌∙◌, subst, arith}
use Rattle.std.specs.List.{count_by}
use Rattle.std.specs.Cmp.Lexicographic.{pointwise, bytes_decides}
use Rattle.std.proofs.lemmas.Bool.{cases_order, cases_eq, eq-eqb, ne_eqb, eqb-true}
use Rattle.std.proofs.lemmas.List.Sums.{sum_by-cons}
use Rattle.cas_model.specs.declared.digest.Digest.{Digest}
use Rattle.cas_model.specs.declared.place.Space.{Space}
use Rattle.cas_model.specs.declared.place.Space.TheVariants.{Objects, Actions}
use Rattle.cas_model.specs.declared.tables.Content as contents
use Rattle.cas_model.specs.Claims.{record_words, block_words}
use Rattle.cas_model.specs.State.{Member}
use Rattle.cas_model.specs.Tables.{same_space}
use Rattle.cas_model.specs.Trie.{path, index_of, sharing, new_subtries, subtries}
use Rattle.cas_model.proofs.Subtries.{Apart}
use Rattle.region_core.specs.Goes.{words_in, add_content, contents_below}
use Rattle.region_core.specs.Heap.{Block, Free, Table, Record, Content, Claimed, extent, Tries, Laid}
use Rattle.region_core.proofs.Finding.{above_table, on_the_way, unique_record, length-path}
use Rattle.region_core.proofs.Founding.{IsIn}
use Rattle.region_core.proofs.Tightness.{path_short}

-- ---- subtries, counted by the indexes that lead to them

-- the digest begins with the indexes
abbrev begins : List ℕ → Digest → Bool
begins π e = pointwise nat_eq (path e.bytes (length π)) π

abbrev begun : List Digest → List ℕ → ℕ
begun ds π = count_by (λ e. begins π e) ds

-- 1 where there are at least two
abbrev several : ℕ → ℕ
several zero = 0
several (suc zero) = 0
several (suc (suc n)) = 1

-- 1 where there is just one
abbrev single : ℕ → ℕ
single zero = 0
single (suc zero) = 1
single (suc (suc n)) = 0

begun-cons : (d : Digest) (ds : List Digest) (π : List ℕ) → begun (d ∷ ds) π ≡ cond (begins π d) (suc (begun ds π)) (begun ds π)
begun-cons d ds π = sum_by-cons (λ e. cond (begins π e) 1 0) d ds ∙ step (begins π d) where
  step : (b : Bool) → cond b 1 0 + begun ds π ≡ cond b (suc (begun ds π)) (begun ds π)
  step true = omega arith
  step false = omega arith

several-more : (b : Bool) (k : ℕ) → several (cond b (suc k) k) ≡ several k + cond b (single k) 0
several-more true zero = refl
several-more true (suc zero) = refl
several-more true (suc (suc n)) = refl
several-more false k = omega arith

several-most : (k : ℕ) → several k ≤ 1
several-most zero = omega arith
several-most (suc zero) = omega arith
several-most (suc (suc n)) = omega arith

-- the sum of a weight over lists of indexes
abbrev total : (List ℕ → ℕ) → List (List ℕ) → ℕ
total f [] = 0
total f (π ∷ ways) = f π + total f ways

total-both : (f g h : List ℕ → ℕ) (ways : List (List ℕ)) → ((π : List ℕ) → f π ≡ g π + h π) → total f ways ≡ total g ways + total h ways
total-both f g h [] all = refl
total-both f g h (π ∷ ways) all = omega (arith, all π, total-both f g h ways all)

total-less : (f g : List ℕ → ℕ) (ways : List (List ℕ)) → ((π : List ℕ) → f π ≤ g π) → total f ways ≤ total g ways
total-less f g [] all = omega arith
total-less f g (π ∷ ways) all = omega (arith, all π, total-less f g ways all)

total-has : (f : List ℕ → ℕ) (ways : List (List ℕ)) (π : List ℕ) → IsIn π ways → f π ≤ total f ways
total-has f [] π m = absurd m
total-has f (y ∷ ways) π (inl is) = omega (arith, ap f is)
total-has f (y ∷ ways) π (inr m) = omega (arith, total-has f ways π m)

total-most : (f : List ℕ → ℕ) (ways : List (List ℕ)) → ((π : List ℕ) → f π ≤ 1) → total f ways ≤ length ways
total-most f [] all = omega arith
total-most f (π ∷ ways) all = omega (arith, all π, total-most f ways all)

-- a weight, of the lengths up to a level alone
abbrev up_to : ℕ → ℕ → ℕ → ℕ
up_to long weight zero = 0
up_to long weight (suc k) = cond (long == suc k) weight 0 + up_to long weight k

up_to-none : (long weight k : ℕ) → k < long → up_to long weight k ≡ 0
up_to-none long weight zero h = refl
up_to-none long weight (suc k) h =
    let rest = up_to-none long weight k (omega (arith, h)) in
    let other : (long == suc k) ≡ false = ne_eqb long (suc k) (λ e. omega (arith, h, e)) in
    ap (λ b. cond b weight 0 + up_to long weight k) other ∙ omega (arith, rest)

up_to-most : (long weight k : ℕ) → up_to long weight k ≤ weight
up_to-most long weight zero = omega arith
up_to-most long weight (suc k) = step (long == suc k) refl (up_to-most long weight k) where
  step : (b : Bool) → (long == suc k) ≡ b → up_to long weight k ≤ weight → cond b weight 0 + up_to long weight k ≤ weight
  step true test again = omega (arith, up_to-none long weight k (omega (arith, eqb-true long (suc k) test)))
  step false test again = omega (arith, again)

-- 1 where a new digest begins with the indexes, and just one of the others does
abbrev new_at : List Digest → Digest → List ℕ → ℕ
new_at ds d π = cond (begins π d) (single (begun ds π)) 0

begun-path : (ds : List Digest) (d : Digest) (n : ℕ) → begun ds (path d.bytes n) ≡ sharing ds d n
begun-path ds d n = ap (λ k. count_by (λ (e : Digest). pointwise nat_eq (path e.bytes k) (path d.bytes n)) ds) (length-path d.bytes n)

-- the weight of the way of a new digest
new-there : (ds : List Digest) (d : Digest) (n : ℕ) → sharing ds d n ≡ 1 → cond (length (path d.bytes n) == n) (new_at ds d (path d.bytes n)) 0 ≡ 1
new-there ds d n one =
    let long : (length (path d.bytes n) == n) ≡ true = eq-eqb (length (path d.bytes n)) n (length-path d.bytes n) in
    let own : begins (path d.bytes n) d ≡ true = (bytes_decides (path d.bytes (length (path d.bytes n))) (path d.bytes n)).1 (ap (path d.bytes) (length-path d.bytes n)) in
    ap (λ b. cond b (new_at ds d (path d.bytes n)) 0) long ∙ ap (λ b. cond b (single (begun ds (path d.bytes n))) 0) own ∙ ap single (begun-path ds d n ∙ one)

new-counted : (ds : List Digest) (d : Digest) (ways : List (List ℕ)) (n : ℕ) → ((k : ℕ) → k < n → sharing ds d (suc k) ≡ 1 → IsIn (path d.bytes (suc k)) ways)
    → new_subtries ds d n ≤ total (λ π. up_to (length π) (new_at ds d π) n) ways
new-counted ds d ways zero there = omega arith
new-counted ds d ways (suc n) there =
    let again = new-counted ds d ways n (λ k lt. there k (omega (arith, lt))) in
    let both = total-both (λ π. up_to (length π) (new_at ds d π) (suc n)) (λ π. cond (length π == suc n) (new_at ds d π) 0) (λ π. up_to (length π) (new_at ds d π) n) ways (λ π. refl) in
    step (sharing ds d (suc n) == 1) refl again both
  where
    step : (b : Bool) → (sharing ds d (suc n) == 1) ≡ b → new_subtries ds d n ≤ total (λ π. up_to (length π) (new_at ds d π) n) ways
        → total (λ π. up_to (length π) (new_at ds d π) (suc n)) ways ≡ total (λ π. cond (length π == suc n) (new_at ds d π) 0) ways + total (λ π. up_to (length π) (new_at ds d π) n) ways
        → cond b 1 0 + new_subtries ds d n ≤ total (λ π. up_to (length π) (new_at ds d π) (suc n)) ways
    step true test again both =
        let one = eqb-true (sharing ds d (suc n)) 1 test in
        let has = total-has (λ π. cond (length π == suc n) (new_at ds d π) 0) ways (path d.bytes (suc n)) (there n (omega arith) one) in
        omega (arith, again, both, has, new-there ds d (suc n) one)
    step false test again both = omega (arith, again, both)

sharing-some : (ds : List Digest) (d : Digest) (n : ℕ) → sharing ds d n ≡ 1 → (e : Digest) × Member e ds × (path e.bytes n ≡ path d.bytes n)
sharing-some [] d n one = absurd (let none : sharing [] d n ≡ 0 = refl in omega (arith, one, none))
sharing-some (x ∷ ds) d n one = step (pointwise nat_eq (path x.bytes n) (path d.bytes n)) refl (λ h. sharing-some ds d n h) where
  step : (b : Bool) → pointwise nat_eq (path x.bytes n) (path d.bytes n) ≡ b → (sharing ds d n ≡ 1 → (e : Digest) × Member e ds × (path e.bytes n ≡ path d.bytes n))
      → (e : Digest) × Member e (x ∷ ds) × (path e.bytes n ≡ path d.bytes n)
  step true test again = (x, inl refl, (bytes_decides (path x.bytes n) (path d.bytes n)).0 test)
  step false test again =
      let rest : sharing (x ∷ ds) d n ≡ 0 + sharing ds d n = sum_by-cons (λ e. cond (pointwise nat_eq (path e.bytes n) (path d.bytes n)) 1 0) x ds ∙ ap (λ b. cond b 1 0 + sharing ds d n) test in
      let y = again (omega (arith, rest, one)) in
      (y.0, inr y.1, y.2)

-- where two digests share indexes, these lead to one of the ways
abbrev LeadOn : List (List ℕ) → List Digest → Type 0
LeadOn ways ds = (d e : Digest) (k : ℕ) → Member d ds → Member e ds → d ≢ e → path e.bytes (suc k) ≡ path d.bytes (suc k) → k < 62 → IsIn (path d.bytes (suc k)) ways

counted : (ways : List (List ℕ)) (ds : List Digest) → Apart ds → LeadOn ways ds → subtries ds ≤ total (λ π. several (begun ds π)) ways
counted ways [] apart lead = omega arith
counted ways (d ∷ ds) apart lead =
    let again = counted ways ds apart.1 (λ x y k mx my other same low. lead x y k (inr mx) (inr my) other same low) in
    let new = new-counted ds d ways 62 (λ k low one.
    let e = sharing-some ds d (suc k) one in
    lead d e.0 k (inl refl) (inr e.1) (λ is. apart.0 (subst (λ x. Member x ds) (sym is) e.1)) e.2 low) in
    let most = total-less (λ π. up_to (length π) (new_at ds d π) 62) (new_at ds d) ways (λ π. up_to-most (length π) (new_at ds d π) 62) in
    let both = total-both (λ π. several (begun (d ∷ ds) π)) (λ π. several (begun ds π)) (new_at ds d) ways
    (λ π. ap several (begun-cons d ds π) ∙ several-more (begins π d) (begun ds π)) in
    omega (arith, again, new, most, both)

pub subtries-counted : (ways : List (List ℕ)) (ds : List Digest) → Apart ds → LeadOn ways ds → subtries ds ≤ length ways
subtries-counted ways ds apart lead =
    omega (arith, counted ways ds apart lead, total-most (λ π. several (begun ds π)) ways (λ π. several-most (begun ds π)))

-- ---- two records share indexes above a table alone

shared-table : (heap : ℕ → Block) (memory : ℕ → ℕ) (s : Space) (d e : List ℕ) (c n p r k : ℕ) → Tries heap memory → heap p ≡ Record s d c → heap r ≡ Record s e n → p ≢ r → path e (suc k) ≡ path d (suc k)
    → (t : ℕ) × (heap t ≡ Table s (path d (suc k)))
shared-table heap memory s d e c n p r k tries hp hr other same =
    let x = tries.records p s d c hp in
    elim (cases_order (suc k) x.level) [
      | inl is ↦ (x.table, x.here ∙ ap (λ l. Table s (path d l)) (sym is))
      | inr (inl less) ↦
          let long : x.level ≡ suc (suc k + (x.level - suc k - 1)) = omega (arith, less) in
          let a = above_table heap memory s d (suc k) (x.level - suc k - 1) x.table tries (x.here ∙ ap (λ l. Table s (path d l)) long) in
          (a.table, a.here)
      | inr (inr more) ↦
          let long : suc k ≡ suc x.level + (k - x.level) = omega (arith, more) in
          let both : path e (suc x.level) ≡ path d (suc x.level) = path_short e d (suc x.level) (k - x.level) (ap (path e) (sym long) ∙ same ∙ ap (path d) long) in
          let index : index_of e x.level ≡ index_of d x.level = cc in
          let above : path e x.level ≡ path d x.level = cc in
          elim (on_the_way heap memory s e n r x.table x.level tries hr (x.here ∙ ap (λ π. Table s π) (sym above))) [
            | inl one ↦ absurd (let word = ap (λ i. memory (x.table + i)) index in other (omega (arith, x.is, one, word)))
            | inr table ↦ absurd (let word = ap (λ i. memory (x.table + i)) index in omega (arith, x.is, table.1, word))
          ]
    ]

-- ---- what begins below a place

abbrev pub add_digest : Space → Block → List Digest → List Digest
add_digest s Free ds = ds
add_digest s (Table space above) ds = ds
add_digest s (Record space digest cell) ds = cond (same_space space s) (record { bytes = digest } ∷ ds) ds
add_digest s (Content owner words) ds = ds
add_digest s (Claimed words) ds = ds

-- the digests of the records in a space that begin below a place
abbrev pub digests_below : Space → (ℕ → Block) → ℕ → List Digest
digests_below s heap zero = []
digests_below s heap (suc n) = add_digest s (heap n) (digests_below s heap n)

abbrev add_way : Space → Block → List (List ℕ) → List (List ℕ)
add_way s Free ways = ways
add_way s (Table space []) ways = ways
add_way s (Table space (j ∷ above)) ways = cond (same_space space s) ((j ∷ above) ∷ ways) ways
add_way s (Record space digest cell) ways = ways
add_way s (Content owner words) ways = ways
add_way s (Claimed words) ways = ways

-- the indexes that lead to the subtries of a space that begin below a place
abbrev ways_below : Space → (ℕ → Block) → ℕ → List (List ℕ)
ways_below s heap zero = []
ways_below s heap (suc n) = add_way s (heap n) (ways_below s heap n)

same-self : (s : Space) → same_space s s ≡ true
same-self Objects = refl
same-self Actions = refl

same-is : (t s : Space) → same_space t s ≡ true → t ≡ s
same-is Objects Objects h = refl
same-is Actions Actions h = refl
same-is Objects Actions h = cc
same-is Actions Objects h = cc

digest-stays : (s : Space) (b : Block) (ds : List Digest) (d : Digest) → Member d ds → Member d (add_digest s b ds)
digest-stays s Free ds d m = m
digest-stays s (Table space above) ds d m = m
digest-stays s (Record space digest cell) ds d m = step (same_space space s) where
  step : (b : Bool) → Member d (cond b (record { bytes = digest } ∷ ds) ds)
  step true = inr m
  step false = m
digest-stays s (Content owner words) ds d m = m
digest-stays s (Claimed words) ds d m = m

pub digest-in : (s : Space) (heap : ℕ → Block) (n p c : ℕ) (d : Digest) → p < n → heap p ≡ Record s d.bytes c → Member d (digests_below s heap n)
digest-in s heap zero p c d lt h = absurd (omega (arith, lt))
digest-in s heap (suc n) p c d lt h = elim (cases_eq p n) [
  | inl is ↦
      let here : heap n ≡ Record s d.bytes c = ap heap (sym is) ∙ h in
      subst (λ b. Member d (add_digest s b (digests_below s heap n))) (sym here)
      (subst (λ b. Member d (cond b (d ∷ digests_below s heap n) (digests_below s heap n))) (sym (same-self s)) (inl refl))
  | inr other ↦ digest-stays s (heap n) (digests_below s heap n) d (digest-in s heap n p c d (omega (arith, lt, other)) h)
]

-- the record of a listed digest
record DigestFrom (s : Space) (heap : ℕ → Block) (n : ℕ) (d : Digest) : Type 0 where
  place : ℕ
  cell : ℕ
  low : place < n
  here : heap place ≡ Record s d.bytes cell

digest-added : (s : Space) (b : Block) (ds : List Digest) (d : Digest) → Member d (add_digest s b ds) → ((c : ℕ) × (b ≡ Record s d.bytes c)) ⊎ Member d ds
digest-added s Free ds d m = inr m
digest-added s (Table space above) ds d m = inr m
digest-added s (Record space digest cell) ds d m = step (same_space space s) refl m where
  step : (b : Bool) → same_space space s ≡ b → Member d (cond b (record { bytes = digest } ∷ ds) ds) → ((c : ℕ) × (Record space digest cell ≡ Record s d.bytes c)) ⊎ Member d ds
  step true test (inl is) = inl (cell, λ i. Record (same-is space s test i) (ap (λ (x : Digest). x.bytes) is i) cell)
  step true test (inr m) = inr m
  step false test m = inr m
digest-added s (Content owner words) ds d m = inr m
digest-added s (Claimed words) ds d m = inr m

digest-from : (s : Space) (heap : ℕ → Block) (n : ℕ) (d : Digest) → Member d (digests_below s heap n) → DigestFrom s heap n d
digest-from s heap zero d m = absurd m
digest-from s heap (suc n) d m = elim (digest-added s (heap n) (digests_below s heap n) d m) [
  | inl own ↦ record { place = n; cell = own.0; low = omega arith; here = own.1 }
  | inr rest ↦ let x = digest-from s heap n d rest in record { place = x.place; cell = x.cell; low = omega (arith, x.low); here = x.here }
]

way-stays : (s : Space) (b : Block) (ways : List (List ℕ)) (π : List ℕ) → IsIn π ways → IsIn π (add_way s b ways)
way-stays s Free ways π m = m
way-stays s (Table space []) ways π m = m
way-stays s (Table space (j ∷ above)) ways π m = step (same_space space s) where
  step : (b : Bool) → IsIn π (cond b ((j ∷ above) ∷ ways) ways)
  step true = inr m
  step false = m
way-stays s (Record space digest cell) ways π m = m
way-stays s (Content owner words) ways π m = m
way-stays s (Claimed words) ways π m = m

way-in : (s : Space) (heap : ℕ → Block) (n t j : ℕ) (above : List ℕ) → t < n → heap t ≡ Table s (j ∷ above) → IsIn (j ∷ above) (ways_below s heap n)
way-in s heap zero t j above lt h = absurd (omega (arith, lt))
way-in s heap (suc n) t j above lt h = elim (cases_eq t n) [
  | inl is ↦
      let here : heap n ≡ Table s (j ∷ above) = ap heap (sym is) ∙ h in
      subst (λ b. IsIn (j ∷ above) (add_way s b (ways_below s heap n))) (sym here)
      (subst (λ b. IsIn (j ∷ above) (cond b ((j ∷ above) ∷ ways_below s heap n) (ways_below s heap n))) (sym (same-self s)) (inl refl))
  | inr other ↦ way-stays s (heap n) (ways_below s heap n) (j ∷ above) (way-in s heap n t j above (omega (arith, lt, other)) h)
]

module _ (heap : ℕ → Block) (memory : ℕ → ℕ) (counter : ℕ) (laid : Laid heap memory counter) where
  digests-apart : (s : Space) (n : ℕ) → Apart (digests_below s heap n)
  digests-apart s zero = tt
  digests-apart s (suc n) = step (heap n) refl (digests-apart s n) where
    step : (b : Block) → heap n ≡ b → Apart (digests_below s heap n) → Apart (add_digest s b (digests_below s heap n))
    step Free is again = again
    step (Table space above) is again = again
    step (Record space digest cell) is again = test (same_space space s) refl where
      test : (b : Bool) → same_space space s ≡ b → Apart (cond b (record { bytes = digest } ∷ digests_below s heap n) (digests_below s heap n))
      test true same = (
        λ m.
            let x = digest-from s heap n (record { bytes = digest }) m in
            let one = unique_record heap memory s digest x.cell cell x.place n laid.tries x.here (is ∙ ap (λ y. Record y digest cell) (same-is space s same)) in
            omega (arith, x.low, one),
        again,
      )
      test false same = again
    step (Content owner words) is again = again
    step (Claimed words) is again = again

  lead-on : (s : Space) → LeadOn (ways_below s heap counter) (digests_below s heap counter)
  lead-on s d e k md me other same low =
      let x = digest-from s heap counter d md in
      let y = digest-from s heap counter e me in
      let apart : x.place ≢ y.place = λ z.
      let both : Record s d.bytes x.cell ≡ Record s e.bytes y.cell = sym x.here ∙ ap heap z ∙ y.here in
      let bytes : d.bytes ≡ e.bytes = cc in
      other (λ i. record { bytes = bytes i }) in
      let t = shared-table heap memory s d.bytes e.bytes x.cell y.cell x.place y.place k laid.tries x.here y.here apart same in
      let fits = laid.shape.high t.0 (subst (λ b. 0 < extent b) (sym t.1) (omega arith)) in
      way-in s heap counter t.0 (index_of d.bytes k) (path d.bytes k) (omega (arith, fits, ap extent t.1)) t.1

  -- ---- the words of all blocks

  abbrev extents : ℕ → ℕ
  extents zero = 0
  extents (suc n) = extent (heap n) + extents n

  -- no block has been, or they end where one ends
  ends : (n : ℕ) → (extents n ≡ 0) ⊎ ((p : ℕ) × (p < n) × (0 < extent (heap p)) × (extents n + 8 ≤ p + extent (heap p)))
  ends zero = inl refl
  ends (suc n) = elim (cases_eq (extent (heap n)) 0) [
    | inl none ↦ elim (ends n) [
      | inl before ↦ inl (omega (arith, none, before))
      | inr before ↦ inr (before.0, omega (arith, before.1), before.2, omega (arith, none, before.3))
    ]
    | inr some ↦ elim (ends n) [
      | inl before ↦ inr (n, omega arith, omega (arith, some), omega (arith, before, laid.shape.low n (omega (arith, some))))
      | inr before ↦ inr (
        n,
        omega arith,
        omega (arith, some),
        elim (cases_order n (before.0 + extent (heap before.0))) [
          | inl is ↦ omega (arith, is, before.3)
          | inr (inl less) ↦ absurd (some (laid.shape.apart before.0 n before.1 less))
          | inr (inr more) ↦ omega (arith, more, before.3)
        ],
      )
    ]
  ]

  extents-fit : 8 ≤ counter → extents counter + 8 ≤ counter
  extents-fit least = elim (ends counter) [
    | inl none ↦ omega (arith, none, least)
    | inr last ↦ omega (arith, last.3, laid.shape.high last.0 last.2)
  ]

-- the words of the roots
abbrev root_words : Block → ℕ
root_words Free = 0
root_words (Table space []) = 256
root_words (Table space (j ∷ above)) = 0
root_words (Record space digest cell) = 0
root_words (Content owner words) = 0
root_words (Claimed words) = 0

abbrev roots : (ℕ → Block) → ℕ → ℕ
roots heap zero = 0
roots heap (suc n) = root_words (heap n) + roots heap n

one-root : (heap : ℕ → Block) (n p : ℕ) → p < n → root_words (heap p) ≤ roots heap n
one-root heap zero p lt = absurd (omega (arith, lt))
one-root heap (suc n) p lt = elim (cases_eq p n) [
  | inl is ↦ omega (arith, ap (λ q. root_words (heap q)) is)
  | inr other ↦ omega (arith, one-root heap n p (omega (arith, lt, other)))
]

two-roots : (heap : ℕ → Block) (n p q : ℕ) → p < q → q < n → root_words (heap p) + root_words (heap q) ≤ roots heap n
two-roots heap zero p q less lt = absurd (omega (arith, lt))
two-roots heap (suc n) p q less lt = elim (cases_eq q n) [
  | inl is ↦ omega (arith, ap (λ r. root_words (heap r)) is, one-root heap n p (omega (arith, less, is)))
  | inr other ↦ omega (arith, two-roots heap n p q less (omega (arith, lt, other)))
]

-- records, subtries, contents and roots are blocks
blocks-sum : (heap : ℕ → Block) (memory : ℕ → ℕ) (counter : ℕ) (laid : Laid heap memory counter) (n : ℕ)
    → 5 * length (digests_below Objects heap n) + 5 * length (digests_below Actions heap n) + 16 * length (ways_below Objects heap n) + 16 * length (ways_below Actions heap n)
    + block_words (contents_below heap n) + roots heap n ≤ extents heap memory counter laid n
blocks-sum heap memory counter laid zero = omega arith
blocks-sum heap memory counter laid (suc n) =
    step (heap n) (digests_below Objects heap n) (digests_below Actions heap n) (ways_below Objects heap n) (ways_below Actions heap n) (contents_below heap n) (roots heap n) (extents heap memory counter laid n)
    (blocks-sum heap memory counter laid n)
  where
    step : (b : Block) (os ks : List Digest) (us vs : List (List ℕ)) (cs : List contents.Content) (rs all : ℕ) → 5 * length os + 5 * length ks + 16 * length us + 16 * length vs + block_words cs + rs ≤ all
        → 5 * length (add_digest Objects b os) + 5 * length (add_digest Actions b ks) + 16 * length (add_way Objects b us) + 16 * length (add_way Actions b vs)
        + block_words (add_content n (words_in b) cs) + (root_words b + rs) ≤ extent b + all
    step Free os ks us vs cs rs all h = omega (arith, h)
    step (Table Objects []) os ks us vs cs rs all h = omega (arith, h)
    step (Table Actions []) os ks us vs cs rs all h = omega (arith, h)
    step (Table Objects (j ∷ above)) os ks us vs cs rs all h = omega (arith, h)
    step (Table Actions (j ∷ above)) os ks us vs cs rs all h = omega (arith, h)
    step (Record Objects digest cell) os ks us vs cs rs all h = omega (arith, h)
    step (Record Actions digest cell) os ks us vs cs rs all h = omega (arith, h)
    step (Content owner words) os ks us vs cs rs all h = omega (arith, h)
    step (Claimed words) os ks us vs cs rs all h = omega (arith, h)

-- the words of a labelling pay for its records, with the subtries that their digests need, and for its contents
pub labelling-paid : (heap : ℕ → Block) (memory : ℕ → ℕ) (counter : ℕ) → Laid heap memory counter
    → 520 + (record_words (digests_below Objects heap counter) + record_words (digests_below Actions heap counter) + block_words (contents_below heap counter)) ≤ counter
labelling-paid heap memory counter laid =
    let first = laid.tries.roots Objects in
    let second = laid.tries.roots Actions in
    let high = laid.shape.high 264 (subst (λ b. 0 < extent b) (sym second) (omega arith)) in
    let long : 520 ≤ counter = omega (arith, high, ap extent second) in
    let both = two-roots heap counter 8 264 (omega arith) (omega (arith, long)) in
    let objects = subtries-counted (ways_below Objects heap counter) (digests_below Objects heap counter) (digests-apart heap memory counter laid Objects counter) (lead-on heap memory counter laid Objects) in
    let actions = subtries-counted (ways_below Actions heap counter) (digests_below Actions heap counter) (digests-apart heap memory counter laid Actions counter) (lead-on heap memory counter laid Actions) in
    omega (arith, blocks-sum heap memory counter laid counter, extents-fit heap memory counter laid (omega (arith, long)), both, ap root_words first, ap root_words second, objects, actions)
