-- Where digests lead in a trie goes with the order of their bytes.
use Rattle.std.proofs.Common.{◌≡◌, ℕ, zero, suc, ◌+◌, ◌<◌, ◌≤◌, List, [], ◌∷◌, Bool, true, false, cond, ◌==◌, ◌/◌, ◌%◌, ◌⊎◌, ◌≢◌, inl, inr, nat_lt, slice_index, Less, Equal, Greater, refl, ap, sym, ◌∙◌, arith}
use Rattle.std.proofs.lemmas.Bool.{ltb-true, eq-eqb, le-ltb}
use Rattle.std.proofs.lemmas.Bool.Decides.{eqb_tells}
use Rattle.std.specs.Ordering.{nat_cmp, is_gt, ordering_then}
use Rattle.std.specs.Cmp.Lexicographic.{slice_cmp}
use Rattle.cas_model.specs.Trie.{index_of, path}
use Rattle.cell_port.proofs.Depths.{index-first, index-high, index-low}

-- not after, in the order of the bytes
abbrev pub IsUpTo : List ℕ → List ℕ → Type 0
IsUpTo a b = is_gt (slice_cmp nat_cmp a b) ≡ false

head-le : (x y : ℕ) (xs ys : List ℕ) → IsUpTo (x ∷ xs) (y ∷ ys) → x ≤ y
head-le x y xs ys le = step (nat_lt x y) refl (eqb_tells x y) where
  step : (b : Bool) → nat_lt x y ≡ b → (((x == y) ≡ true) × (x ≡ y)) ⊎ (((x == y) ≡ false) × (x ≢ y)) → x ≤ y
  step true less tells = omega (arith, ltb-true x y less)
  step false less (inl h) = omega (arith, h.1)
  step false less (inr h) =
      absurd (let e : is_gt (slice_cmp nat_cmp (x ∷ xs) (y ∷ ys)) ≡ true = λ i. is_gt (ordering_then (cond (less i) Less (cond (h.0 i) Equal Greater)) (slice_cmp nat_cmp xs ys)) in cc)

tail-le : (x y : ℕ) (xs ys : List ℕ) → x ≡ y → IsUpTo (x ∷ xs) (y ∷ ys) → IsUpTo xs ys
tail-le x y xs ys same le =
    let less : nat_lt x y ≡ false = le-ltb x y (omega arith) in
    let is : (x == y) ≡ true = eq-eqb x y same in
    sym (λ i. is_gt (ordering_then (cond (less i) Less (cond (is i) Equal Greater)) (slice_cmp nat_cmp xs ys))) ∙ le

-- the first byte that may differ rises
byte-le : (a b : List ℕ) (j : ℕ) → IsUpTo a b → ((i : ℕ) → i < j → slice_index a i ≡ slice_index b i) → slice_index a j ≤ slice_index b j
byte-le [] b j le same = omega arith
byte-le (x ∷ xs) [] j le same = cc
byte-le (x ∷ xs) (y ∷ ys) zero le same = head-le x y xs ys le
byte-le (x ∷ xs) (y ∷ ys) (suc j) le same = byte-le xs ys j (tail-le x y xs ys (same 0 (omega arith)) le) (λ i lt. same (suc i) (omega arith))

-- the indexes of a path
index-same : (a b : List ℕ) (l i : ℕ) → i < l → path a l ≡ path b l → index_of a i ≡ index_of b i
index-same a b zero i lt same = absurd (omega arith)
index-same a b (suc l) i lt same = step (eqb_tells i l) (λ less. index-same a b l i less cc) where
  step : (((i == l) ≡ true) × (i ≡ l)) ⊎ (((i == l) ≡ false) × (i ≢ l)) → (i < l → index_of a i ≡ index_of b i) → index_of a i ≡ index_of b i
  step (inl h) below = let e : index_of a l ≡ index_of b l = cc in ap (index_of a) h.1 ∙ e ∙ sym (ap (index_of b) h.1)
  step (inr h) below = let differ = h.1 in below (omega arith)

-- the halves of a byte, which are the indexes of two levels
high-half : (a b : List ℕ) (l i : ℕ) → 0 < i → i + i ≤ l → path a l ≡ path b l → slice_index a i / 16 ≡ slice_index b i / 16
high-half a b l zero some within same = absurd (omega arith)
high-half a b l (suc i) some within same =
    let level : ℕ = i + i + 1 in
    let even : (level + 1) % 2 ≡ 0 = omega arith in
    let half : (level + 1) / 2 ≡ suc i = omega arith in
    ap (λ k. slice_index a k / 16) (sym half) ∙ index-high a level (omega arith) even ∙ index-same a b l level (omega arith) same
    ∙ sym (index-high b level (omega arith) even) ∙ ap (λ k. slice_index b k / 16) half

low-half : (a b : List ℕ) (l i : ℕ) → 0 < i → i + i < l → path a l ≡ path b l → slice_index a i % 16 ≡ slice_index b i % 16
low-half a b l i some within same =
    let level : ℕ = i + i in
    let odd : (level + 1) % 2 ≡ 0 → ⊥ = λ e. omega arith in
    let half : (level + 1) / 2 ≡ i = omega arith in
    ap (λ k. slice_index a k % 16) (sym half) ∙ index-low a level (omega arith) odd ∙ index-same a b l level (omega arith) same
    ∙ sym (index-low b level (omega arith) odd) ∙ ap (λ k. slice_index b k % 16) half

whole-byte : (a b : List ℕ) (l i : ℕ) → 0 < l → i + i < l → path a l ≡ path b l → slice_index a i ≡ slice_index b i
whole-byte a b l zero some within same = index-first a 0 refl ∙ index-same a b l 0 some same ∙ sym (index-first b 0 refl)
whole-byte a b l (suc i) some within same =
    let high = high-half a b l (suc i) (omega arith) (omega arith) same in
    let low = low-half a b l (suc i) (omega arith) within same in
    omega arith

-- the index by which two digests first part rises
index-le : (a b : List ℕ) (l : ℕ) → IsUpTo a b → path a l ≡ path b l → index_of a l ≤ index_of b l
index-le a b zero le same = let h = byte-le a b 0 le (λ i lt. absurd (omega arith)) in omega (arith, index-first a 0 refl, index-first b 0 refl)
index-le a b (suc m) le same = step (eqb_tells ((suc m + 1) % 2) 0) where
  place : ℕ
  place = (suc m + 1) / 2

  byte : slice_index a place ≤ slice_index b place
  byte = byte-le a b place le (λ i lt. whole-byte a b (suc m) i (omega arith) (omega arith) same)

  step : ((((suc m + 1) % 2 == 0) ≡ true) × ((suc m + 1) % 2 ≡ 0)) ⊎ ((((suc m + 1) % 2 == 0) ≡ false) × ((suc m + 1) % 2 ≢ 0)) → index_of a (suc m) ≤ index_of b (suc m)
  step (inl h) = omega (arith, byte, index-high a (suc m) (omega arith) h.1, index-high b (suc m) (omega arith) h.1)
  step (inr h) =
      let odd = h.1 in
      let high = high-half a b (suc m) place (omega arith) (omega arith) same in
      omega (arith, byte, high, index-low a (suc m) (omega arith) odd, index-low b (suc m) (omega arith) odd)

-- a digest that stands between two others leads where both lead
between : (a b c : List ℕ) (l : ℕ) → IsUpTo a b → IsUpTo b c → path a l ≡ path c l → (path a l ≡ path b l) × (path b l ≡ path c l)
between a b c zero ab bc same = (refl, refl)
between a b c (suc l) ab bc same =
    let below = between a b c l ab bc cc in
    let ends : index_of a l ≡ index_of c l = cc in
    let low = index-le a b l ab below.0 in
    let high = index-le b c l bc below.1 in
    let first : index_of a l ≡ index_of b l = omega arith in
    let last : index_of b l ≡ index_of c l = omega arith in
    (λ i. first i ∷ below.0 i, λ i. last i ∷ below.1 i)

-- towards a digest, and away from it
pub towards : (x y d : List ℕ) (l : ℕ) → IsUpTo x y → IsUpTo y d → path x l ≡ path d l → path y l ≡ path d l
towards x y d l xy yd same = (between x y d l xy yd same).1

pub away : (x y d : List ℕ) (l : ℕ) → IsUpTo d y → IsUpTo y x → path x l ≡ path d l → path y l ≡ path d l
away x y d l dy yx same = sym (between d y x l dy yx (sym same)).0
