-- How many subtries digests need: it does not depend on their order, and fewer digests do not need more.
use Rattle.std.proofs.Common.{◌≡◌, ℕ, zero, suc, ◌+◌, ◌≤◌, ◌⊎◌, List, [], ◌∷◌, ◌++◌, length, Bool, true, false, cond, ◌==◌, nat_eq, inl, inr, refl, sym, ap, ◌∙◌, subst, arith, append_assoc, length-append}
use Rattle.std.specs.Cmp.Lexicographic.{pointwise, bytes_decides}
use Rattle.std.specs.List.{count_by}
use Rattle.std.proofs.lemmas.List.Sums.{sum_by-cons}
use Rattle.std.proofs.lemmas.List.Sorted.{sum_by-IsPermutation, IsPermutation-middle}
use Rattle.cas_model.specs.declared.digest.Digest.{Digest}
use Rattle.cas_model.specs.State.{Member}
use Rattle.cas_model.specs.Trie.{path, sharing, new_subtries, subtries}

-- ---- one level

abbrev shares : Digest → Digest → ℕ → Bool
shares e d n = pointwise nat_eq (path e.bytes n) (path d.bytes n)

shares-sym : (e d : Digest) (n : ℕ) → shares e d n ≡ shares d e n
shares-sym e d n = both (shares e d n) (shares d e n) refl refl where
  both : (a b : Bool) → shares e d n ≡ a → shares d e n ≡ b → a ≡ b
  both true true p q = refl
  both false false p q = refl
  both true false p q = absurd (let h : shares d e n ≡ true = (bytes_decides (path d.bytes n) (path e.bytes n)).1 (sym ((bytes_decides (path e.bytes n) (path d.bytes n)).0 p)) in cc)
  both false true p q = absurd (let h : shares e d n ≡ true = (bytes_decides (path e.bytes n) (path d.bytes n)).1 (sym ((bytes_decides (path d.bytes n) (path e.bytes n)).0 q)) in cc)

sharing-cons : (e : Digest) (ds : List Digest) (d : Digest) (n : ℕ) → sharing (e ∷ ds) d n ≡ cond (shares e d n) 1 0 + sharing ds d n
sharing-cons e ds d n = sum_by-cons (λ x. cond (shares x d n) 1 0) e ds

sharing-same : (ds : List Digest) (e d : Digest) (n : ℕ) → path e.bytes n ≡ path d.bytes n → sharing ds e n ≡ sharing ds d n
sharing-same ds e d n same = ap (λ (π : List ℕ). count_by (λ (x : Digest). pointwise nat_eq (path x.bytes n) π) ds) same

sharing-moved : (xs ys : List Digest) (e d : Digest) (n : ℕ) → sharing (xs ++ e ∷ ys) d n ≡ sharing (e ∷ (xs ++ ys)) d n
sharing-moved xs ys e d n = sym (sum_by-IsPermutation (λ x. cond (shares x d n) 1 0) (xs ++ e ∷ ys) (e ∷ (xs ++ ys)) (IsPermutation-middle xs e ys))

-- whether just one digest shares
abbrev alone : ℕ → ℕ
alone k = cond (k == 1) 1 0

level-swap : (ds : List Digest) (e d : Digest) (n : ℕ) → alone (sharing (d ∷ ds) e n) + alone (sharing ds d n) ≡ alone (sharing (e ∷ ds) d n) + alone (sharing ds e n)
level-swap ds e d n = step (shares e d n) refl where
  turn : (a b : ℕ) → a + b ≡ b + a
  turn a b = omega arith

  step : (b : Bool) → shares e d n ≡ b → alone (sharing (d ∷ ds) e n) + alone (sharing ds d n) ≡ alone (sharing (e ∷ ds) d n) + alone (sharing ds e n)
  step true h =
      let same : path e.bytes n ≡ path d.bytes n = (bytes_decides (path e.bytes n) (path d.bytes n)).0 h in
      let one : sharing (e ∷ ds) d n ≡ 1 + sharing ds d n = sharing-cons e ds d n ∙ ap (λ b. cond b 1 0 + sharing ds d n) h in
      let other : sharing (d ∷ ds) e n ≡ 1 + sharing ds e n = sharing-cons d ds e n ∙ ap (λ b. cond b 1 0 + sharing ds e n) (shares-sym d e n ∙ h) in
      let rest : sharing ds e n ≡ sharing ds d n = sharing-same ds e d n same in
      ap (λ k. alone k + alone (sharing ds d n)) (other ∙ ap (λ k. 1 + k) rest ∙ sym one) ∙ ap (λ k. alone (sharing (e ∷ ds) d n) + alone k) (sym rest)
  step false h =
      let one : sharing (e ∷ ds) d n ≡ 0 + sharing ds d n = sharing-cons e ds d n ∙ ap (λ b. cond b 1 0 + sharing ds d n) h in
      let other : sharing (d ∷ ds) e n ≡ 0 + sharing ds e n = sharing-cons d ds e n ∙ ap (λ b. cond b 1 0 + sharing ds e n) (shares-sym d e n ∙ h) in
      let one_is : sharing (e ∷ ds) d n ≡ sharing ds d n = omega (arith, one) in
      let other_is : sharing (d ∷ ds) e n ≡ sharing ds e n = omega (arith, other) in
      ap (λ k. alone k + alone (sharing ds d n)) other_is ∙ turn (alone (sharing ds e n)) (alone (sharing ds d n)) ∙ ap (λ k. alone k + alone (sharing ds e n)) (sym one_is)

-- ---- all levels

new-swap : (ds : List Digest) (e d : Digest) (n : ℕ) → new_subtries (d ∷ ds) e n + new_subtries ds d n ≡ new_subtries (e ∷ ds) d n + new_subtries ds e n
new-swap ds e d zero = refl
new-swap ds e d (suc n) =
    pairs (alone (sharing (d ∷ ds) e (suc n))) (new_subtries (d ∷ ds) e n) (alone (sharing ds d (suc n))) (new_subtries ds d n)
    (alone (sharing (e ∷ ds) d (suc n))) (new_subtries (e ∷ ds) d n) (alone (sharing ds e (suc n))) (new_subtries ds e n) (level-swap ds e d (suc n)) (new-swap ds e d n)
  where
    pairs : (a b c d p q r s : ℕ) → a + c ≡ p + r → b + d ≡ q + s → (a + b) + (c + d) ≡ (p + q) + (r + s)
    pairs a b c d p q r s one two = omega (arith, one, two)

new-moved : (xs ys : List Digest) (e d : Digest) (n : ℕ) → new_subtries (xs ++ e ∷ ys) d n ≡ new_subtries (e ∷ (xs ++ ys)) d n
new-moved xs ys e d zero = refl
new-moved xs ys e d (suc n) = λ i. alone (sharing-moved xs ys e d (suc n) i) + new-moved xs ys e d n i

-- a digest may stand anywhere
pub subtries-moved : (xs ys : List Digest) (d : Digest) → subtries (xs ++ d ∷ ys) ≡ subtries (d ∷ (xs ++ ys))
subtries-moved [] ys d = refl
subtries-moved (x ∷ xs) ys d =
    together (new_subtries (xs ++ d ∷ ys) x 62) (subtries (xs ++ d ∷ ys)) (new_subtries (d ∷ (xs ++ ys)) x 62) (new_subtries (xs ++ ys) d 62) (subtries (xs ++ ys))
    (new_subtries (x ∷ (xs ++ ys)) d 62) (new_subtries (xs ++ ys) x 62) (new-moved xs ys d x 62) (subtries-moved xs ys d) (new-swap (xs ++ ys) x d 62)
  where
    together : (a s b c r p q : ℕ) → a ≡ b → s ≡ c + r → b + c ≡ p + q → a + s ≡ p + (q + r)
    together a s b c r p q one two three = omega (arith, one, two, three)

-- digests before others need more
pub subtries-more : (xs ys : List Digest) → subtries ys ≤ subtries (xs ++ ys)
subtries-more [] ys = omega arith
subtries-more (x ∷ xs) ys = at_least (new_subtries (xs ++ ys) x 62) (subtries (xs ++ ys)) (subtries ys) (subtries-more xs ys) where
  at_least : (a b c : ℕ) → c ≤ b → c ≤ a + b
  at_least a b c h = omega (arith, h)

-- ---- fewer digests

-- no digest twice
abbrev pub Apart : List Digest → Type 0
Apart [] = Unit {0}
Apart (d ∷ ds) = (Member d ds → ⊥) × Apart ds

member-cases : (xs ys : List Digest) (d : Digest) → Member d (xs ++ ys) → Member d xs ⊎ Member d ys
member-cases [] ys d m = inr m
member-cases (x ∷ xs) ys d (inl is) = inl (inl is)
member-cases (x ∷ xs) ys d (inr m) = elim (member-cases xs ys d m) [ inl a ↦ inl (inr a) | inr b ↦ inr b ]

member-left : (xs ys : List Digest) (d : Digest) → Member d xs → Member d (xs ++ ys)
member-left [] ys d m = absurd m
member-left (x ∷ xs) ys d (inl is) = inl is
member-left (x ∷ xs) ys d (inr m) = inr (member-left xs ys d m)

member-right : (xs ys : List Digest) (d : Digest) → Member d ys → Member d (xs ++ ys)
member-right [] ys d m = m
member-right (x ∷ xs) ys d m = inr (member-right xs ys d m)

record Split (d : Digest) (xs : List Digest) : Type 0 where
  before : List Digest
  after : List Digest
  is : xs ≡ before ++ d ∷ after

split : (d : Digest) (xs : List Digest) → Member d xs → Split d xs
split d [] m = absurd m
split d (x ∷ xs) (inl is) = record { before = []; after = xs; is = ap (λ (y : Digest). y ∷ xs) is }
split d (x ∷ xs) (inr m) = let s = split d xs m in record { before = x ∷ s.before; after = s.after; is = ap (λ (ys : List Digest). x ∷ ys) s.is }

-- the digests of a list, others first
record Rest (xs all : List Digest) : Type 0 where
  rest : List Digest
  long : length all ≡ length rest + length xs
  count : subtries all ≡ subtries (rest ++ xs)
  has : (d : Digest) → Member d all → Member d (rest ++ xs)

rest-more : (x : Digest) (xs all : List Digest) → (Member x xs → ⊥) → Member x all → Rest xs all → Rest (x ∷ xs) all
rest-more x xs all fresh there r =
    let in_rest : Member x r.rest = elim (member-cases r.rest xs x (r.has x there)) [ inl a ↦ a | inr b ↦ absurd (fresh b) ] in
    let s = split x r.rest in_rest in
    let whole : r.rest ++ xs ≡ s.before ++ x ∷ (s.after ++ xs) = ap (λ (ys : List Digest). ys ++ xs) s.is ∙ append_assoc s.before (x ∷ s.after) xs in
    let both : (s.before ++ s.after) ++ xs ≡ s.before ++ (s.after ++ xs) = append_assoc s.before s.after xs in
    record {
      rest = s.before ++ s.after;
      long = longer (length all) (length r.rest) (length xs) (length s.before) (length s.after) (length (s.before ++ s.after)) r.long (ap length s.is ∙ length-append s.before (x ∷ s.after)) (length-append s.before s.after);
      count = r.count ∙ ap subtries whole ∙ subtries-moved s.before (s.after ++ xs) x ∙ ap (λ (ys : List Digest). subtries (x ∷ ys)) (sym both) ∙ sym (subtries-moved (s.before ++ s.after) xs x);
      has = λ d m. placed s.before s.after d (elim (member-cases s.before (x ∷ (s.after ++ xs)) d (subst (Member d) whole (r.has d m))) [
        | inl a ↦ inl a
        | inr (inl is) ↦ inr (inl is)
        | inr (inr b) ↦ elim (member-cases s.after xs d b) [ inl c ↦ inr (inr (inl c)) | inr c ↦ inr (inr (inr c)) ]
      ]);
    }
  where
    longer : (a r k b c bc : ℕ) → a ≡ r + k → r ≡ b + suc c → bc ≡ b + c → a ≡ bc + suc k
    longer a r k b c bc one two three = omega (arith, one, two, three)

    placed : (before after : List Digest) (d : Digest) → Member d before ⊎ ((x ≡ d) ⊎ (Member d after ⊎ Member d xs)) → Member d ((before ++ after) ++ x ∷ xs)
    placed before after d (inl a) = member-left (before ++ after) (x ∷ xs) d (member-left before after d a)
    placed before after d (inr (inl is)) = member-right (before ++ after) (x ∷ xs) d (inl is)
    placed before after d (inr (inr (inl a))) = member-left (before ++ after) (x ∷ xs) d (member-right before after d a)
    placed before after d (inr (inr (inr a))) = member-right (before ++ after) (x ∷ xs) d (inr a)

rest-of : (xs all : List Digest) → Apart xs → ((d : Digest) → Member d xs → Member d all) → Rest xs all
rest-of [] all apart there = record { rest = all; long = omega arith; count = ap subtries (sym (append-none all)); has = λ d m. subst (Member d) (sym (append-none all)) m } where
  append-none : (ys : List Digest) → ys ++ [] ≡ ys
  append-none [] = refl
  append-none (y ∷ ys) = ap (λ (zs : List Digest). y ∷ zs) (append-none ys)
rest-of (x ∷ xs) all apart there = rest-more x xs all apart.0 (there x (inl refl)) (rest-of xs all apart.1 (λ d m. there d (inr m)))

-- digests of a list need at most as many subtries, and are at most as many
pub fewer : (xs all : List Digest) → Apart xs → ((d : Digest) → Member d xs → Member d all) → (length xs ≤ length all) × (subtries xs ≤ subtries all)
fewer xs all apart there =
    let r = rest-of xs all apart there in
    (omega (arith, r.long), omega (arith, r.count, subtries-more r.rest xs))
