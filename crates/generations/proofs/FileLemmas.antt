-- The files after one was put or removed, and their generations.
use Rattle.std.proofs.Common.{◌≡◌, ◌≢◌, ℕ, ◌<◌, ◌≤◌, Bool, true, false, cond, is_some, List, ◌⊎◌, inl, inr, Some, None, refl, ap, sym, ◌∙◌, subst, arith}
use Rattle.std.specs.Prelude.{nat_eq}
use Rattle.std.specs.Cmp.Lexicographic.{bytes_decides, nat_list_cmp_total, pointwise, slice_cmp, texts_ties}
use Rattle.std.specs.Ordering.{eq_by_cmp, nat_cmp}
use Rattle.std.specs.FinMap as fin
use Rattle.cas_outside.specs.Folder.{Files}
use Rattle.generations.specs.Chain.{HasGeneration}
use Rattle.generations.specs.GenerationNames.{generation_name}
use Rattle.generations.proofs.NameLemmas.{one-number}

-- ---- names

pub same-name : (a b : List ℕ) → (a ≡ b) ⊎ (a ≢ b)
same-name a b = by-test (pointwise nat_eq a b) refl where
  by-test : (test : Bool) → pointwise nat_eq a b ≡ test → (a ≡ b) ⊎ (a ≢ b)
  by-test true is = inl ((bytes_decides a b).0 is)
  by-test false is = inr (λ same. let two : true ≡ false = sym ((bytes_decides a b).1 same) ∙ is in cc two)

alike : (a : List ℕ) → eq_by_cmp (slice_cmp nat_cmp) a a ≡ true
alike a = sym (texts_ties a a) ∙ (bytes_decides a a).1 refl

apart : (a b : List ℕ) → a ≢ b → eq_by_cmp (slice_cmp nat_cmp) a b ≡ false
apart a b differ = by-test (eq_by_cmp (slice_cmp nat_cmp) a b) refl where
  by-test : (test : Bool) → eq_by_cmp (slice_cmp nat_cmp) a b ≡ test → test ≡ false
  by-test true is = absurd (differ ((bytes_decides a b).0 (texts_ties a b ∙ is)))
  by-test false is = refl

pub other-name : (m n : ℕ) → m < 4294967296 → n < 4294967296 → m ≢ n → generation_name m ≢ generation_name n
other-name m n small less differ = λ same. differ (one-number m n (omega (arith, small)) (omega (arith, less)) same)

-- ---- a file that was put

pub put-there : (files : Files) (name bytes : List ℕ) → fin.get (fin.insert files name bytes) name ≡ Some bytes
put-there files name bytes = fin.get-insert nat_list_cmp_total files name bytes name ∙ ap (λ b. cond b (Some bytes) (fin.get files name)) (alike name)

pub put-other : (files : Files) (name bytes other : List ℕ) → other ≢ name → fin.get (fin.insert files name bytes) other ≡ fin.get files other
put-other files name bytes other differ = fin.get-insert nat_list_cmp_total files name bytes other ∙ ap (λ b. cond b (Some bytes) (fin.get files other)) (apart other name differ)

-- the generation that was put is there
pub now-there : (files : Files) (n : ℕ) (bytes : List ℕ) → 1 ≤ n → n ≤ 4294967295 → HasGeneration (fin.insert files (generation_name n) bytes) n
now-there files n bytes least most = record { least = least; most = most; there = ap is_some (put-there files (generation_name n) bytes) }

-- each other one is as it was
pub still-there : (files : Files) (n m : ℕ) (bytes : List ℕ) → HasGeneration files m → HasGeneration (fin.insert files (generation_name n) bytes) m
still-there files n m bytes has = record {
  least = has.least;
  most = has.most;
  there = elim (same-name (generation_name m) (generation_name n)) [
    | inl same ↦ subst (λ name. fin.contains_key (fin.insert files (generation_name n) bytes) name ≡ true) (sym same) (ap is_some (put-there files (generation_name n) bytes))
    | inr differ ↦ ap is_some (put-other files (generation_name n) bytes (generation_name m) differ) ∙ has.there
  ];
}

pub was-there : (files : Files) (n m : ℕ) (bytes : List ℕ) → n < 4294967296 → HasGeneration (fin.insert files (generation_name n) bytes) m → HasGeneration files m ⊎ (m ≡ n)
was-there files n m bytes small has = elim (same-name (generation_name m) (generation_name n)) [
  | inl same ↦ (let most = has.most in inr (one-number m n (omega (arith, most)) (omega (arith, small)) same))
  | inr differ ↦ inl (record {
    least = has.least;
    most = has.most;
    there = sym (ap is_some (put-other files (generation_name n) bytes (generation_name m) differ)) ∙ has.there;
  })
]

-- ---- a file that was removed

pub get-removed : (files : Files) (name other : List ℕ) → fin.get (fin.remove files name) other ≡ cond (pointwise nat_eq name other) None (fin.get files other)
get-removed files name other =
    fin.get-remove nat_list_cmp_total files name other
    ∙ ap (λ b. cond b None (fin.get files other)) (turned (pointwise nat_eq name other) refl) where
      turned : (test : Bool) → pointwise nat_eq name other ≡ test → eq_by_cmp (slice_cmp nat_cmp) other name ≡ test
      turned true is = sym (texts_ties other name) ∙ (bytes_decides other name).1 (sym ((bytes_decides name other).0 is))
      turned false is = apart other name (λ same. let two : true ≡ false = sym ((bytes_decides name other).1 (sym same)) ∙ is in cc two)
