-- Lists that are made item by item.
use Rattle.std.proofs.Common.{◌≡◌, ℕ, ◌+◌, List, [], ◌∷◌, ◌++◌, map, refl, ap, sym, ◌∙◌, append_assoc, arith}
use Rattle.std.specs.List.{range_with_len}
use Rattle.std.proofs.lemmas.List.FromFn.{map-range_with_len_more}
use Rattle.cas_model.specs.declared.digest.Digest.{Digest}
use Rattle.cas_script.specs.declared.script.Line.TheVariants.{Store}
use Rattle.cas_script.specs.Workload.{header_line, header_name}

-- one more item
pub item-more : {X : Type 0} (f : ℕ → X) (n : ℕ) (xs ys : List X) (x : X) → xs ≡ map f (range_with_len 0 n) → ys ≡ xs ++ x ∷ [] → x ≡ f n → ys ≡ map f (range_with_len 0 (n + 1))
item-more {X} f n xs ys x before added is =
    added ∙ ap (λ (l : List X). l ++ x ∷ []) before ∙ ap (λ (y : X). map f (range_with_len 0 n) ++ y ∷ []) is ∙ sym (map-range_with_len_more f 0 n n (omega arith))

-- one more item after those of a front
pub item-more-after : {X : Type 0} (front : List X) (f : ℕ → X) (n : ℕ) (xs ys : List X) (x : X) → xs ≡ front ++ map f (range_with_len 0 n) → ys ≡ xs ++ x ∷ [] → x ≡ f n
    → ys ≡ front ++ map f (range_with_len 0 (n + 1))
item-more-after {X} front f n xs ys x before added is =
    added ∙ ap (λ (l : List X). l ++ x ∷ []) before ∙ append_assoc front (map f (range_with_len 0 n)) (x ∷ [])
    ∙ ap (λ (l : List X). front ++ l) (item-more f n (map f (range_with_len 0 n)) (map f (range_with_len 0 n) ++ x ∷ []) x refl refl is)

-- so many items
pub items-all : {X : Type 0} (f : ℕ → X) (n m : ℕ) (xs : List X) → n ≡ m → xs ≡ map f (range_with_len 0 n) → xs ≡ map f (range_with_len 0 m)
items-all f n m xs same is = is ∙ ap (λ k. map f (range_with_len 0 k)) same

-- ---- a line that is made

pub same-header : (refs : List Digest) (bytes : List ℕ) (number : ℕ) → refs ≡ [] → bytes ≡ header_name number → Store refs bytes ≡ header_line number
same-header refs bytes number none is = ap (λ (r : List Digest). Store r bytes) none ∙ ap (λ (b : List ℕ). Store [] b) is
