-- Lists in which one item is set or put last, and numbers of lists.
use Rattle.std.proofs.Common.{◌≡◌, ◌≢◌, ◌⊎◌, ℕ, zero, suc, List, [], ◌∷◌, ◌++◌, length, set, refl, sym, ap, subst, inl, inr, ⊎_elim, arith}
use Rattle.std.specs.Prelude.{slice_index}
use mathlib.Core.Option.{some, some-injective, some-ne-none}
use lib.ListN.{get_elem?}
use Rattle.atomic_table.proofs.Lists.{at_set, at_snoc}
use Rattle.region_words.specs.Numbers.{Has}

module _ {A : Type 0} where
  pub at-here : (l : List A) (i : ℕ) (a b : A) → get_elem? l i ≡ some a → get_elem? (set l i b) i ≡ some b
  at-here [] i a b e = absurd (some-ne-none a (sym e))
  at-here (x ∷ xs) zero a b e = refl
  at-here (x ∷ xs) (suc i) a b e = at-here xs i a b e

  -- what holds of the item that was set, and of the others, holds of all
  pub each-set : (P : ℕ → A → Type 0) (l : List A) (i : ℕ) (b : A) → P i b → ((j : ℕ) (u : A) → j ≢ i → get_elem? l j ≡ some u → P j u) → (j : ℕ) (u : A) → get_elem? (set l i b) j ≡ some u → P j u
  each-set P l i b mine others j u e =
      ⊎_elim
      (λ (t : (j ≡ i) × (b ≡ u)). subst (λ (y : ℕ × A). P y.0 y.1) (λ k. (sym t.0 k, t.1 k)) mine)
      (λ (t : (j ≢ i) × (get_elem? l j ≡ some u)). others j u t.0 t.1)
      (at_set l i j b u e)

  pub each-snoc : (P : ℕ → A → Type 0) (l : List A) (b : A) → ((j : ℕ) → P j b) → ((j : ℕ) (u : A) → get_elem? l j ≡ some u → P j u) → (j : ℕ) (u : A) → get_elem? (l ++ b ∷ []) j ≡ some u → P j u
  each-snoc P l b mine others j u e = ⊎_elim (others j u) (λ (t : b ≡ u). subst (P j) t (mine j)) (at_snoc l b u j e)

  pub at-snoc-where : (l : List A) (a b : A) (j : ℕ) → get_elem? (l ++ a ∷ []) j ≡ some b → (get_elem? l j ≡ some b) ⊎ ((j ≡ length l) × (a ≡ b))
  at-snoc-where [] a b zero e = inr (refl, some-injective a b e)
  at-snoc-where [] a b (suc j) e = absurd (some-ne-none b (sym e))
  at-snoc-where (x ∷ xs) a b zero e = inl e
  at-snoc-where (x ∷ xs) a b (suc j) e = ⊎_elim (λ (h : get_elem? xs j ≡ some b). inl h) (λ (t : (j ≡ length xs) × (a ≡ b)). inr (ap suc t.0, t.1)) (at-snoc-where xs a b j e)

  pub no-items : (l : List A) → length l ≡ 0 → l ≡ []
  no-items [] e = refl
  no-items (x ∷ l) e = absurd (omega arith)

  pub back-nil : (xs ys : List A) → xs ++ ys ≡ [] → ys ≡ []
  back-nil [] ys e = e
  back-nil (x ∷ xs) ys e = absurd (cc e)

pub first-in : (ns : List ℕ) → slice_index ns 0 ≡ 64 → Has 64 ns
first-in [] e = absurd (omega arith)
first-in (n ∷ ns) e = inl (sym e)

pub has-left : (n : ℕ) (xs ys : List ℕ) → Has n xs → Has n (xs ++ ys)
has-left n [] ys h = absurd h
has-left n (x ∷ xs) ys h = ⊎_elim (λ (e : n ≡ x). inl e) (λ (t : Has n xs). inr (has-left n xs ys t)) h

pub has-right : (n : ℕ) (xs ys : List ℕ) → Has n ys → Has n (xs ++ ys)
has-right n [] ys h = h
has-right n (x ∷ xs) ys h = inr (has-right n xs ys h)

pub has-either : (n : ℕ) (xs ys : List ℕ) → Has n (xs ++ ys) → Has n xs ⊎ Has n ys
has-either n [] ys h = inr h
has-either n (x ∷ xs) ys h = ⊎_elim (λ (e : n ≡ x). inl (inl e)) (λ (t : Has n (xs ++ ys)). ⊎_elim (λ (a : Has n xs). inl (inr a)) (λ (b : Has n ys). inr b) (has-either n xs ys t)) h
