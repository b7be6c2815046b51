-- What is found in two lists of contents, one after the other.
use Rattle.std.proofs.Common.{◌≡◌, ℕ, List, [], ◌∷◌, ◌++◌, Bool, true, false, cond, ◌==◌, Some, None, refl}
use Rattle.cas_model.specs.declared.tables.Content.{Content}
use Rattle.cas_model.specs.Tables.{words_at}

pub words-first : (xs ys : List Content) (n : ℕ) (ws : List ℕ) → Some ws ≡ words_at xs n → Some ws ≡ words_at (xs ++ ys) n
words-first [] ys n ws h = cc
words-first (x ∷ xs) ys n ws h = step (x.place == n) h (λ is. words-first xs ys n ws is) where
  step : (b : Bool) → Some ws ≡ cond b (Some x.words) (words_at xs n) → (Some ws ≡ words_at xs n → Some ws ≡ words_at (xs ++ ys) n) → Some ws ≡ cond b (Some x.words) (words_at (xs ++ ys) n)
  step true h again = h
  step false h again = again h

pub words-second : (xs ys : List Content) (n : ℕ) → None ≡ words_at xs n → words_at ys n ≡ words_at (xs ++ ys) n
words-second [] ys n h = refl
words-second (x ∷ xs) ys n h = step (x.place == n) h (λ is. words-second xs ys n is) where
  step : (b : Bool) → None ≡ cond b (Some x.words) (words_at xs n) → (None ≡ words_at xs n → words_at ys n ≡ words_at (xs ++ ys) n) → words_at ys n ≡ cond b (Some x.words) (words_at (xs ++ ys) n)
  step true h again = cc
  step false h again = again h
