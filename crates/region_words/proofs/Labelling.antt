-- The words of a claimed block, with 0 for those that were not written.
use Rattle.std.proofs.Common.{◌≡◌, ℕ, zero, suc, List, [], ◌∷◌, length, set, replicate, Option, Some, refl, ap}
use Rattle.std.specs.Prelude.{unwrap_or, slice_set}
use Rattle.cas_port.specs.Blank.{none_written}
use Rattle.cas_port.specs.View.{written_words}

pub written-none : (n : ℕ) → written_words (none_written n) ≡ replicate n 0
written-none zero = refl
written-none (suc n) = ap (λ l. 0 ∷ l) (written-none n)

pub length-none : (n : ℕ) → length (none_written n) ≡ n
length-none zero = refl
length-none (suc n) = ap suc (length-none n)

pub written-set : (ws : List (Option ℕ)) (i x : ℕ) → written_words (slice_set ws i (Some x)) ≡ set (written_words ws) i x
written-set [] i x = refl
written-set (w ∷ ws) zero x = refl
written-set (w ∷ ws) (suc i) x = ap (λ l. unwrap_or w 0 ∷ l) (written-set ws i x)

pub written-length : (ws : List (Option ℕ)) → length (written_words ws) ≡ length ws
written-length [] = refl
written-length (w ∷ ws) = ap suc (written-length ws)
