-- What the answer of a fill shows.
use Rattle.std.proofs.Common.{◌≡◌, ℕ, zero, suc, false, refl}
use Rattle.cas_history.specs.Answers.{fill_answer}
use Rattle.cas_history.specs.History.{shows_miss, value_read}

-- no fill shows a miss
pub fill-no-miss : (had value : ℕ) → shows_miss (fill_answer had value) ≡ false
fill-no-miss zero value = refl
fill-no-miss (suc had) value = refl

-- and none reads a value
pub fill-no-read : (had value : ℕ) → value_read (fill_answer had value) ≡ 0
fill-no-read zero value = refl
fill-no-read (suc had) value = refl
