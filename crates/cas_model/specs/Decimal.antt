-- Numbers in decimal digits.
use Rattle.std.specs.Prelude.{◌≡◌, ℕ, ◌≤◌, List, [], ◌∷◌, Bool, false, ◌&&◌, nat_le, decimal}

-- the text is this number, in decimal digits without a sign or a leading zero, and the number lies between these
pub record IsNumberWithin (least most : ℕ) (text : List ℕ) (number : ℕ) : Type 0 where
  pub digits : text ≡ decimal number
  pub low : least ≤ number
  pub high : number ≤ most

-- one decimal digit, or more bytes of which the first is a digit and not 0
abbrev pub leads : List ℕ → Bool
leads [] = false
leads (digit ∷ []) = nat_le 48 digit && nat_le digit 57
leads (first ∷ next ∷ bytes) = nat_le 49 first && nat_le first 57
