-- The names of generations.
use Rattle.std.specs.Prelude.{◌≡◌, ℕ, ◌≤◌, List, ◌++◌, codes, decimal}

-- `v1.` and the number in decimal digits
abbrev pub generation_name : ℕ → List ℕ
generation_name number = codes "v1." ++ decimal number

-- the name is that of the generation with this number
pub record IsNameOf (number : ℕ) (name : List ℕ) : Type 0 where
  pub least : 1 ≤ number
  pub most : number ≤ 4294967295
  pub is : name ≡ generation_name number
