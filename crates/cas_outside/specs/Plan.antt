-- Which calls of an object in memory fail, by their number, counted from 1; and bytes copied to the front of a buffer.
use Rattle.std.specs.Prelude.{◌≡◌, ℕ, ◌+◌, ◌-◌, ◌^◌, ◌==◌, Bool, List, length, take, drop, min}
use Rattle.std.specs.List.{list_any}

abbrev pub is_planned : List ℕ → ℕ → Bool
is_planned plan call = list_any (λ n. n == call) plan

-- one more, up to the last u64
abbrev pub next : ℕ → ℕ
next n = min (n + 1) (2 ^ 64 - 1)

pub record CopiesFront (bytes : List ℕ) (at : ℕ) (old new : List ℕ) (count : ℕ) : Type 0 where
  pub count_is : count ≡ min (length bytes - at) (length old)
  pub front : take count new ≡ take count (drop at bytes)
  pub as_long : length new ≡ length old
