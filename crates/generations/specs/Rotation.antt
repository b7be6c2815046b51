-- When a store goes on in a new generation.
use Rattle.std.specs.Prelude.{◌≡◌, ℕ, ◌*◌, ◌/◌, ◌<◌, ◌⊎◌, Bool, true, Some, None}
use Rattle.std.specs.declared.option.Option.{Option}

-- a limit is given, in bytes, and so many words take more than half of it
abbrev pub Passes : Option ℕ → ℕ → Type 0
Passes None used = ⊥
Passes (Some limit) used = limit / 2 < 8 * used

-- a call found the region full, or the words in use pass the limit
abbrev pub NeedsRotation : ℕ → Option ℕ → Bool → Type 0
NeedsRotation used limit full_seen = (full_seen ≡ true) ⊎ Passes limit used
