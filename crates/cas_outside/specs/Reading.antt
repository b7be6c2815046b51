-- The front of a source.
use Rattle.std.specs.Prelude.{◌≡◌, ℕ, List, Some, None, take}
use Rattle.std.specs.declared.option.Option.{Option}

-- the first bytes of what is left, at most so many, where they are told
abbrev pub ReadsFront : ℕ → Option (List ℕ) → List ℕ → Type 0
ReadsFront limit None bytes = Unit {0}
ReadsFront limit (Some left) bytes = bytes ≡ take limit left
