-- What a check of the folder's images tells.
use Rattle.std.specs.Prelude.{ℕ, List, [], ◌∷◌, ◌++◌, Bool, true, false, None, Some, codes}
use Rattle.std.specs.Fmt.{decimal}
use Rattle.std.specs.declared.option.Option.{Option}
use Rattle.std.specs.FinMap as fin
use Rattle.cas_model.specs.Primary.{primary}
use Rattle.cas_model.specs.State.{State}
use Rattle.frozen_store.specs.Seen.{FrozenSeen}
use Rattle.generations.specs.declared.opening.Opened.{Opened}

-- the line of the generation with a number, which has so many objects and actions
abbrev pub valid_line : ℕ → ℕ → ℕ → List ℕ
valid_line number objects actions = codes "valid v1." ++ decimal number ++ codes " " ++ decimal objects ++ codes " " ++ decimal actions ++ 10 ∷ []

-- the primary's line, where it has a file
abbrev pub primary_line : Bool → ℕ → State → List ℕ
primary_line true number state = valid_line number (fin.len state.objects) (fin.len state.cache)
primary_line false number state = []

-- the upstream's line, where there is one
abbrev pub upstream_line : Option FrozenSeen → ℕ → List ℕ
upstream_line None number = []
upstream_line (Some frozen) number = valid_line number (fin.len (primary frozen.tables).objects) (fin.len (primary frozen.tables).cache)

-- a line for each generation that was read, the primary first
abbrev pub valid_lines : Opened → List ℕ
valid_lines opened = primary_line opened.has_file opened.number (primary opened.primary.tables) ++ upstream_line opened.up opened.up_number
