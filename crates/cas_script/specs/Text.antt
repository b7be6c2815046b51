-- The lines of a text, and the tokens of a line.
use Rattle.std.specs.Prelude.{ℕ, List, [], ◌∷◌, ◌==◌, Bool, false, not}
use Rattle.std.specs.declared.option.Option.{Option}
use Rattle.std.specs.Prelude.{Some, None}
use Rattle.std.specs.List.{slice_split}

-- what stands between two bytes `mark`, before the first and after the last
abbrev pub pieces : ℕ → List ℕ → List (List ℕ)
pieces mark text = slice_split (λ b. b == mark) text

-- the pieces of what stands after a byte `mark`, if there is one
abbrev pub more_pieces : ℕ → Option (List ℕ) → List (List ℕ)
more_pieces mark None = []
more_pieces mark (Some text) = pieces mark text

-- the last piece is a line where it is not empty
abbrev pub last_line : List ℕ → List (List ℕ)
last_line [] = []
last_line (b ∷ bytes) = (b ∷ bytes) ∷ []

-- the pieces without the last one, where that is empty
abbrev pub without_empty_end : List (List ℕ) → List (List ℕ)
without_empty_end [] = []
without_empty_end (piece ∷ []) = last_line piece
without_empty_end (piece ∷ next ∷ rest) = piece ∷ without_empty_end (next ∷ rest)

-- the lines of a text, cut at each LF
abbrev pub lines_of : List ℕ → List (List ℕ)
lines_of text = without_empty_end (pieces 10 text)

-- the tokens of a line, cut at each single space
abbrev pub tokens_of : List ℕ → List (List ℕ)
tokens_of line = pieces 32 line

-- a line that is not empty and does not begin with `#`
abbrev pub speaks : List ℕ → Bool
speaks [] = false
speaks (b ∷ line) = not (b == 35)
