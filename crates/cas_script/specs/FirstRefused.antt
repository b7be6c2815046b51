-- Why a text is no script: the first line that has no reading, and its first refusal.
use Rattle.std.specs.Prelude.{◌≡◌, ◌≢◌, ℕ, ◌+◌, List, [], ◌∷◌, ◌++◌, length, map, nat_le, if◌then◌else◌, true, Result, Ok, Err}
use Rattle.cas_script.specs.declared.script.Line.{Line}
use Rattle.cas_script.specs.declared.script.Session.{Session}
use Rattle.cas_script.specs.declared.verb.Verb.{Verb}
use Rattle.cas_script.specs.declared.error.LineKind.{LineKind}
use Rattle.cas_script.specs.declared.error.LineKind.TheVariants.{BadVerb, BadArguments, NoSession, TooManySessions, TooManyLines}
use Rattle.cas_script.specs.declared.error.ScriptError.{ScriptError}
use Rattle.cas_script.specs.declared.error.ScriptError.TheVariants as errors
use Rattle.cas_script.specs.Text.{lines_of, tokens_of, speaks}
use Rattle.cas_script.specs.Verbs.{session_word, verb_word, count_check}
use Rattle.cas_script.specs.Lines.{stored_by, AreNoArguments}
use Rattle.cas_script.specs.Grammar.{ReadsLines}

-- the lines of the last session, none where there is no session
abbrev pub last_lines : List Session → List Line
last_lines [] = []
last_lines (session ∷ []) = session.lines
last_lines (session ∷ next ∷ rest) = last_lines (next ∷ rest)

-- what refuses comes first, and what it lets pass is refused by the rest
abbrev pub Then : Result (Unit {0}) LineKind → (LineKind → Type 0) → LineKind → Type 0
Then (Ok _) rest kind = rest kind
Then (Err first) rest kind = kind ≡ first

-- a `session` after so many sessions
abbrev pub session_check : List Session → Result (Unit {0}) LineKind
session_check sessions = if nat_le 64 (length sessions) then Err TooManySessions else Ok tt

-- a `session` with these arguments
abbrev pub bare_check : List (List ℕ) → Result (Unit {0}) LineKind
bare_check [] = Ok tt
bare_check (argument ∷ arguments) = Err BadArguments

-- another line after these sessions
abbrev pub place_check : List Session → Result (Unit {0}) LineKind
place_check [] = Err NoSession
place_check (session ∷ sessions) =
    if nat_le 65536 (length (last_lines (session ∷ sessions))) then Err TooManyLines else Ok tt

-- the first refusal of a line with this word and these arguments, after these sessions
abbrev pub IsRefusedVerb : List Session → Verb → List (List ℕ) → LineKind → Type 0
IsRefusedVerb sessions verb arguments =
    Then (place_check sessions) (Then (count_check verb (length arguments))
    (AreNoArguments (map stored_by (last_lines sessions)) verb arguments))

-- the first refusal of a line with this first token and these arguments, after these sessions
pub data IsRefusedCall (sessions : List Session) (first : List ℕ) (arguments : List (List ℕ)) (kind : LineKind) : Type 0 where
  Unknown : first ≢ session_word → ((verb : Verb) → first ≢ verb_word verb) → kind ≡ BadVerb → IsRefusedCall sessions first arguments kind
  Opening : first ≡ session_word → Then (session_check sessions) (Then (bare_check arguments) (λ _. ⊥)) kind → IsRefusedCall sessions first arguments kind
  Speaking : (verb : Verb) → first ≡ verb_word verb → IsRefusedVerb sessions verb arguments kind → IsRefusedCall sessions first arguments kind

-- the line says something and has no reading after these sessions, and this is its first refusal
pub record IsRefusedLine (sessions : List Session) (line : List ℕ) (kind : LineKind) : Type 0 where
  pub said : speaks line ≡ true
  pub first : List ℕ
  pub arguments : List (List ℕ)
  pub tokens : tokens_of line ≡ first ∷ arguments
  pub refused : IsRefusedCall sessions first arguments kind

-- the lines before this number, counted from 1, have a reading, and that line is refused
pub record IsRefusedAt (text : List ℕ) (number : ℕ) (kind : LineKind) : Type 0 where
  pub before : List (List ℕ)
  pub line : List ℕ
  pub after : List (List ℕ)
  pub sessions : List Session
  pub lines : lines_of text ≡ before ++ line ∷ after
  pub place : number ≡ length before + 1
  pub reads : ReadsLines before sessions
  pub refused : IsRefusedLine sessions line kind

-- what holds of a line's number and its refusal, where the error is that of a line
abbrev pub OnLine : (ℕ → LineKind → Type 0) → ScriptError → Type 0
OnLine P (errors.Line number kind) = P number kind
OnLine P errors.TooLong = Unit {0}
OnLine P errors.Memory = Unit {0}
