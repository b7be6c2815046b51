-- What a line adds to the sessions that are read before it, and what a parser has read.
use Rattle.std.specs.Prelude.{◌≡◌, ℕ, ◌+◌, ◌<◌, List, [], ◌∷◌, ◌++◌, length, map, Bool, true, false}
use Rattle.cas_script.specs.declared.script.Line.{Line}
use Rattle.cas_script.specs.declared.script.Session.{Session}
use Rattle.cas_script.specs.declared.parser.Parser.{Parser}
use Rattle.cas_script.specs.declared.verb.Verb.{Verb}
use Rattle.cas_script.specs.declared.error.LineKind.{LineKind}
use Rattle.cas_script.specs.declared.error.ScriptError.{ScriptError}
use Rattle.cas_script.specs.declared.error.ScriptError.TheVariants as errors
use Rattle.cas_script.specs.declared.refusal.Refusal.{Refusal}
use Rattle.cas_script.specs.declared.refusal.Refusal.TheVariants as refusals
use Rattle.cas_script.specs.Text.{pieces, speaks}
use Rattle.cas_script.specs.Lines.{stored_by, IsLine, IsLineOf}
use Rattle.cas_script.specs.Grammar.{begins_session, ReadsLines}
use Rattle.cas_script.specs.FirstRefused.{IsRefusedLine}

-- the session of these lines
abbrev pub session_of : List Line → Session
session_of lines = record { lines = lines }

-- the last session has one line more, which has this word and these arguments
pub record Says (before : List Session) (verb : Verb) (arguments : List (List ℕ)) (after : List Session) : Type 0 where
  pub front : List Session
  pub lines : List Line
  pub added : Line
  pub was : before ≡ front ++ session_of lines ∷ []
  pub now : after ≡ front ++ session_of (lines ++ added ∷ []) ∷ []
  pub few : length lines < 65536
  pub is : IsLineOf (map stored_by lines) verb arguments added

-- the same for a line's text
pub record SaysLine (before : List Session) (text : List ℕ) (after : List Session) : Type 0 where
  pub said : speaks text ≡ true
  pub other : begins_session text ≡ false
  pub front : List Session
  pub lines : List Line
  pub added : Line
  pub was : before ≡ front ++ session_of lines ∷ []
  pub now : after ≡ front ++ session_of (lines ++ added ∷ []) ∷ []
  pub few : length lines < 65536
  pub is : IsLine (map stored_by lines) text added

-- there is one session more, with no line yet
pub record Begins (before after : List Session) : Type 0 where
  pub few : length before < 64
  pub now : after ≡ before ++ session_of [] ∷ []

-- what a line adds to the sessions before it
pub data Adds (before : List Session) (text : List ℕ) (after : List Session) : Type 0 where
  Silent : speaks text ≡ false → after ≡ before → Adds before text after
  Opens : speaks text ≡ true → begins_session text ≡ true → Begins before after → Adds before text after
  Speaks : SaysLine before text after → Adds before text after

-- the sessions that are ended, and the one that is read, if there is one
abbrev pub so_far : List Session → Bool → List Line → List Session
so_far ended false lines = ended
so_far ended true lines = ended ++ session_of lines ∷ []

-- the sessions that a parser has read
abbrev pub sessions_of : Parser → List Session
sessions_of p = so_far p.sessions.items p.has_session p.lines.items

-- the parser keeps the digests of what the lines of the session have stored, and no line before the first session
pub record IsWhole (p : Parser) : Type 0 where
  pub stored : p.stored.items ≡ map stored_by p.lines.items
  pub lines : p.has_session ≡ false → p.lines.items ≡ []
  pub sessions : p.has_session ≡ false → p.sessions.items ≡ []

-- the pieces before this number, counted from 1, have a reading, and that piece is refused
pub record IsRefusedPiece (text : List ℕ) (number : ℕ) (kind : LineKind) : Type 0 where
  pub before : List (List ℕ)
  pub line : List ℕ
  pub after : List (List ℕ)
  pub sessions : List Session
  pub parts : pieces 10 text ≡ before ++ line ∷ after
  pub place : number ≡ length before + 1
  pub reads : ReadsLines before sessions
  pub refused : IsRefusedLine sessions line kind

-- a refusal of the line with this number
abbrev pub error_at : ℕ → Refusal → ScriptError
error_at number (refusals.Kind kind) = errors.Line number kind
error_at number refusals.Memory = errors.Memory

-- why the pieces of a text are not read
abbrev pub IsStopped : List ℕ → ScriptError → Type 0
IsStopped text (errors.Line number kind) = IsRefusedPiece text number kind
IsStopped text errors.TooLong = ⊥
IsStopped text errors.Memory = Unit {0}
