-- Which script a text is.
use Rattle.std.specs.Prelude.{◌≡◌, ℕ, ◌≤◌, List, [], ◌∷◌, ◌++◌, length, map, Bool}
use Rattle.std.specs.List.{slice_split, filter}
use Rattle.std.specs.Str.{bytes_eq}
use Rattle.cas_script.specs.declared.script.Line.{Line}
use Rattle.cas_script.specs.declared.script.Session.{Session}
use Rattle.cas_script.specs.declared.script.Script.{Script}
use Rattle.cas_script.specs.Text.{lines_of, speaks}
use Rattle.cas_script.specs.Verbs.{session_word}
use Rattle.cas_script.specs.Lines.{IsLine, stored_by}

-- the line begins a session
abbrev pub begins_session : List ℕ → Bool
begins_session line = bytes_eq line session_word

-- the texts are these lines, one a line, after those before them in their session
abbrev pub AreLines : List Line → List (List ℕ) → List Line → Type 0
AreLines before [] [] = Unit {0}
AreLines before [] (line ∷ lines) = ⊥
AreLines before (text ∷ texts) [] = ⊥
AreLines before (text ∷ texts) (line ∷ lines) =
    IsLine (map stored_by before) text line × AreLines (before ++ line ∷ []) texts lines

-- the texts are the lines of this session, which are at most 65,536
pub record IsSession (texts : List (List ℕ)) (session : Session) : Type 0 where
  pub few : length texts ≤ 65536
  pub are : AreLines [] texts session.lines

-- the lists of texts are these sessions, one a session
abbrev pub AreSessions : List (List (List ℕ)) → List Session → Type 0
AreSessions [] [] = Unit {0}
AreSessions [] (session ∷ sessions) = ⊥
AreSessions (texts ∷ bodies) [] = ⊥
AreSessions (texts ∷ bodies) (session ∷ sessions) = IsSession texts session × AreSessions bodies sessions

-- The lines that say something, cut at each `session`: nothing stands before the first, and after it and each other stand
-- the lines of one of these sessions, which are at most 64.
pub record ReadsLines (texts : List (List ℕ)) (sessions : List Session) : Type 0 where
  pub bodies : List (List (List ℕ))
  pub parts : slice_split begins_session (filter speaks texts) ≡ [] ∷ bodies
  pub few : length bodies ≤ 64
  pub are : AreSessions bodies sessions

-- the text is this script
abbrev pub Reads : List ℕ → Script → Type 0
Reads text script = ReadsLines (lines_of text) script.sessions
