-- Texts that are written piece by piece.
use Rattle.std.proofs.Common.{◌≡◌, ℕ, suc, ◌≤◌, List, [], ◌∷◌, ◌++◌, length, drop, slice_get, Some, ap, sym, ◌∙◌, subst, append_assoc, append-nil}
use Rattle.cas_model.specs.declared.call.Reply.{Reply}
use Rattle.cas_model.specs.declared.digest.Digest.{Digest}
use Rattle.cas_script.specs.declared.script.Line.{Line}
use Rattle.sessions.specs.Rendering.{refs_text, front_text, line_text, lines_text, own_count}
use Rattle.sessions.proofs.LinesRun.{drop-at, drop-all}

-- one more piece is written
piece : (text new piece rest all : List ℕ) → text ++ (piece ++ rest) ≡ all → new ≡ text ++ piece → new ++ rest ≡ all
piece text new piece_ rest all left is = ap (λ (t : List ℕ). t ++ rest) is ∙ append_assoc text piece_ rest ∙ left

done : (text rest all : List ℕ) → text ++ rest ≡ all → rest ≡ [] → text ≡ all
done text rest all left none = sym (append-nil text) ∙ ap (λ (r : List ℕ). text ++ r) (sym none) ∙ left

pub refs-done : (text all : List ℕ) (refs : List Digest) (i : ℕ) → length refs ≤ i → text ++ refs_text (drop i refs) ≡ all → text ≡ all
refs-done text all refs i past left = done text (refs_text (drop i refs)) all left (ap refs_text (drop-all refs i past))

-- the texts of the lines from this index on
abbrev pub left_text : ℕ → ℕ → List Line → List Reply → List ℕ
left_text session i lines replies = lines_text session (suc i) (drop i lines) replies

pub lines-next : (text one two new all : List ℕ) (session i : ℕ) (lines : List Line) (replies : List Reply) (line : Line) → slice_get lines i ≡ Some line → text ++ left_text session i lines replies ≡ all
    → one ≡ text ++ front_text session (suc i) → two ≡ one ++ line_text line replies → new ≡ two ++ 10 ∷ []
    → new ++ left_text session (suc i) lines (drop (own_count line replies) replies) ≡ all
lines-next text one two new all session i lines replies line is left first second third =
    let rest : List ℕ = left_text session (suc i) lines (drop (own_count line replies) replies) in
    let whole : text ++ (front_text session (suc i) ++ line_text line replies ++ 10 ∷ rest) ≡ all = subst (λ (ls : List Line). text ++ lines_text session (suc i) ls replies ≡ all) (drop-at lines i line is) left in
    let at_first : one ++ (line_text line replies ++ 10 ∷ rest) ≡ all =
    piece text one (front_text session (suc i)) (line_text line replies ++ 10 ∷ rest) all (ap (λ (t : List ℕ). text ++ t) (sym (append_assoc (front_text session (suc i)) (line_text line replies) (10 ∷ rest))) ∙ whole) first in
    let at_second : two ++ (10 ∷ rest) ≡ all = piece one two (line_text line replies) (10 ∷ rest) all at_first second in
    piece two new (10 ∷ []) rest all at_second third
