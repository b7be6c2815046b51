-- Lines that are counted one by one.
use Rattle.std.proofs.Common.{◌≡◌, ℕ, suc, ◌+◌, ◌≤◌, List, [], ◌∷◌, length, drop, refl, ap, ◌∙◌, arith, slice_get, Some}
use Rattle.std.proofs.lemmas.List.Sums.{count_by-le-length}
use Rattle.cas_model.specs.declared.call.Reply.{Reply}
use Rattle.sessions.specs.declared.replies.SessionReplies.{SessionReplies}
use Rattle.cas_script.specs.declared.script.Line.{Line}
use Rattle.cas_script.specs.declared.script.Session.{Session}
use Rattle.sessions.specs.Rendering.{own_count}
use Rattle.sessions.specs.Summary.{ends_full, replies_by_line, full_in_session, full_in}
use Rattle.sessions.proofs.LinesRun.{drop-at}

by-line-length : (lines : List Line) (replies : List Reply) → length (replies_by_line lines replies) ≡ length lines
by-line-length [] replies = refl
by-line-length (line ∷ lines) replies = ap suc (by-line-length lines (drop (own_count line replies) replies))

-- no more lines are counted than there are
pub full-few : (lines : List Line) (replies : List Reply) → full_in_session lines replies ≤ length lines
full-few lines replies =
    let few = count_by-le-length ends_full (replies_by_line lines replies) in
    let same = by-line-length lines replies in
    omega (arith, few, same)

-- the lines of one more session
pub full-next : (full own_full : ℕ) (number : ℕ) (sessions : List Session) (replies : List SessionReplies) (session : Session) (own : SessionReplies) (all : ℕ)
    → slice_get sessions number ≡ Some session → slice_get replies number ≡ Some own → own_full ≡ full_in_session session.lines own.replies
    → full + full_in (drop number sessions) (drop number replies) ≡ all → full + own_full + full_in (drop (suc number) sessions) (drop (suc number) replies) ≡ all
full-next full own_full number sessions replies session own all is its counts left =
    let first : full_in (drop number sessions) (drop number replies) ≡ full_in (session ∷ drop (suc number) sessions) (own ∷ drop (suc number) replies) =
    ap (λ (ss : List Session). full_in ss (drop number replies)) (drop-at sessions number session is)
    ∙ ap (λ (rs : List SessionReplies). full_in (session ∷ drop (suc number) sessions) rs) (drop-at replies number own its) in
    omega (arith, first, counts, left)
