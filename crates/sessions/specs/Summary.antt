-- What is counted of a script that was run, and the summary of a workload.
use Rattle.std.specs.Prelude.{ℕ, ◌+◌, ◌-◌, List, [], ◌∷◌, ◌++◌, Bool, true, false, Some, codes, decimal, take, drop, length, slice_get, count_by}
use Rattle.std.specs.declared.option.Option.{Option}
use Rattle.cas_model.specs.declared.call.Reply.{Reply}
use Rattle.cas_model.specs.declared.call.Reply.TheVariants.{Full}
use Rattle.sessions.specs.declared.replies.SessionReplies.{SessionReplies}
use Rattle.cas_script.specs.declared.script.Line.{Line}
use Rattle.cas_script.specs.declared.script.Session.{Session}
use Rattle.sessions.specs.Rendering.{own_count}

-- a reply that a claim was refused
abbrev pub is_full : Option Reply → Bool
is_full (Some (Full at asked size)) = true
is_full other = false

-- the last of these replies is one
abbrev pub ends_full : List Reply → Bool
ends_full replies = is_full (slice_get replies (length replies - 1))

-- the replies of each line, where these are the replies of all of them
abbrev pub replies_by_line : List Line → List Reply → List (List Reply)
replies_by_line [] replies = []
replies_by_line (line ∷ lines) replies =
    take (own_count line replies) replies ∷ replies_by_line lines (drop (own_count line replies) replies)

-- how many lines of a session have a last reply that a claim was refused
abbrev pub full_in_session : List Line → List Reply → ℕ
full_in_session lines replies = count_by ends_full (replies_by_line lines replies)

-- how many of all sessions, each with its own replies
abbrev pub full_in : List Session → List SessionReplies → ℕ
full_in (session ∷ sessions) (own ∷ replies) = full_in_session session.lines own.replies + full_in sessions replies
full_in sessions replies = 0

-- the summary of a workload of so many rounds
abbrev pub summary_text : ℕ → ℕ → ℕ → ℕ → ℕ → List ℕ
summary_text rounds lines full objects actions =
    codes "workload " ++ decimal rounds ++ codes ": sessions 8, lines " ++ decimal lines ++ codes ", full " ++ decimal full
    ++ codes ", objects " ++ decimal objects ++ codes ", actions " ++ decimal actions ++ 10 ∷ []
