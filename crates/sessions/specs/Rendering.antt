-- The output of a batch: one line for each line of its script, by what the line was answered.
use Rattle.std.specs.Prelude.{ℕ, suc, List, [], ◌∷◌, ◌++◌, cond, codes, drop, decimal}
use Rattle.hex.specs.Hex.{encode_lower}
use Rattle.cas_model.specs.declared.call.Reply.{Reply}
use Rattle.cas_model.specs.declared.call.Reply.TheVariants.{Stored, Found, Missing, Kept, Hit, Miss, Dangling, Full}
use Rattle.cas_model.specs.declared.digest.Digest.{Digest}
use Rattle.cas_model.specs.declared.object.Object.{Object}
use Rattle.cas_model.specs.Id.{id_text}
use Rattle.cas_model.specs.Tables.{same_digest}
use Rattle.sessions.specs.declared.replies.SessionReplies.{SessionReplies}
use Rattle.cas_script.specs.declared.script.Line.{Line}
use Rattle.cas_script.specs.declared.script.Line.TheVariants.{Store, Load, Put, Get, Act}
use Rattle.cas_script.specs.declared.script.Session.{Session}

-- ---- pieces

-- a word and an id
abbrev pub named : List ℕ → Digest → List ℕ
named word digest = word ++ id_text digest

-- `-` for no data, else `x:` and its bytes in lower-case hexadecimal digits
abbrev pub data_text : List ℕ → List ℕ
data_text [] = codes "-"
data_text (byte ∷ bytes) = codes "x:" ++ encode_lower (byte ∷ bytes)

-- a space and an id for each reference
abbrev pub refs_text : List Digest → List ℕ
refs_text [] = []
refs_text (digest ∷ digests) = named (codes " ") digest ++ refs_text digests

abbrev pub found_text : Object → List ℕ
found_text o = codes "found " ++ data_text o.data ++ refs_text o.refs

-- the key has the value that it was to have, or another one
abbrev pub put_text : List ℕ → Digest → Digest → List ℕ
put_text word wanted kept = cond (same_digest wanted kept) (named word kept) (named (codes "poisoned ") wanted ++ named (codes " ") kept)

-- ---- what a line was answered

-- a reply that any call may have
abbrev pub refused_text : Reply → List ℕ
refused_text (Dangling index digest) = codes "dangling " ++ decimal index ++ named (codes " ") digest
refused_text (Full at asked size) = codes "full " ++ decimal at ++ codes " " ++ decimal asked ++ codes " " ++ decimal size
-- no other reply is given to any call
refused_text reply = []

-- the reply to a put of this value
abbrev pub put_reply_text : List ℕ → Digest → Reply → List ℕ
put_reply_text word wanted (Kept kept) = put_text word wanted kept
put_reply_text word wanted reply = refused_text reply

-- a line of one call
abbrev pub once_text : Line → Reply → List ℕ
once_text (Store refs bytes) (Stored digest) = named (codes "stored ") digest
once_text (Load digest) (Found o) = found_text o
once_text (Load digest) Missing = codes "missing"
once_text (Put key value) reply = put_reply_text (codes "kept ") value reply
once_text (Get key) (Hit value) = named (codes "hit ") value
once_text (Get key) Miss = codes "miss"
once_text line reply = refused_text reply

-- an action that missed its key: the reply to its store, and after a stored object that to its put
abbrev pub made_text : List Reply → List ℕ
made_text (Stored digest ∷ reply ∷ replies) = put_reply_text (codes "made ") digest reply
made_text (reply ∷ replies) = refused_text reply
made_text [] = []

-- an action: the reply to its get, and those after it
abbrev pub act_text : Reply → List Reply → List ℕ
act_text (Hit value) replies = named (codes "hit ") value
act_text Miss replies = made_text replies
act_text reply replies = refused_text reply

-- a line, by the first of these replies
abbrev pub line_text : Line → List Reply → List ℕ
line_text line [] = []
line_text (Act key refs bytes) (reply ∷ replies) = act_text reply replies
line_text line (reply ∷ replies) = once_text line reply

-- how many replies an action has after a miss
abbrev pub made_count : List Reply → ℕ
made_count (Stored digest ∷ replies) = 2
made_count replies = 1

-- how many of these replies are the action's
abbrev pub act_count : List Reply → ℕ
act_count (Miss ∷ replies) = suc (made_count replies)
act_count replies = 1

-- how many of these replies are the line's
abbrev pub own_count : Line → List Reply → ℕ
own_count (Act key refs bytes) replies = act_count replies
own_count line replies = 1

-- ---- the batch

-- the numbers of a session and of a line in it
abbrev pub front_text : ℕ → ℕ → List ℕ
front_text session number = decimal session ++ codes "." ++ decimal number ++ codes " "

-- the lines of a session from the one with this number on, each with the first of the replies that are left
abbrev pub lines_text : ℕ → ℕ → List Line → List Reply → List ℕ
lines_text session number [] replies = []
lines_text session number (line ∷ lines) replies =
    front_text session number ++ line_text line replies ++ 10 ∷ lines_text session (suc number) lines (drop (own_count line replies) replies)

-- the sessions from the one with this number on, each with its own replies. Sessions are numbered from 0, their lines from 1
abbrev pub sessions_text : ℕ → List Session → List SessionReplies → List ℕ
sessions_text number (session ∷ sessions) (own ∷ replies) =
    lines_text number 1 session.lines own.replies ++ sessions_text (suc number) sessions replies
sessions_text number sessions replies = []

abbrev pub batch_text : List Session → List SessionReplies → List ℕ
batch_text sessions replies = sessions_text 0 sessions replies
