-- What is written of the replies to a script.
use Rattle.std.specs.Prelude.{◌≡◌, ℕ, ◌+◌, ◌*◌, List, [], ◌∷◌, ◌++◌, cond, codes, Some, None}
use Rattle.std.specs.declared.option.Option.{Option}
use Rattle.cas_model.specs.declared.call.Reply.{Reply}
use Rattle.cas_model.specs.declared.call.Reply.TheVariants.{Stored, Found, Missing, Kept, Hit, Miss, Dangling, Full}
use Rattle.cas_model.specs.declared.digest.Digest.{Digest}
use Rattle.cas_model.specs.declared.object.Object.{Object}
use Rattle.cas_model.specs.Id.{id_text}
use Rattle.cas_model.specs.Tables.{same_digest}
use Rattle.sessions.specs.declared.replies.Replies.{Replies}
use Rattle.cas_script.specs.declared.script.Line.{Line}
use Rattle.cas_script.specs.declared.script.Line.TheVariants.{Store, Load, Put, Get, Act}
use Rattle.cas_script.specs.declared.script.Script.{Script}
use Rattle.cas_script.specs.Parsing.{session_of}
use Rattle.sessions.specs.Rendering.{batch_text}
use Rattle.sessions.specs.Summary.{full_in, summary_text}
use Rattle.cas_command.specs.declared.answer.Answer.{Answer}
use Rattle.cas_command.specs.declared.answer.Answer.TheVariants as answer
use Rattle.command_line.specs.declared.command.Shows.{Shows}
use Rattle.command_line.specs.declared.command.Shows.TheVariants.{Data, References}
use Rattle.cas_command.specs.declared.output.Output.{Output}
use Rattle.cas_command.specs.declared.output.Output.TheVariants.{Text, Denied}
use Rattle.cas_command.specs.declared.work.Report.{Report}
use Rattle.cas_command.specs.declared.work.Report.TheVariants as report

-- ---- what a reply gives

-- an id, and a line end
abbrev pub id_line : Digest → List ℕ
id_line digest = id_text digest ++ 10 ∷ []

-- a line for each reference
abbrev pub ref_lines : List Digest → List ℕ
ref_lines [] = []
ref_lines (digest ∷ digests) = id_line digest ++ ref_lines digests

abbrev pub object_text : Shows → Object → List ℕ
object_text Data o = o.data
object_text References o = ref_lines o.refs

-- a put writes the value where it is the one that was given
abbrev pub kept_text : Digest → Digest → Option (List ℕ)
kept_text value kept = cond (same_digest value kept) (Some (codes "kept " ++ id_line kept)) None

-- the text that a reply to a line gives, where it gives one
abbrev pub text_of : Shows → Line → Reply → Option (List ℕ)
text_of shows (Store refs bytes) (Stored digest) = Some (id_line digest)
text_of shows (Load digest) (Found o) = Some (object_text shows o)
text_of shows (Put key value) (Kept kept) = kept_text value kept
text_of shows (Get key) (Hit value) = Some (id_line value)
text_of shows line reply = None

-- a put is refused where the key has another value
abbrev pub kept_refusal : Digest → Digest → Option Answer
kept_refusal value kept = cond (same_digest value kept) None (Some (answer.Poisoned value kept))

-- the answer that a reply to a line gives in place of a text
abbrev pub refusal_of : Line → Reply → Option Answer
refusal_of line (Full at asked size) = Some (answer.Full (record { at = at; asked = asked; size = size }))
refusal_of (Load digest) Missing = Some (answer.Missing digest)
refusal_of (Get key) Miss = Some (answer.Missing key)
refusal_of (Put key value) (Kept kept) = kept_refusal value kept
refusal_of (Put key value) (Dangling index digest) = Some (answer.Dangling index digest)
refusal_of (Store refs bytes) (Dangling index digest) = Some (answer.Dangling index digest)
refusal_of line reply = None

-- what a reply to a line gives
abbrev pub Gives : Shows → Line → Reply → Output → Type 0
Gives shows line reply (Text text) = text_of shows line reply ≡ Some text.items
Gives shows line reply (Denied given) = refusal_of line reply ≡ Some given

-- the script has one line, and these are the one reply to it and what that gives
pub record IsOutputOfOne (shows : Shows) (script : Script) (replies : Replies) (output : Output) : Type 0 where
  pub line : Line
  pub reply : Reply
  pub script_is : script.sessions ≡ session_of (line ∷ []) ∷ []
  pub replies_are : replies.sessions ≡ (record { replies = reply ∷ [] }) ∷ []
  pub gives : Gives shows line reply output

-- ---- the output

-- this text is written
abbrev pub IsText : List ℕ → Output → Type 0
IsText text (Text its) = its.items ≡ text
IsText text (Denied given) = ⊥

-- what the replies to a script give, with so many objects and actions at the end
abbrev pub Reports : Report → Script → Replies → ℕ → ℕ → Output → Type 0
Reports (report.Reply shows) script replies objects actions output = IsOutputOfOne shows script replies output
Reports report.Lines script replies objects actions output = IsText (batch_text script.sessions replies.sessions) output
Reports (report.Summary rounds) script replies objects actions output =
    IsText (summary_text rounds (8 * (4 + rounds)) (full_in script.sessions replies.sessions) objects actions) output

-- ---- on the way

-- a line of one call may have this reply
abbrev pub MayReply : Line → Reply → Type 0
MayReply (Act key refs bytes) reply = ⊥
MayReply line (Full at asked size) = Unit {0}
MayReply (Store refs bytes) (Stored digest) = Unit {0}
MayReply (Store refs bytes) (Dangling index digest) = Unit {0}
MayReply (Load digest) (Found o) = Unit {0}
MayReply (Load digest) Missing = Unit {0}
MayReply (Put key value) (Kept kept) = Unit {0}
MayReply (Put key value) (Dangling index digest) = Unit {0}
MayReply (Get key) (Hit value) = Unit {0}
MayReply (Get key) Miss = Unit {0}
MayReply line reply = ⊥

-- the script has one line of one call, and the replies are one, which that call may have
pub record IsOneReply (script : Script) (replies : Replies) : Type 0 where
  pub line : Line
  pub reply : Reply
  pub script_is : script.sessions ≡ session_of (line ∷ []) ∷ []
  pub replies_are : replies.sessions ≡ (record { replies = reply ∷ [] }) ∷ []
  pub may : MayReply line reply

-- so it is where one reply is reported
abbrev pub HasOneReply : Report → Script → Replies → Type 0
HasOneReply (report.Reply shows) script replies = IsOneReply script replies
HasOneReply report.Lines script replies = Unit {0}
HasOneReply (report.Summary rounds) script replies = Unit {0}
