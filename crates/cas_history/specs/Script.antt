-- The calls of a session's lines: what comes next, after the replies so far.
use Rattle.std.specs.Prelude.{◌≡◌, List, [], ◌∷◌, Some, None}
use Rattle.std.specs.declared.option.Option.{Option}
use Rattle.cas_model.specs.declared.call.Call.{Call}
use Rattle.cas_model.specs.declared.call.Call.TheVariants.{Store, Put, Get}
use Rattle.cas_model.specs.declared.call.Reply.{Reply}
use Rattle.cas_model.specs.declared.call.Reply.TheVariants.{Stored, Miss}
use Rattle.cas_model.specs.declared.digest.Digest.{Digest}
use Rattle.cas_model.specs.declared.object.Object.{Object}
use Rattle.cas_model.specs.Object.{object_digest}
use Rattle.cas_model.specs.Step.{Entry}

-- a line of a session: one call, or an action, which gets its key, and after a miss stores its object and puts the key
pub data Line : Type 0 where
  Once : Call → Line
  Action : Digest → Object → Line

-- where a session stands: before these lines, at the store of an action, or at the put of an action
pub data At : Type 0 where
  Before : List Line → At
  Missed : Digest → Object → List Line → At
  Brought : Digest → Digest → List Line → At

-- the call that comes next, or none at the end
abbrev pub call_at : At → Option Call
call_at (Before []) = None
call_at (Before (Once call ∷ lines)) = Some call
call_at (Before (Action k o ∷ lines)) = Some (Get k)
call_at (Missed k o lines) = Some (Store o)
call_at (Brought k d lines) = Some (Put k d)

-- where it stands after the reply: any reply but a miss, and then a stored object, ends an action
abbrev pub moved : At → Reply → At
moved (Before []) reply = Before []
moved (Before (Once call ∷ lines)) reply = Before lines
moved (Before (Action k o ∷ lines)) Miss = Missed k o lines
moved (Before (Action k o ∷ lines)) reply = Before lines
moved (Missed k o lines) (Stored d) = Brought k d lines
moved (Missed k o lines) reply = Before lines
moved (Brought k d lines) reply = Before lines

-- where a session of these lines stands after these entries, the newest first
abbrev pub at_after : List Line → List Entry → At
at_after lines [] = Before lines
at_after lines (entry ∷ earlier) = moved (at_after lines earlier) entry.reply

-- each entry's call is the one that comes next after the replies before it
abbrev pub Follows : List Line → List Entry → Type 0
Follows lines [] = Unit {0}
Follows lines (entry ∷ earlier) = Follows lines earlier × (call_at (at_after lines earlier) ≡ Some entry.call)

-- no call comes after these entries
abbrev pub IsComplete : List Line → List Entry → Type 0
IsComplete lines entries = call_at (at_after lines entries) ≡ None

-- all calls that these lines may make, of which the cost of a script is the sum
abbrev pub calls_of : List Line → List Call
calls_of [] = []
calls_of (Once call ∷ lines) = call ∷ calls_of lines
calls_of (Action k o ∷ lines) = Get k ∷ Store o ∷ Put k (object_digest o) ∷ calls_of lines
