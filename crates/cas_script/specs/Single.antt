-- The script of one call.
use Rattle.std.specs.Prelude.{[], ◌∷◌}
use Rattle.cas_model.specs.declared.call.Call.{Call}
use Rattle.cas_model.specs.declared.call.Call.TheVariants as call
use Rattle.cas_script.specs.declared.script.Line.{Line}
use Rattle.cas_script.specs.declared.script.Line.TheVariants.{Store, Load, Put, Get}
use Rattle.cas_script.specs.declared.script.Script.{Script}
use Rattle.cas_script.specs.Limits.{FitsObject}
use Rattle.cas_script.specs.Parsing.{session_of}

-- the line that makes this call
abbrev pub call_line : Call → Line
call_line (call.Store o) = Store o.refs o.data
call_line (call.Load digest) = Load digest
call_line (call.Put key value) = Put key value
call_line (call.Get key) = Get key

-- one session with that line
abbrev pub single_script : Call → Script
single_script call = record { sessions = session_of (call_line call ∷ []) ∷ [] }

-- the call's object, if it has one, can be stored
abbrev pub FitsCall : Call → Type 0
FitsCall (call.Store o) = FitsObject o.refs o.data
FitsCall (call.Load digest) = Unit {0}
FitsCall (call.Put key value) = Unit {0}
FitsCall (call.Get key) = Unit {0}
