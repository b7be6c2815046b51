-- What a command calls and shows.
use Rattle.std.specs.Prelude.{ℕ, List}
use Rattle.cas_model.specs.declared.call.Call.{Call}
use Rattle.cas_model.specs.declared.call.Call.TheVariants as call
use Rattle.command_line.specs.declared.command.Command.{Command}
use Rattle.command_line.specs.declared.command.Command.TheVariants.{Make, CatNodeData, LsNodeRefs, PutCacheKey, GetCacheResult}
use Rattle.command_line.specs.declared.command.Shows.{Shows}
use Rattle.command_line.specs.declared.command.Shows.TheVariants.{Data, References}

-- the one call of a command, with the data that the source gave
abbrev pub call_of : Command → List ℕ → Call
call_of (Make refs) bytes = call.Store (record { refs = refs; «data» = bytes })
call_of (CatNodeData digest) bytes = call.Load digest
call_of (LsNodeRefs digest) bytes = call.Load digest
call_of (PutCacheKey key value) bytes = call.Put key value
call_of (GetCacheResult key) bytes = call.Get key

-- what a command shows of an object that it loads
abbrev pub shown_by : Command → Shows
shown_by (LsNodeRefs digest) = References
shown_by (CatNodeData digest) = Data
shown_by (Make refs) = Data
shown_by (PutCacheKey key value) = Data
shown_by (GetCacheResult key) = Data
