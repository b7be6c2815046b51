use Rattle.std.proofs.Common.{◌≡◌, map}
use Rattle.std.specs.Map.Iter.{deref}
use Rattle.cas_outside.proofs.FileTable.{names_of}
use Rattle.cas_outside.proofs.file_table.FileTable.names.Given as goal

-- the names of the keys so far
abbrev pub invariant-loop-name : goal.invariant-loop-name
invariant-loop-name l = l.names.items ≡ names_of (map deref l.yielded)
