use Rattle.cas_outside.specs.OsFiles.{ListsFreeNames}
use Rattle.cas_outside.proofs.os_files.list_names.Given as goal

-- the names so far are none of the folder's own
abbrev pub invariant-loop-entry : goal.invariant-loop-entry
invariant-loop-entry g l = ListsFreeNames l.names.items
