use Rattle.std.proofs.Common.{◌≡◌, None}
use Rattle.store_tests.proofs.folder_tests.locked_with.Given as goal

-- no folder was asked for yet
abbrev pub invariant-loop-number : goal.invariant-loop-number
invariant-loop-number l = l.folder.asked ≡ None
