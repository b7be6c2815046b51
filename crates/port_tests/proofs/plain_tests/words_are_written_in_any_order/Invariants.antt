use Rattle.std.proofs.Common.{◌≡◌, length}
use Rattle.port_tests.proofs.plain_tests.words_are_written_in_any_order.Given as goal

-- the block keeps its length
abbrev pub invariant-loop-index : goal.invariant-loop-index
invariant-loop-index g l = length l.words ≡ 6
