use Rattle.std.proofs.Common.{length}
use Rattle.cas_outside.proofs.os_draft.Draft.write_all.Given as goal

abbrev pub decreases-loop-sink : goal.decreases-loop-sink
decreases-loop-sink l = length l.rest
