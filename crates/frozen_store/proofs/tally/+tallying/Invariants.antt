use Rattle.std.proofs.Common.{◌+◌, ◌-◌, ◌*◌}
use Rattle.frozen_store.specs.Tallies.{TalliesBelow}
use Rattle.frozen_store.proofs.tally.+tallying.Given as goal

abbrev pub decreases-tally : goal.decreases-tally
decreases-tally l = 2 * (63 - l.level) + 1

abbrev pub decreases-tally_slot : goal.decreases-tally_slot
decreases-tally_slot l = 2 * (63 - l.level)

abbrev pub invariant-tally-loop-index : goal.invariant-tally-loop-index
invariant-tally-loop-index l = TalliesBelow l.words l.table l.slots l.index l.count
