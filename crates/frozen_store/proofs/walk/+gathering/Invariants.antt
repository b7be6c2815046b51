use Rattle.std.proofs.Common.{◌+◌, ◌-◌, ◌*◌}
use Rattle.frozen_store.specs.Gathers.{GathersBelow}
use Rattle.frozen_store.proofs.walk.+gathering.Given as goal

abbrev pub decreases-gather : goal.decreases-gather
decreases-gather l = 2 * (63 - l.level) + 1

abbrev pub decreases-gather_slot : goal.decreases-gather_slot
decreases-gather_slot l = 2 * (63 - l.level)

abbrev pub invariant-gather-loop-index : goal.invariant-gather-loop-index
invariant-gather-loop-index l = GathersBelow l.words l.table l.slots l.index l.fn.found.items l.found.items
