use Rattle.std.proofs.Common.{take}
use Rattle.cas_model.specs.Primary.{primary}
use Rattle.frozen_store.proofs.Listings.{ArePairsOf}
use Rattle.frozen_store.proofs.frozen.Frozen.contents.Given as goal

abbrev pub invariant-loop-key : goal.invariant-loop-key
invariant-loop-key l = ArePairsOf (primary l.self.tables) (take l.key-index l.key-items) l.actions.items
