-- it is not among the pairs so far
use Rattle.std.proofs.Common.{◌≡◌, drop}
use Rattle.std.specs.FinMap as fin
use Rattle.cas_model.specs.Contents.{actions_map}
use Rattle.cas_history.proofs.below.value_under.Given as goal

abbrev pub invariant-loop-pair : goal.invariant-loop-pair
invariant-loop-pair l = fin.get (actions_map (drop l.pair-index l.actions)) l.key ≡ fin.get (actions_map l.actions) l.key
