-- it is not among the objects so far
use Rattle.std.proofs.Common.{◌≡◌, drop}
use Rattle.std.specs.FinMap as fin
use Rattle.cas_model.specs.Contents.{objects_map}
use Rattle.cas_history.proofs.below.object_under.Given as goal

abbrev pub invariant-loop-object : goal.invariant-loop-object
invariant-loop-object l = fin.get (objects_map (drop l.object-index l.objects)) l.digest ≡ fin.get (objects_map l.objects) l.digest
