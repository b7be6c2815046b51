use Rattle.std.specs.BTreeSet.{contains}
use Rattle.cas_model.specs.State.{digest_cmp}
use Rattle.cas_bench.specs.Samples.{IsSample}
use Rattle.cas_bench.proofs.sample.large_contents_of.Given as goal

abbrev pub invariant-loop-number : goal.invariant-loop-number
invariant-loop-number l = IsSample (contains digest_cmp l.known) l.objects.items
