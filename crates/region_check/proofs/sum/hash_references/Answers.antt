use Rattle.std.proofs.Common.{subst}
use Rattle.sha2.specs.Hashers.{Holds256}
use Rattle.region_check.proofs.Summing.{refs_more}
use Rattle.region_check.proofs.sum.hash_references.Goals as goal

pub loop-place-preserved : goal.loop-place-preserved
loop-place-preserved c =
    λ m held. subst (Holds256 c.update.new.self) (refs_more c.args.words.now c.args.places.now m c.loop-place.place-index c.record_digest.result c.loop-place-test.true c.record_digest.ensures.fits c.record_digest.ensures.words) (c.update.ensures _ (c.loop-place.invariant m held))
