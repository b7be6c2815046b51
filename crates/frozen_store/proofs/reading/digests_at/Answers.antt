use Rattle.std.proofs.Common.{◌≡◌, length, take, ap, ◌∙◌, arith}
use Rattle.std.proofs.Math.Seq.{take-length}
use Rattle.region_core.specs.Leads.{digests_there}
use Rattle.frozen_store.proofs.Readings.{digests_more}
use Rattle.frozen_store.proofs.reading.digests_at.Goals as goal

pub record_digest-requires : goal.record_digest-requires
record_digest-requires c = c.requires c.loop-place.place-index c.loop-place-test.true

pub loop-place-preserved : goal.loop-place-preserved
loop-place-preserved c =
    digests_more c.args.words.now c.args.places.now c.loop-place.place-index c.loop-place.digests.items c.push.new.self.items c.record_digest.result c.loop-place.invariant c.loop-place-test.true c.record_digest.ensures.fits c.record_digest.ensures.words c.in_ok-push.ensures.items

pub returns : goal.returns
returns c =
    let all : c.loop-place.place-index ≡ length c.args.places.now = omega (arith, c.loop-place-test.false, c.loop-place.auto.place-index-end) in
    c.loop-place.invariant ∙ ap (λ n. digests_there c.args.words.now (take n c.args.places.now)) all ∙ ap (digests_there c.args.words.now) (take-length c.args.places.now)
