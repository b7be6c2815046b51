use Rattle.cas_history.proofs.Firsts.{digests-more}
use Rattle.cas_history.proofs.Checked.{record-there}
use Rattle.cas_history.proofs.rows.Rows.digests_at.Goals as goal

-- the digest of one more place
pub loop-place-preserved : goal.loop-place-preserved
loop-place-preserved c =
    let more = digests-more c.args.self.now.bound c.args.places.now c.loop-place.place-index 0 c.loop-place-test.true in
    cc (c.in_ok-push.ensures.items, c.digest_there.ensures, more, c.loop-place.invariant)

-- each of the places has a record
pub digest_there-requires : goal.digest_there-requires
digest_there-requires c = record-there c.args.self.now c.args.places.now c.loop-place.place-index 0 c.requires c.loop-place-test.true
