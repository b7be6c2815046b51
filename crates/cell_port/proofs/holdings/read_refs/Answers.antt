use Rattle.std.proofs.Common.{◌++◌, ◌∷◌, [], sym, ◌∙◌}
use Rattle.cell_port.proofs.ReadBack.{bound-at, digests-more}
use Rattle.cell_port.proofs.holdings.read_refs.Goals as goal

pub digest_of_record-requires : goal.digest_of_record-requires
digest_of_record-requires c = bound-at c.args.tables.now.bound c.args.places.now c.loop-place.place-index c.loop-place-test.true c.requires

pub loop-place-preserved : goal.loop-place-preserved
loop-place-preserved c =
    c.in_ok-push.ensures.items
    ∙ (λ i. c.loop-place.invariant i ++ c.digest_of_record.ensures i ∷ [])
    ∙ sym (digests-more c.args.tables.now.bound c.args.places.now c.loop-place.place-index c.loop-place-test.true)
