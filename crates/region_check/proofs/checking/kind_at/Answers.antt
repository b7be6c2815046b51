use Rattle.std.proofs.Common.{subst}
use Rattle.region_check.specs.declared.slot_flaws.Row.{Row}
use Rattle.region_check.specs.Passes.{RowOf, HasNoneBefore}
use Rattle.region_check.specs.Shown.{turn_of}
use Rattle.region_check.proofs.Ending.{differing_fits, differing}
use Rattle.region_check.proofs.checking.kind_at.Goals as goal

pub content_digest-requires-clause-fits : goal.content_digest-requires-clause-fits
content_digest-requires-clause-fits c =
    differing_fits c.args.words.now c.args.place c.word_at-content.result (subst (λ (r : Row). HasNoneBefore c.args.words.now (turn_of r)) c.in-Digest.is c.requires.none) (subst (λ (r : Row). RowOf c.args.words.now (turn_of r) c.args.place) c.in-Digest.is c.requires.here) c.word_at-content.ensures

pub returns-in-Digest-clause-kind : goal.returns-in-Digest-clause-kind
returns-in-Digest-clause-kind c =
    differing c.args.words.now c.args.place c.word_at-content.result c.record_digest.result c.content_digest.result (subst (λ (r : Row). RowOf c.args.words.now (turn_of r) c.args.place) c.in-Digest.is c.requires.here) c.word_at-content.ensures c.record_digest.ensures.fits c.record_digest.ensures.words c.content_digest.ensures
