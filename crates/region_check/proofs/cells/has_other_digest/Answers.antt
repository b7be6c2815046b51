use Rattle.std.proofs.Common.{sym}
use Rattle.cas_model.specs.Object.{object_digest}
use Rattle.region_core.specs.Leads.{digest_there, object_there}
use Rattle.region_core.proofs.Reading.{digest_held-there}
use Rattle.region_check.proofs.Rows.{content_fits, differs}
use Rattle.region_check.proofs.cells.has_other_digest.Goals as goal

pub content_digest-found-requires-clause-fits : goal.content_digest-found-requires-clause-fits
content_digest-found-requires-clause-fits c = content_fits c.args.words.now c.args.owned.owner c.args.owned.place c.requires.none c.requires.reached

pub returns : goal.returns
returns c =
    differs c.record_digest-kept.result c.content_digest-found.result (digest_there c.args.words.now c.args.owned.owner) (object_digest (object_there c.args.words.now c.args.owned.place)) c.eq-same.result
    (sym (digest_held-there c.args.words.now c.record_digest-kept.result.bytes c.args.owned.owner c.record_digest-kept.ensures.fits c.record_digest-kept.ensures.words)) c.content_digest-found.ensures c.eq-same.ensures
