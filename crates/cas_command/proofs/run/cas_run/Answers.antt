-- why the run gives its answer, which it gives where nothing fails, that it is not `Full` where there is room, and from which state to which
-- the history goes
use Rattle.cas_command.proofs.CompleteLemmas.{complete}
use Rattle.cas_command.proofs.HeadlineLemmas.{headline}
use Rattle.cas_command.proofs.RoomyLemmas.{roomy}
use Rattle.cas_command.proofs.RunLemmas.{because}
use Rattle.cas_command.proofs.run.cas_run.Goals as goal

pub returns-clause-because : goal.returns-clause-because
returns-clause-because g c =
    because c.args.words.now _ _ c.prepare-front.result.0 c.prepare-front.result.1 c.finish-answer.result c.prepare-front.ensures.ok c.prepare-front.ensures.err c.finish-answer.ensures

pub returns-clause-complete : goal.returns-clause-complete
returns-clause-complete g c =
    complete c.args.words.now _ _ c.prepare-front.result.0 c.finish-answer.result
    (because c.args.words.now _ _ c.prepare-front.result.0 c.prepare-front.result.1 c.finish-answer.result c.prepare-front.ensures.ok c.prepare-front.ensures.err c.finish-answer.ensures)

pub returns-clause-roomy : goal.returns-clause-roomy
returns-clause-roomy g c =
    roomy c.args.words.now _ _ c.prepare-front.result.0 c.finish-answer.result
    (because c.args.words.now _ _ c.prepare-front.result.0 c.prepare-front.result.1 c.finish-answer.result c.prepare-front.ensures.ok c.prepare-front.ensures.err c.finish-answer.ensures)

pub returns-clause-history : goal.returns-clause-history
returns-clause-history g c =
    headline c.args.words.now _ _ c.prepare-front.result.0 c.finish-answer.result
    (because c.args.words.now _ _ c.prepare-front.result.0 c.prepare-front.result.1 c.finish-answer.result c.prepare-front.ensures.ok c.prepare-front.ensures.err c.finish-answer.ensures)
