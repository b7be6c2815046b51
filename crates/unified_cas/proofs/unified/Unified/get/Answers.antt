-- what the get leaves, as its reply
use Rattle.unified_cas.proofs.UnderWay.{answered-ok, answered-err}
use Rattle.unified_cas.proofs.unified.Unified.get.Goals as goal

pub returns-clause-answered : goal.returns-clause-answered
returns-clause-answered g c = answered-ok _ _ _ _ c.get_value.result _ c.get_value.ensures.ok c.get_value.ensures.err c.answered.ensures

pub returns-clause-memory : goal.returns-clause-memory
returns-clause-memory g c = answered-err _ _ _ _ c.get_value.result _ c.get_value.ensures.err c.answered.ensures
