-- what the put leaves, as its reply
use Rattle.unified_cas.proofs.UnderWay.{answered-ok, answered-err}
use Rattle.unified_cas.proofs.unified.Unified.put.Goals as goal

pub returns-clause-answered : goal.returns-clause-answered
returns-clause-answered g c = answered-ok _ _ _ _ c.put_value.result _ c.put_value.ensures.ok c.put_value.ensures.err c.answered.ensures

pub returns-clause-memory : goal.returns-clause-memory
returns-clause-memory g c = answered-err _ _ _ _ c.put_value.result _ c.put_value.ensures.err c.answered.ensures
