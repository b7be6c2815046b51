-- what the store leaves, as one call
use Rattle.std.proofs.Common.{sym, ◌∙◌}
use Rattle.unified_cas.proofs.StoresOver.{known-err, known-ok}
use Rattle.unified_cas.proofs.ReadingLemmas.{known-reads}
use Rattle.unified_cas.proofs.storing.store_object.Goals as goal

pub returns-then-has_object-clause-ok : goal.returns-then-has_object-clause-ok
returns-then-has_object-clause-ok g c = known-ok c.args.who c.args.refs.now _ c.args.«data».now (g.P.CellPort.view c.args.port.now) _ c.of-digest.ensures _ c.store_known.ensures.ok

pub returns-then-has_object-clause-err : goal.returns-then-has_object-clause-err
returns-then-has_object-clause-err g c = known-err c.args.who c.args.refs.now _ c.args.«data».now (g.P.CellPort.view c.args.port.now) _ c.of-digest.ensures _ c.store_known.ensures.err

pub store_new-requires-clause-lacks : goal.store_new-requires-clause-lacks
store_new-requires-clause-lacks g c = sym c.has_object.ensures ∙ c.if-has_object.false

pub returns-then-has_object-clause-reads : goal.returns-then-has_object-clause-reads
returns-then-has_object-clause-reads g c = known-reads c.args.who c.args.refs.now _ c.args.«data».now (g.P.CellPort.view c.args.port.now) _ c.of-digest.ensures _ c.store_known.ensures.reads
