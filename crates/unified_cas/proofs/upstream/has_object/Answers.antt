use Rattle.std.proofs.Common.{◌∙◌, sym}
use Rattle.unified_cas.proofs.NoUpstream.{empty-has}
use Rattle.unified_cas.proofs.UnderWay.{has-told}
use Rattle.unified_cas.proofs.upstream.has_object.Goals as goal

pub returns-in-None : goal.returns-in-None
returns-in-None c = rw c.in-None.is (sym (empty-has _))

pub returns-in-Some : goal.returns-in-Some
returns-in-Some c = rw c.in-Some.is (c.is_some.ensures ∙ has-told _ _ _ c.seen.ensures c.content_place.ensures)
