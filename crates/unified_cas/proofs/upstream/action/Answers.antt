use Rattle.std.proofs.Common.{sym}
use Rattle.unified_cas.proofs.NoUpstream.{empty-key}
use Rattle.unified_cas.proofs.upstream.action.Goals as goal

pub returns-in-None : goal.returns-in-None
returns-in-None c = rw c.in-None.is (sym (empty-key _))
