use Rattle.unified_cas.proofs.NoUpstream.{empty-closed}
use Rattle.unified_cas.proofs.upstream.closed.Goals as goal

pub returns-in_default : goal.returns-in_default
returns-in_default c = rw c.in_default.is empty-closed
