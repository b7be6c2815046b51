use Rattle.std.proofs.Common.{refl}
use Rattle.unified_cas.proofs.NoUpstream.{empty-has}
use Rattle.unified_cas.proofs.upstream.bring_tree.Goals as goal

pub returns-in-None-clause-lacks : goal.returns-in-None-clause-lacks
returns-in-None-clause-lacks g c = rw c.in-None.is ((λ told. empty-has _), (λ lacks. refl))
