use Rattle.std.proofs.Common.{refl}
use Rattle.cas_history.proofs.Ended.{end-is-start, empty-start}
use Rattle.cas_history.proofs.laws.ends_are_starts.Goals as goal

pub returns-clause-ends : goal.returns-clause-ends
returns-clause-ends c = end-is-start

pub returns-clause-same : goal.returns-clause-same
returns-clause-same c = λ s. refl

pub returns-clause-empty : goal.returns-clause-empty
returns-clause-empty c = empty-start

pub returns-clause-nothing : goal.returns-clause-nothing
returns-clause-nothing c = λ size. refl
