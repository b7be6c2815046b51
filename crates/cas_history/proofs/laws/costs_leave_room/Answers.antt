use Rattle.cas_history.proofs.Costs.{full-never-comes}
use Rattle.cas_history.proofs.laws.costs_leave_room.Goals as goal

pub returns : goal.returns
returns c = full-never-comes
