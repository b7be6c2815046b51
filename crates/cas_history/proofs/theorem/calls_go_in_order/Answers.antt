use Rattle.cas_history.proofs.Indexes.{count-up, in-order, order-counts}
use Rattle.cas_history.proofs.theorem.calls_go_in_order.Goals as goal

pub returns-clause-count : goal.returns-clause-count
returns-clause-count c = count-up

pub returns-clause-events : goal.returns-clause-events
returns-clause-events c = in-order

pub returns-clause-same : goal.returns-clause-same
returns-clause-same c = order-counts
