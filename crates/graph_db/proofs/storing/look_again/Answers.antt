use Rattle.graph_db.proofs.Sought.{look-bound}
use Rattle.graph_db.proofs.storing.look_again.Goals as goal

pub unreachable-requires : goal.unreachable-requires
unreachable-requires g c = look-bound _ _ _ _ c.requires.speaks c.in_ok-place.ensures.lawful (rw c.in-None.is at c.in_ok-place.ensures.looked) c.requires.bound
