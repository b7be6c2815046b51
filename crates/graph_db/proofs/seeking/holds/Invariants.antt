-- the counter of steps is the call's own
use Rattle.graph_db.proofs.seeking.holds.Given as goal

abbrev pub ghosts-holds_counted : goal.ghosts-holds_counted
ghosts-holds_counted g a = record { name = a.blank.name; parts = a.blank.parts }
