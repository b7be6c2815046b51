-- the counter of steps is the call's own
use Rattle.graph_db.proofs.loading.load.Given as goal

abbrev pub ghosts-load_counted : goal.ghosts-load_counted
ghosts-load_counted g a = record { name = a.blank.name; parts = a.blank.parts }
