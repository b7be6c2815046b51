-- the counter of steps is the call's own
use Rattle.port_tests.proofs.action_tests.a_key_that_is_bound_and_not_filled_is_missed.Given as goal

abbrev pub ghosts-bind : goal.ghosts-bind
ghosts-bind g a = record { name = a.blank.name; parts = a.blank.parts }
