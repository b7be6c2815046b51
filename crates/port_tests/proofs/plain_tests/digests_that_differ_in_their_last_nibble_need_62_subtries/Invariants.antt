-- the counter is its own
use Rattle.port_tests.proofs.plain_tests.digests_that_differ_in_their_last_nibble_need_62_subtries.Given as goal

abbrev pub ghosts-bind_two : goal.ghosts-bind_two
ghosts-bind_two g a = record { name = a.blank.name; parts = a.blank.parts }
