-- the counter is its own
use Rattle.port_tests.proofs.plain_tests.words_are_read_back.Given as goal

abbrev pub ghosts-record_words : goal.ghosts-record_words
ghosts-record_words g a = record { name = a.blank.name; parts = a.blank.parts }
