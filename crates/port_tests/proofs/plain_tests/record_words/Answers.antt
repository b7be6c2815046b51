-- the record is bound, so its words are there
use Rattle.std.proofs.Common.{inl}
use Rattle.graph_db.proofs.Sought.{looked-record}
use Rattle.port_tests.proofs.plain_tests.record_words.Goals as goal

pub words_at-requires : goal.words_at-requires
words_at-requires g c i lt = inl (looked-record _ _ _ _ _ c.in_ok-place.ensures.lawful (rw c.in-Some.is at c.in_ok-place.ensures.looked), lt)
