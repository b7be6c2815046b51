use Rattle.cas_history.proofs.Firsts.{bytes-more}
use Rattle.cas_history.proofs.reading.bytes_of_words.Goals as goal

-- the bytes of one more word
pub loop-word-preserved : goal.loop-word-preserved
loop-word-preserved c = let more = bytes-more c.args.words.now c.loop-word.word-index 0 c.loop-word-test.true in cc (c.in_ok-extend_from_slice.ensures.items, more, c.loop-word.invariant)
