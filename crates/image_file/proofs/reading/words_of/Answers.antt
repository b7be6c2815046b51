use Rattle.image_file.proofs.ImageLemmas.{word-more}
use Rattle.image_file.proofs.reading.words_of.Goals as goal

pub loop-index-preserved : goal.loop-index-preserved
loop-index-preserved c = word-more c.loop-index.words.items c.push.new.self.items c.args.bytes.now c.loop-index.index c.data_word.result c.loop-index.invariant c.data_word.ensures c.in_ok-push.ensures.items
