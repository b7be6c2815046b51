use Rattle.std.proofs.Common.{length}
use Rattle.cas_model.specs.Content.{content_head}
use Rattle.cas_history.proofs.Checked.{content-more}
use Rattle.cas_history.proofs.lawful.content_of.Goals as goal

-- one more word of the data
pub loop-index-preserved : goal.loop-index-preserved
loop-index-preserved c =
    content-more (content_head (length c.args.places.now) (length c.args.data.now)) c.args.places.now c.args.data.now c.loop-index.words.items c.push-in-loop-index.new.self.items
    c.loop-index.index c.data_word.result c.in_ok-push-2.ensures.items c.loop-index.invariant c.data_word.ensures
