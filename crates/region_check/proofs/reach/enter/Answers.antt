use Rattle.region_check.proofs.Reaching.{entered_more}
use Rattle.region_check.proofs.reach.enter.Goals as goal

pub loop-index-preserved : goal.loop-index-preserved
loop-index-preserved c =
    entered_more c.args.words.now c.args.table c.loop-index.index c.args.marks.now c.loop-index.marks c.enter_slot.new.marks c.args.tables.now.items c.loop-index.tables.items c.enter_slot.new.tables.items c.requires.long c.loop-index.invariant c.in_ok-enter_slot.ensures
