use Rattle.std.proofs.Common.{◌∙◌, arith, refl}
use Rattle.fault_in.proofs.Written.{write-head, write-opened, write-place, write-data, write-done}
use Rattle.graph_db.proofs.Steps.{lawful-then}
use Rattle.fault_in.proofs.writing.write_content.Goals as goal

pub loop-i-init : goal.loop-i-init
loop-i-init g c = record {
  words = write-head _ _ _ _ _ c.requires.length _ c.requires.opened (rw c.head_word.ensures at c.write.ensures.wrote);
  lawful = c.write.ensures.lawful;
  same = c.write.ensures.block;
}

pub write-requires-in-loop-i-clause-opened : goal.write-requires-in-loop-i-clause-opened
write-requires-in-loop-i-clause-opened g c = rw c.loop-i.invariant.same (write-opened _ _ _ _ _ c.requires.length _ _ c.loop-i.invariant.words)

pub loop-i-preserved : goal.loop-i-preserved
loop-i-preserved g c = record {
  words = write-place _ _ _ _ _ c.requires.length _ _ _ _ (omega arith) refl c.loop-i.invariant.words (rw c.loop-i.invariant.same at c.write-in-loop-i.ensures.wrote);
  lawful = lawful-then _ _ _ c.loop-i.invariant.lawful c.write-in-loop-i.ensures.lawful;
  same = c.write-in-loop-i.ensures.block ∙ c.loop-i.invariant.same;
}

pub write-requires-in-loop-index-clause-opened : goal.write-requires-in-loop-index-clause-opened
write-requires-in-loop-index-clause-opened g c = rw c.loop-index.invariant.same (write-opened _ _ _ _ _ c.requires.length _ _ c.loop-index.invariant.words)

pub loop-index-preserved : goal.loop-index-preserved
loop-index-preserved g c = record {
  words = write-data _ _ _ _ _ c.requires.length _ _ _ (omega arith) c.loop-index.invariant.words (rw (c.loop-index.invariant.same, c.data_word.ensures) at c.write-in-loop-index.ensures.wrote);
  lawful = lawful-then _ _ _ c.loop-index.invariant.lawful c.write-in-loop-index.ensures.lawful;
  same = c.write-in-loop-index.ensures.block ∙ c.loop-index.invariant.same;
}

pub returns-clause-words : goal.returns-clause-words
returns-clause-words g c = write-done _ _ _ _ _ c.requires.length _ _ (omega arith) c.loop-index.invariant.words
