use Rattle.std.proofs.Common.{◌∙◌, arith}
use Rattle.std.proofs.lemmas.Option.{slice_get-get_or}
use Rattle.graph_db.proofs.Written.{ref-bound, write-head, write-opened, ref-opened, write-ref, write-data, write-done}
use Rattle.graph_db.proofs.Steps.{lawful-then}
use Rattle.graph_db.proofs.storing.write_content.Goals as goal

pub loop-i-init : goal.loop-i-init
loop-i-init g c = record {
  writes = write-head _ _ _ _ _ c.requires.length _ c.requires.opened (rw c.head_word.ensures at c.write.ensures.wrote);
  lawful = c.write.ensures.lawful;
  same = c.write.ensures.block;
}

pub look_again-requires-clause-bound : goal.look_again-requires-clause-bound
look_again-requires-clause-bound g c =
    ref-bound _ _ _ _ _ _ _ c.requires.speaks c.requires.refs c.loop-i.invariant.lawful c.loop-i.invariant.writes _ _ (slice_get-get_or _ _ _ c.loop-i-test.true)

pub write-requires-in-loop-i-clause-opened : goal.write-requires-in-loop-i-clause-opened
write-requires-in-loop-i-clause-opened g c =
    rw c.loop-i.invariant.same (ref-opened _ _ _ _ _ c.requires.length _ _ _ _ _ c.requires.speaks c.requires.refs (slice_get-get_or _ _ _ c.loop-i-test.true) c.loop-i.invariant.lawful
    c.in_ok-place.ensures.ok c.loop-i.invariant.writes)

pub loop-i-preserved : goal.loop-i-preserved
loop-i-preserved g c = record {
  writes = write-ref _ _ _ _ _ c.requires.length _ _ _ _ _ _ c.requires.speaks c.requires.refs (slice_get-get_or _ _ _ c.loop-i-test.true) c.loop-i.invariant.lawful c.look_again.ensures.lawful
      c.in_ok-place.ensures.ok c.loop-i.invariant.writes (rw c.loop-i.invariant.same at c.write-in-loop-i.ensures.wrote);
  lawful = lawful-then _ _ _ c.loop-i.invariant.lawful (lawful-then _ _ _ c.look_again.ensures.lawful c.write-in-loop-i.ensures.lawful);
  same = c.write-in-loop-i.ensures.block ∙ c.loop-i.invariant.same;
}

pub write-requires-in-loop-index-clause-opened : goal.write-requires-in-loop-index-clause-opened
write-requires-in-loop-index-clause-opened g c = rw c.loop-index.invariant.same (write-opened _ _ _ _ _ c.requires.length _ _ c.loop-index.invariant.writes)

pub loop-index-preserved : goal.loop-index-preserved
loop-index-preserved g c = record {
  writes = write-data _ _ _ _ _ c.requires.length _ _ _ (omega arith) c.loop-index.invariant.writes (rw (c.loop-index.invariant.same, c.data_word.ensures) at c.write-in-loop-index.ensures.wrote);
  lawful = lawful-then _ _ _ c.loop-index.invariant.lawful c.write-in-loop-index.ensures.lawful;
  same = c.write-in-loop-index.ensures.block ∙ c.loop-index.invariant.same;
}

pub returns-clause-ok : goal.returns-clause-ok
returns-clause-ok g c = write-done _ _ _ _ _ c.requires.length _ _ (omega arith) c.loop-index.invariant.writes
