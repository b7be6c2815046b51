use Rattle.std.proofs.Common.{◌∙◌}
use Rattle.graph_db.proofs.Loaded.{ref-word, ref-whole, refs-more}
use Rattle.graph_db.proofs.Steps.{within}
use Rattle.graph_db.proofs.loading.read_refs.Goals as goal

pub word-at-requires : goal.word-at-requires
word-at-requires g c = ref-word _ _ _ c.loop-i.invariant.same c.requires.content _ (within c.requires.count c.loop-i-test.true)

pub record_digest-requires : goal.record_digest-requires
record_digest-requires g c = ref-whole _ _ _ c.loop-i.invariant.same c.requires.content _ _ _ c.word-at.ensures.same (within c.requires.count c.loop-i-test.true) c.word-at.ensures.word

pub loop-i-preserved : goal.loop-i-preserved
loop-i-preserved g c = record {
  same = c.record_digest.ensures.same ∙ c.word-at.ensures.same ∙ c.loop-i.invariant.same;
  read = refs-more _ _ _ c.loop-i.invariant.same c.requires.content _ _ _ _ _ _ c.word-at.ensures.same (within c.requires.count c.loop-i-test.true) c.word-at.ensures.word c.record_digest.ensures.digest
      c.loop-i.invariant.read c.in_ok-push.ensures.items;
}
