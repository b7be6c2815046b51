use Rattle.std.proofs.Common.{◌∙◌, arith}
use Rattle.graph_db.proofs.Loaded.{content-word, data-word, data-more, data-done}
use Rattle.graph_db.proofs.loading.read_data.Goals as goal

pub word-requires : goal.word-requires
word-requires g c =
    content-word _ _ _ c.loop-i.invariant.same c.requires.content _ (data-word _ _ _ c.loop-i.invariant.same c.requires.content _ _ _ c.requires.begin c.requires.size (omega arith))

pub loop-i-preserved : goal.loop-i-preserved
loop-i-preserved g c = record {
  same = c.word.ensures.same ∙ c.loop-i.invariant.same;
  read = data-more _ _ _ c.loop-i.invariant.same c.requires.content _ _ _ _ _ _ c.requires.begin c.requires.size (omega arith) c.word.ensures.word c.loop-i.invariant.read
      (rw c.to_le_bytes.ensures at c.in_ok-extend_from_slice.ensures.items);
}

pub returns-clause-ok : goal.returns-clause-ok
returns-clause-ok g c =
    data-done (g.P.CellPort.view c.args.port.now) c.args.content _ _ _ _ _ c.requires.content c.requires.begin c.requires.size (omega arith) c.loop-i.invariant.read (c.from_vec.ensures ∙ c.truncate.ensures.items)
