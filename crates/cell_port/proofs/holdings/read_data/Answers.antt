use Rattle.std.proofs.Common.{◌++◌, sym, ◌∙◌}
use Rattle.cell_port.proofs.ReadBack.{bytes-more}
use Rattle.cell_port.proofs.holdings.read_data.Goals as goal

pub loop-word-preserved : goal.loop-word-preserved
loop-word-preserved c =
    c.in_ok-extend_from_slice.ensures.items
    ∙ (λ i. c.loop-word.invariant i ++ c.to_le_bytes.ensures i)
    ∙ sym (bytes-more c.args.words.now c.loop-word.word-index c.loop-word-test.true)
