use Rattle.std.proofs.Common.{◌≡◌, ℕ, List, length, take, ap, ◌∙◌, ◌++◌, arith}
use Rattle.std.proofs.Math.Seq.{take-length}
use Rattle.cas_model.specs.Content.{bytes_of}
use Rattle.frozen_store.proofs.Readings.{bytes_more}
use Rattle.frozen_store.proofs.reading.bytes_at.Goals as goal

pub loop-word-preserved : goal.loop-word-preserved
loop-word-preserved c =
    bytes_more c.args.words.now c.loop-word.word-index c.loop-word.bytes.items c.extend_from_slice.new.self.items c.loop-word.invariant c.loop-word-test.true
    (c.in_ok-extend_from_slice.ensures.items ∙ ap (λ (bs : List ℕ). c.loop-word.bytes.items ++ bs) (c.as_slice.ensures ∙ c.to_le_bytes.ensures))

pub returns : goal.returns
returns c =
    let all : c.loop-word.word-index ≡ length c.args.words.now = omega (arith, c.loop-word-test.false, c.loop-word.auto.word-index-end) in
    c.truncate.ensures.items ∙ ap (take c.args.length) (c.loop-word.invariant ∙ ap (λ n. bytes_of (take n c.args.words.now)) all ∙ ap bytes_of (take-length c.args.words.now))
