use Rattle.std.proofs.Common.{◌≡◌, ◌++◌, take, ap, ◌∙◌, arith, length}
use Rattle.std.proofs.Math.Seq.{take-length}
use Rattle.cas_model.specs.Content.{data_words}
use Rattle.region_core.proofs.Pushing.{data_more, length-data_words}
use Rattle.region_core.proofs.building.push_data.Goals as goal

pub loop-index-preserved : goal.loop-index-preserved
loop-index-preserved c =
    data_more c.args.words.now.items c.loop-index.words.items c.push.new.self.items c.args.bytes.now c.loop-index.index c.data_word.result c.loop-index.invariant
    (omega (arith, c.loop-index-test.true, c.div_ceil-index-end.ensures)) c.data_word.ensures c.in_ok-push.ensures.items

pub returns-clause-words : goal.returns-clause-words
returns-clause-words c =
    let all : c.loop-index.index ≡ length (data_words c.args.bytes.now) = omega (arith, c.loop-index-test.false, c.loop-index.auto.index-end, c.div_ceil-index-end.ensures, length-data_words c.args.bytes.now) in
    c.loop-index.invariant ∙ ap (λ n. c.args.words.now.items ++ take n (data_words c.args.bytes.now)) all ∙ ap (λ ws. c.args.words.now.items ++ ws) (take-length (data_words c.args.bytes.now))

pub returns-clause-fits : goal.returns-clause-fits
returns-clause-fits c = λ i. let h = c.type_inv.bytes i in omega (arith, h)
