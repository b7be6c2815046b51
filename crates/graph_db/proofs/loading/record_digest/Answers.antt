use Rattle.std.proofs.Common.{◌∙◌}
use Rattle.cas_port.specs.View.{tables}
use Rattle.graph_db.proofs.Loaded.{record-step}
use Rattle.graph_db.proofs.loading.record_digest.Goals as goal

pub loop-i-preserved : goal.loop-i-preserved
loop-i-preserved g c =
    let word = rw c.loop-i.invariant.same at c.word.ensures.word in
    let step = record-step (tables (g.P.CellPort.view c.args.port.now)) c.args.record_.at c.loop-i.i c.word.result c.loop-i.bytes c.copy_from_slice.new.self c.requires c.loop-i-test.true c.loop-i.invariant.long
    c.loop-i.invariant.read word.of_record (c.copy_from_slice.ensures.after ∙ c.to_be_bytes-word.ensures) in
    record { same = c.word.ensures.same ∙ c.loop-i.invariant.same; long = step.0; read = step.1 }
