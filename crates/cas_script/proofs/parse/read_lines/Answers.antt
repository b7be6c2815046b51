use Rattle.std.proofs.Common.{subst, arith, option_copied}
use Rattle.cas_script.specs.Parsing.{sessions_of}
use Rattle.cas_script.proofs.Progress.{HasDone, few_done, done_more}
use Rattle.cas_script.proofs.parse.read_lines.Goals as goal

-- there are not so many lines
pub overflow_add-number : goal.overflow_add-number
overflow_add-number c =
    let few = few_done c.args.text.now (option_copied c.loop-rest.rest) c.loop-rest.number (sessions_of c.loop-rest.parser) c.loop-rest.invariant.done in
    omega (arith, few, c.requires.short)

pub loop-rest-preserved : goal.loop-rest-preserved
loop-rest-preserved c = record {
  whole = c.in_default-add.ensures.whole;
  done = done_more c.args.text.now c.in-Some.left.now c.cut.result.0.now (option_copied c.cut.result.1) c.loop-rest.number
      (sessions_of c.loop-rest.parser) (sessions_of c.add.new.self)
      (subst (λ rest. HasDone c.args.text.now (option_copied rest) c.loop-rest.number (sessions_of c.loop-rest.parser)) c.in-Some.is
      c.loop-rest.invariant.done)
      c.cut.ensures c.in_default-add.ensures.ok;
}
