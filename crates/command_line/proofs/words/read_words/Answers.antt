use Rattle.std.proofs.Common.{ap, ◌∙◌, sym}
use Rattle.std.proofs.lemmas.Result.{err_from_is_err_and}
use Rattle.command_line.specs.Words.{takes}
use Rattle.command_line.proofs.WordLemmas.{operands-refused, takes-digests}
use Rattle.command_line.proofs.words.read_words.Goals as goal

pub returns-in_err-digests : goal.returns-in_err-digests
returns-in_err-digests c =
    let p = err_from_is_err_and c.from_residual.result c.from_residual.ensures.1 in
    rw (p.1, p.2) (operands-refused c.args.words.now c.in-Some.parts.rest.now c.in-Some.parts.verb c.in-Some.parts.count c.in-Some.parts.options _ c.in-Some.ensures
    (sym c.takes.ensures ∙ c.if-not-takes.false) c.in_err-digests.ensures.err)

pub task-requires : goal.task-requires
task-requires c =
    takes-digests c.in-Some.parts.verb c.in_ok-digests.digests.items _ c.in_ok-digests.ensures.ok
    (ap (takes c.in-Some.parts.verb) (sym c.in-Some.ensures.many) ∙ sym c.takes.ensures ∙ c.if-not-takes.false)
