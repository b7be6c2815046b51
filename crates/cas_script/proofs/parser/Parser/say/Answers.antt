use Rattle.std.proofs.Common.{◌∙◌, ap}
use Rattle.std.proofs.lemmas.Result.{err_from_is_err_and}
use Rattle.cas_script.specs.Text.{tokens_of}
use Rattle.cas_script.specs.Verbs.{count_check}
use Rattle.cas_script.specs.Parsing.{sessions_of}
use Rattle.cas_script.proofs.ParserSteps.{count_refused, arguments_stopped, says_more}
use Rattle.cas_script.proofs.parser.Parser.say.Goals as goal

pub returns-in_err-check_count-clause-err : goal.returns-in_err-check_count-clause-err
returns-in_err-check_count-clause-err c =
    let p = err_from_is_err_and c.from_residual-in_err-check_count.result c.from_residual-in_err-check_count.ensures.1 in
    rw (p.1, p.2, c.in-Some.is) (count_refused (sessions_of c.args.self.now) c.args.verb _ _ c.in_ok-check_place.ensures
    (c.in_err-check_count.ensures ∙ ap (count_check c.args.verb) c.count_pieces.ensures))

pub returns-in_err-line-clause-err : goal.returns-in_err-line-clause-err
returns-in_err-line-clause-err c =
    let p = err_from_is_err_and c.from_residual-in_err-line.result c.from_residual-in_err-line.ensures.1 in
    rw (p.1, p.2, c.in-Some.is) (arguments_stopped c.in_err-line.field-0.0 c.args.self.now.sessions.items c.args.self.now.has_session
    c.args.self.now.lines.items c.as_slice.result.now c.args.verb (tokens_of c.in-Some.rest.now) c.requires.sessions c.in_ok-check_place.ensures
    (c.in_ok-check_count.ensures ∙ ap (count_check c.args.verb) c.count_pieces.ensures) (c.as_slice.ensures.value ∙ c.requires.stored)
    c.in_err-line.ensures.err)

pub returns-clause-ok : goal.returns-clause-ok
returns-clause-ok c =
    rw (c.in-Some.is, c.in_ok-push.ensures.rest.0, c.in_ok-push.ensures.rest.1, c.in_ok-push.ensures.lines)
    (says_more c.args.self.now.sessions.items c.args.self.now.has_session c.args.self.now.lines.items c.as_slice.result.now c.args.verb
    (tokens_of c.in-Some.rest.now) c.in_ok-line.line c.requires.sessions c.in_ok-check_place.ensures
    (c.as_slice.ensures.value ∙ c.requires.stored) c.in_ok-line.ensures.ok)
