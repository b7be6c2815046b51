use Rattle.std.proofs.Common.{sym, subst}
use Rattle.std.proofs.lemmas.Result.{err_from_is_err_and}
use Rattle.cas_script.specs.Grammar.{ReadsLines}
use Rattle.cas_script.specs.Text.{lines_of}
use Rattle.cas_script.specs.Parsing.{sessions_of}
use Rattle.cas_script.proofs.FirstRefusal.{only_refusal}
use Rattle.cas_script.proofs.Fitting.{script_fits}
use Rattle.cas_script.proofs.Refused.{stopped, stopped_none, one_script, lines_read}
use Rattle.cas_script.proofs.script.Script.parse.Goals as goal

pub returns-in_err-read_lines-clause-first : goal.returns-in_err-read_lines-clause-first
returns-in_err-read_lines-clause-first c =
    let p = err_from_is_err_and c.from_residual.result c.from_residual.ensures.1 in
    rw (p.1, p.2) (stopped c.args.text.now c.in_err-read_lines.field-0.0 c.in_err-read_lines.ensures.err)

pub returns-in_err-read_lines-clause-one : goal.returns-in_err-read_lines-clause-one
returns-in_err-read_lines-clause-one c =
    let p = err_from_is_err_and c.from_residual.result c.from_residual.ensures.1 in
    rw (p.1, p.2) (only_refusal c.args.text.now c.in_err-read_lines.field-0.0
    (stopped c.args.text.now c.in_err-read_lines.field-0.0 c.in_err-read_lines.ensures.err))

pub returns-in_err-read_lines-clause-none : goal.returns-in_err-read_lines-clause-none
returns-in_err-read_lines-clause-none c =
    let p = err_from_is_err_and c.from_residual.result c.from_residual.ensures.1 in
    rw (p.1, p.2) (stopped_none c.args.text.now c.in_err-read_lines.field-0.0 c.in_err-read_lines.ensures.err)

pub returns-clause-parsed : goal.returns-clause-parsed
returns-clause-parsed c =
    subst (ReadsLines (lines_of c.args.text.now)) (sym c.in_ok-finish.ensures)
    (lines_read c.args.text.now (sessions_of c.read_lines.new.parser) c.in_ok-read_lines.ensures.ok)

pub returns-clause-only : goal.returns-clause-only
returns-clause-only c = λ other reads. one_script c.args.text.now other c.in_ok-finish.field-0 reads (returns-clause-parsed c)

pub returns-clause-fits : goal.returns-clause-fits
returns-clause-fits c = script_fits c.args.text.now c.in_ok-finish.field-0 c.if-text-gt-MOST_BYTES.false (returns-clause-parsed c)
