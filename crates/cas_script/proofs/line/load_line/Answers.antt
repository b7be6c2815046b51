use Rattle.std.proofs.lemmas.Result.{err_from_is_err_and}
use Rattle.cas_script.proofs.LineForms.{load_from, no_load}
use Rattle.cas_script.proofs.line.load_line.Goals as goal

pub returns-in_err-name_of-clause-err : goal.returns-in_err-name_of-clause-err
returns-in_err-name_of-clause-err c =
    let p = err_from_is_err_and c.from_residual.result c.from_residual.ensures.1 in
    rw (p.1, p.2) (no_load c.args.stored.now c.args.rest.now _ c.requires c.in_err-name_of.ensures)

pub returns-clause-ok : goal.returns-clause-ok
returns-clause-ok c = load_from c.args.stored.now c.args.rest.now c.in_ok-name_of.field-0 c.requires c.in_ok-name_of.ensures
