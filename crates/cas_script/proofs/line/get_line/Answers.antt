use Rattle.std.proofs.lemmas.Result.{err_from_is_err_and}
use Rattle.cas_script.proofs.LineForms.{get_from, no_get}
use Rattle.cas_script.proofs.line.get_line.Goals as goal

pub returns-in_err-key_of-clause-err : goal.returns-in_err-key_of-clause-err
returns-in_err-key_of-clause-err c =
    let p = err_from_is_err_and c.from_residual.result c.from_residual.ensures.1 in
    rw (p.1, p.2) (no_get c.args.stored.now c.args.rest.now _ c.requires c.in_err-key_of.ensures)

pub returns-clause-ok : goal.returns-clause-ok
returns-clause-ok c = get_from c.args.stored.now c.args.rest.now c.in_ok-key_of.field-0 c.requires c.in_ok-key_of.ensures
