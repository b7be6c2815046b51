use Rattle.std.proofs.lemmas.Result.{err_from_is_err_and}
use Rattle.cas_script.proofs.LineForms.{put_from, no_put}
use Rattle.cas_script.proofs.line.put_line.Goals as goal

pub returns-in_err-value-clause-err : goal.returns-in_err-value-clause-err
returns-in_err-value-clause-err c =
    let p = err_from_is_err_and c.from_residual-in_err-value.result c.from_residual-in_err-value.ensures.1 in
    rw (p.1, p.2) (no_put c.args.stored.now c.args.rest.now _ _ c.in_ok-key.key _ c.requires c.cut_two.ensures c.in_ok-key.ensures c.in_err-value.ensures)

pub returns-clause-ok : goal.returns-clause-ok
returns-clause-ok c =
    put_from c.args.stored.now c.args.rest.now _ _ c.in_ok-key.key c.in_ok-value.value c.requires c.cut_two.ensures c.in_ok-key.ensures c.in_ok-value.ensures
