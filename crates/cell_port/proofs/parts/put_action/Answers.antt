use Rattle.cell_port.proofs.ClaimLists.{bind-refuses}
use Rattle.cell_port.proofs.PlainBinds.{err-made}
use Rattle.cell_port.proofs.parts.put_action.Goals as goal

pub returns-in_err-record_-clause-err : goal.returns-in_err-record_-clause-err
returns-in_err-record_-clause-err c =
    err-made _ _ _ c.from_residual.ensures.1 (bind-refuses _ _ c.args.pair.now.key c.args.tables.now _ _ _ _ c.in_err-record_.ensures.within c.in_err-record_.ensures.err)
