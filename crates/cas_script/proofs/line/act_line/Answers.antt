use Rattle.cas_script.proofs.LineForms.{act_from}
use Rattle.cas_script.proofs.line.act_line.Goals as goal

pub returns-clause-ok : goal.returns-clause-ok
returns-clause-ok c =
    act_from c.args.stored.now c.args.rest.now c.cut_two.result.0.now c.cut_two.result.1.now c.cut.result.0.now _ c.in_ok-key.key c.in_ok-refs.refs c.in_ok-data.data c.requires c.cut_two.ensures
    c.cut.ensures c.in_ok-key.ensures c.in_ok-data.ensures.ok c.in_ok-refs.ensures.ok
