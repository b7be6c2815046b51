use Rattle.std.proofs.Common.{[], subst, option_copied, append-nil}
use Rattle.cas_script.specs.Text.{more_pieces}
use Rattle.cas_script.specs.Arguments.{AreNames}
use Rattle.cas_script.proofs.line.refs_of.Goals as goal

pub returns-clause-ok : goal.returns-clause-ok
returns-clause-ok c =
    let none : AreNames c.args.stored.now (more_pieces 32 (option_copied c.loop-rest.rest)) [] = rw c.in_default.is tt in
    rw c.from_vec.ensures (subst (λ list. AreNames c.args.stored.now (more_pieces 32 (option_copied c.args.tokens)) list)
    (append-nil c.loop-rest.refs.items) (c.loop-rest.invariant.names [] none))
