use Rattle.generations.proofs.NameLemmas.{err-made}
use Rattle.generations.proofs.OpeningLemmas.{upstream-refused}
use Rattle.generations.proofs.opening.read_chain.Goals as goal

pub returns-in_err-up-clause-err : goal.returns-in_err-up-clause-err
returns-in_err-up-clause-err g c =
    err-made _ _ _ c.from_residual-in_err-up.ensures.1
    (upstream-refused (g.F.Folder.view c.args.folder.now) _ _ (g.F.Folder.view c.read_upstream.new.folder) c.in_ok-chain.chain.primary c.in_ok-chain.chain.upstream c.in-Some.number c.in_ok-primary.primary
    c.in_err-up.field-0.0 c.in_ok-chain.ensures.stays.calm c.in_ok-primary.ensures.calm c.in_ok-chain.ensures.ok c.in-Some.is c.in_ok-primary.ensures.ok c.in_err-up.ensures.err)
