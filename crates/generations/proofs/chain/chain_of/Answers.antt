use Rattle.std.proofs.Common.{sym, subst}
use Rattle.cas_outside.specs.Folder.{ListsNames}
use Rattle.generations.proofs.ChainLemmas.{told-chain}
use Rattle.generations.proofs.chain.chain_of.Goals as goal

pub returns-clause-ok : goal.returns-clause-ok
returns-clause-ok g c =
    told-chain _ c.as_slice.result.now _ _ (subst (ListsNames (g.F.Folder.view c.args.folder.now).files) (sym c.as_slice.ensures.value) c.in_ok-names.ensures.ok) c.of.ensures
