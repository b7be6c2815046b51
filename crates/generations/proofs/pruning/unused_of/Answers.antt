use Rattle.std.proofs.Common.{sym, subst}
use Rattle.cas_outside.specs.Folder.{ListsNames}
use Rattle.generations.proofs.PruningLemmas.{told-unused}
use Rattle.generations.proofs.pruning.unused_of.Goals as goal

pub returns-clause-ok : goal.returns-clause-ok
returns-clause-ok g c =
    let files = (g.F.Folder.view c.args.folder.now).files in
    told-unused files c.as_slice.result.now _ (subst (ListsNames files) (sym c.as_slice.ensures.value) c.in_ok-names.ensures.ok) c.in_ok-unused_among.ensures
