use Rattle.std.proofs.Common.{sym, subst}
use Rattle.generations.specs.Pruning.{Prunes}
use Rattle.generations.specs.Removing.{AreToldUnused}
use Rattle.generations.proofs.NameLemmas.{err-is}
use Rattle.generations.proofs.RemovingLemmas.{pruned-some}
use Rattle.generations.proofs.pruning.prune.Goals as goal

pub returns-in_err-remove_all : goal.returns-in_err-remove_all
returns-in_err-remove_all g c =
    let old = g.F.Folder.view c.args.folder.now in
    let new = g.F.Folder.view c.remove_all.new.folder in
    subst (Prunes old new) (sym (err-is _ _ c.from_residual-in_err-remove_all.ensures.1))
    (pruned-some c.as_slice.result.now old _ new (subst (AreToldUnused old.files) (sym c.as_slice.ensures.value) c.in_ok-unused.ensures.ok) c.in_ok-unused.ensures.calm c.in_err-remove_all.field-0.0
    c.in_err-remove_all.ensures.err)
