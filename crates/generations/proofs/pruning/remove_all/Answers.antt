use Rattle.std.proofs.Common.{arith}
use Rattle.generations.proofs.NameLemmas.{err-made}
use Rattle.generations.proofs.PruningLemmas.{next-there}
use Rattle.generations.proofs.RemovingLemmas.{removed-next, removing-stops}
use Rattle.generations.proofs.pruning.remove_all.Goals as goal

pub remove_one-requires-clause-there : goal.remove_one-requires-clause-there
remove_one-requires-clause-there g c =
    next-there (g.F.Folder.view c.args.folder.now).files (g.F.Folder.view c.loop-number.folder).files c.args.numbers.now c.loop-number.number-index c.requires.unused
    c.loop-number.invariant.removed.loses (omega arith)

pub returns-in_err-remove_one-clause-err : goal.returns-in_err-remove_one-clause-err
returns-in_err-remove_one-clause-err g c =
    err-made _ _ _ c.from_residual.ensures.1
    (removing-stops c.args.numbers.now c.loop-number.number-index _ _ _ (omega arith) c.loop-number.invariant.removed c.in_err-remove_one.field-0.0 c.in_err-remove_one.ensures)

pub loop-number-preserved : goal.loop-number-preserved
loop-number-preserved g c = record {
  removed = removed-next c.args.numbers.now c.loop-number.number-index _ _ _ (omega arith) c.loop-number.invariant.removed c.in_ok-remove_one.ensures;
  still = λ first. absurd (omega (arith, first));
}
