use Rattle.cas_port.specs.declared.block.PortError.TheVariants.{Memory}
use Rattle.graph_db.proofs.Steps.{err-made}
use Rattle.action_cache.proofs.KeyKept.{bind-stops, place-fill, fill-stops, fill-keeps}
use Rattle.action_cache.proofs.keeping.keep.Goals as goal

pub returns-in_err-bound-clause-err : goal.returns-in_err-bound-clause-err
returns-in_err-bound-clause-err g c = err-made _ _ _ c.from_residual.ensures.1 (bind-stops _ _ _ _ c.requires.speaks c.requires.missed _ _ c.in_err-bound.ensures.stopped)

pub fill_place-requires-clause-lawful : goal.fill_place-requires-clause-lawful
fill_place-requires-clause-lawful g c =
    place-fill _ _ _ _ _ _ c.requires.speaks c.requires.missed c.requires.filled c.requires.agrees c.in_ok-bound.ensures.bound c.in_ok-bound.ensures.lawful

pub returns-in_err-cell-clause-err : goal.returns-in_err-cell-clause-err
returns-in_err-cell-clause-err g c =
    err-made _ Memory _ c.from_residual-in_err-cell.ensures.1
    (fill-stops _ _ _ _ _ _ c.requires.speaks c.requires.missed c.requires.filled c.requires.agrees c.in_ok-bound.ensures.bound c.in_ok-bound.ensures.lawful _ c.in_err-cell.ensures.memory)

pub returns-in-Won-clause-ok : goal.returns-in-Won-clause-ok
returns-in-Won-clause-ok g c =
    fill-keeps _ _ _ _ _ _ c.requires.speaks c.requires.missed c.requires.filled c.requires.agrees c.in_ok-bound.ensures.bound c.in_ok-bound.ensures.lawful _ _ _ c.in_ok-cell.ensures.lawful c.in_ok-cell.ensures.filled c.in-Won.is

pub returns-in-Won-2-clause-ok : goal.returns-in-Won-2-clause-ok
returns-in-Won-2-clause-ok g c =
    fill-keeps _ _ _ _ _ _ c.requires.speaks c.requires.missed c.requires.filled c.requires.agrees c.in_ok-bound.ensures.bound c.in_ok-bound.ensures.lawful _ _ _ c.in_ok-cell.ensures.lawful c.in_ok-cell.ensures.filled c.in-Won.is
