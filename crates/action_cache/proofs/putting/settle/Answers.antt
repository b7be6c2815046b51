use Rattle.action_cache.proofs.KeyKept.{kept-record, settles}
use Rattle.cas_history.proofs.Sound.{sound-run}
use Rattle.action_cache.proofs.putting.settle.Goals as goal

pub record_digest-requires : goal.record_digest-requires
record_digest-requires g c = kept-record _ _ _ (sound-run _ _ _ c.in_ok-cell.ensures.lawful.is) c.in_ok-cell.ensures.ok.some c.in_ok-cell.ensures.ok.cell_is

pub returns-clause-ok : goal.returns-clause-ok
returns-clause-ok g c = settles _ _ _ _ _ _ _ _ c.in_ok-cell.ensures.ok c.in_ok-cell.ensures.lawful c.record_digest.ensures.digest c.record_digest.ensures.same

pub returns-clause-reads : goal.returns-clause-reads
returns-clause-reads g c = rw c.record_digest.ensures.same c.in_ok-cell.ensures.reads
