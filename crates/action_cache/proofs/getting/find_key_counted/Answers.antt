use Rattle.cas_history.proofs.Sound.{sound-run}
use Rattle.action_cache.proofs.KeyKept.{kept-record, positive}
use Rattle.action_cache.proofs.PutGot.{found-key}
use Rattle.action_cache.proofs.getting.find_key_counted.Goals as goal

pub record_digest-requires : goal.record_digest-requires
record_digest-requires g c = kept-record _ _ _ (sound-run _ _ _ c.in_ok-cell.ensures.lawful.is) (positive _ c.if-cell-eq0.false) c.in_ok-cell.ensures.ok.value_is

pub returns-clause-ok : goal.returns-clause-ok
returns-clause-ok g c = found-key _ _ _ _ _ _ _ c.if-cell-eq0.false c.in_ok-cell.ensures.ok c.record_digest.ensures.digest c.record_digest.ensures.same
