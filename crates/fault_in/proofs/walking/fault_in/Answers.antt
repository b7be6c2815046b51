use Rattle.std.proofs.Common.{Ok, true, refl}
use Rattle.graph_db.proofs.Steps.{err-made}
use Rattle.fault_in.proofs.Ended.{error-answer, none-told, other-answer, some-told, stops-now, up-has, up-lacks, whole-now}
use Rattle.fault_in.proofs.walking.fault_in.Goals as goal

pub returns-then-is_none-clause-lacks : goal.returns-then-is_none-clause-lacks
returns-then-is_none-clause-lacks g c = (λ same. up-lacks c.args.up.now.tables c.args.digest.now _ c.content_place.ensures (none-told _ _ c.is_none.ensures c.if-is_none.true), λ lacks. refl)

pub bring_missing-requires-clause-has : goal.bring_missing-requires-clause-has
bring_missing-requires-clause-has g c = up-has c.args.up.now c.args.digest.now _ c.seen.ensures c.content_place.ensures (some-told _ _ c.is_none.ensures c.if-is_none.false)

pub returns-in_err-bring_missing-clause-lacks : goal.returns-in_err-bring_missing-clause-lacks
returns-in_err-bring_missing-clause-lacks g c =
    error-answer _ _ _ (up-has c.args.up.now c.args.digest.now _ c.seen.ensures c.content_place.ensures (some-told _ _ c.is_none.ensures c.if-is_none.false)) c.from_residual.ensures.1

pub returns-in_err-bring_missing-clause-stopped : goal.returns-in_err-bring_missing-clause-stopped
returns-in_err-bring_missing-clause-stopped g c = err-made _ _ _ c.from_residual.ensures.1 (stops-now c.args.who c.args.digest.now _ _ _ c.requires.speaks c.in_err-bring_missing.ensures.err)

pub returns-clause-lacks : goal.returns-clause-lacks
returns-clause-lacks g c = other-answer _ (Ok true) (up-has c.args.up.now c.args.digest.now _ c.seen.ensures c.content_place.ensures (some-told _ _ c.is_none.ensures c.if-is_none.false)) (λ same. cc)

pub returns-clause-brought : goal.returns-clause-brought
returns-clause-brought g c = whole-now c.args.who c.args.digest.now _ _ c.requires.speaks c.in_ok-bring_missing.ensures.lawful.is c.in_ok-bring_missing.ensures.ok
