use Rattle.region_check.specs.Shown.{Shown}
use Rattle.region_check.proofs.Lowest.{each_none, empty_shows}
use Rattle.region_check.proofs.least.leasts_at.Goals as goal

pub returns-then-words-slot-eq0 : goal.returns-then-words-slot-eq0
returns-then-words-slot-eq0 c =
    each_none (λ row. Shown c.args.words.now row c.args.space c.args.level c.args.slot) c.args.rows c.none.result c.none.ensures.first c.none.ensures.second c.none.ensures.third
    (empty_shows c.args.words.now c.args.space c.args.level c.args.slot c.if-words-slot-eq0.true)

pub returns : goal.returns
returns c = record { first = c.flaw_at.ensures; second = c.flaw_at-2.ensures; third = c.flaw_at-3.ensures }
