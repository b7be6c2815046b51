use Rattle.std.proofs.Common.{◌≡◌, ℕ, subst, arith}
use Rattle.region_check.specs.Reach.{slots_of}
use Rattle.region_check.specs.Shown.{LeastOfEach, TableShown}
use Rattle.region_check.proofs.Reaching.{table_inside}
use Rattle.region_check.proofs.Lowest.{each_none, each_slot, table_none}
use Rattle.region_check.proofs.least.leasts_in_table.Goals as goal

pub leasts_at-requires-clause-slot : goal.leasts_at-requires-clause-slot
leasts_at-requires-clause-slot c = omega (arith, c.loop-index-test.true, c.slots-index-end.ensures, table_inside c.args.words.now c.args.space c.args.table.now c.requires.least c.requires.led)

pub loop-index-init : goal.loop-index-init
loop-index-init c =
    each_none (λ row. TableShown c.args.words.now row c.args.space c.args.table.now 0) c.args.rows c.none-leasts.result c.none-leasts.ensures.first c.none-leasts.ensures.second c.none-leasts.ensures.third
    (λ row. table_none c.args.words.now row c.args.space c.args.table.now)

pub loop-index-preserved : goal.loop-index-preserved
loop-index-preserved c =
    each_slot c.args.words.now c.args.space c.args.rows c.args.table.now c.loop-index.index c.loop-index.leasts c.leasts_at.result c.lower-leasts.result c.lower-leasts.ensures.first c.lower-leasts.ensures.second c.lower-leasts.ensures.third c.loop-index.invariant
    c.leasts_at.ensures

pub returns : goal.returns
returns c =
    let all : c.loop-index.index ≡ slots_of c.args.table.now = omega (arith, c.loop-index-test.false, c.loop-index.auto.index-end, c.slots-index-end.ensures) in
    subst (λ (n : ℕ). LeastOfEach (λ row. TableShown c.args.words.now row c.args.space c.args.table.now n) c.args.rows c.loop-index.leasts) all c.loop-index.invariant
