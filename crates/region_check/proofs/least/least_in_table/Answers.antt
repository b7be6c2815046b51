use Rattle.std.proofs.Common.{◌≡◌, ◌+◌, ℕ, sym, subst, arith}
use Rattle.region_check.specs.Reach.{slots_of}
use Rattle.region_check.specs.Shown.{LeastWhere, TableShown}
use Rattle.region_check.proofs.Reaching.{table_inside}
use Rattle.region_check.proofs.Lowest.{table_more}
use Rattle.region_check.proofs.least.least_in_table.Goals as goal

pub flaw_at-requires-clause-slot : goal.flaw_at-requires-clause-slot
flaw_at-requires-clause-slot c = omega (arith, c.loop-index-test.true, c.slots-index-end.ensures, table_inside c.args.words.now c.args.space c.args.table.now c.requires.least c.requires.led)

pub loop-index-preserved : goal.loop-index-preserved
loop-index-preserved c =
    subst (LeastWhere (TableShown c.args.words.now c.args.row c.args.space c.args.table.now (c.loop-index.index + 1))) (sym c.lower-least.ensures)
    (table_more c.args.words.now c.args.row c.args.space c.args.table.now c.loop-index.index c.loop-index.least c.flaw_at.result c.loop-index.invariant c.flaw_at.ensures)

pub returns : goal.returns
returns c =
    let all : c.loop-index.index ≡ slots_of c.args.table.now = omega (arith, c.loop-index-test.false, c.loop-index.auto.index-end, c.slots-index-end.ensures) in
    subst (λ (n : ℕ). LeastWhere (TableShown c.args.words.now c.args.row c.args.space c.args.table.now n) c.loop-index.least) all c.loop-index.invariant
