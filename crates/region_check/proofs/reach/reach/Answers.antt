use Rattle.std.proofs.Common.{◌+◌, ◌<◌, Bool, List, length, arith, sym, subst}
use Rattle.region_check.specs.Reach.{slots_of, IsLed, Entered, Searching}
use Rattle.region_check.proofs.Reaching.{searching_more, searched, table_inside, table_read, lent_back}
use Rattle.region_check.proofs.reach.reach.Goals as goal

pub enter-requires-clause-slots : goal.enter-requires-clause-slots
enter-requires-clause-slots c =
    let inside = c.loop-next-test.true in
    let is = table_read c.loop-next.tables.items c.loop-next.next c.index-table.result.now (omega (arith, inside, c.len.ensures, c.loop-next.tables.ok.0)) c.index-table.ensures in
    table_inside c.args.words.now c.args.space c.index-table.result.now c.requires.least (subst (IsLed c.args.words.now c.args.space) (sym is) (c.loop-next.invariant.only c.loop-next.next (omega (arith, inside, c.len.ensures, c.loop-next.tables.ok.0))))

pub loop-next-preserved : goal.loop-next-preserved
loop-next-preserved c =
    let inside = c.loop-next-test.true in
    let below : c.loop-next.next < length c.loop-next.tables.items = omega (arith, inside, c.len.ensures, c.loop-next.tables.ok.0) in
    let is = table_read c.loop-next.tables.items c.loop-next.next c.index-table.result.now below c.index-table.ensures in
    let entered : Entered c.args.words.now c.index-table.result.now (slots_of c.index-table.result.now) c.loop-next.marks.items c.enter.new.marks c.loop-next.tables.items c.enter.new.tables.items = rw c.deref_mut.ensures.value at c.in_ok-enter.ensures in
    subst (λ (marks : List Bool). Searching c.args.words.now c.args.space marks c.enter.new.tables.items (c.loop-next.next + 1)) (sym (lent_back c.loop-next.marks.len c.enter.new.marks c.loop-next.marks.items entered.long c.loop-next.marks.ok.0))
    (searching_more c.args.words.now c.args.space c.loop-next.marks.items c.enter.new.marks c.loop-next.tables.items c.enter.new.tables.items c.loop-next.next c.index-table.result.now below is c.loop-next.invariant entered)

pub returns : goal.returns
returns c = searched c.args.words.now c.args.space c.loop-next.marks.items c.loop-next.tables.items c.loop-next.next c.loop-next.invariant (omega (arith, c.loop-next-test.false, c.len.ensures, c.loop-next.tables.ok.0))
