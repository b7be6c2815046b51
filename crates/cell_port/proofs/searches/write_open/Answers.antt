use Rattle.std.proofs.Common.{◌<◌, ◌≤◌, length, arith}
use Rattle.cell_port.proofs.Opened.{room-at, write-done, write-none}
use Rattle.cell_port.proofs.searches.write_open.Goals as goal

pub set-requires : goal.set-requires
set-requires c =
    let lt : c.find_open-i.result < length c.args.opened.now.items = omega arith in
    room-at c.args.opened.now.items c.args.place _ _ _ c.find_open-i.ensures lt c.requires c.index_mut.ensures.value

pub returns-then-i-len : goal.returns-then-i-len
returns-then-i-len c =
    let lt : c.find_open-i.result < length c.args.opened.now.items = omega arith in
    write-done c.args.opened.now.items c.args.place _ _ _ _ _ c.find_open-i.ensures lt c.index_mut.ensures.value c.set.ensures

pub returns-else-i-len : goal.returns-else-i-len
returns-else-i-len c =
    let le : length c.args.opened.now.items ≤ c.find_open-i.result = omega arith in
    absurd (write-none c.args.opened.now.items c.args.place c.args.index _ c.find_open-i.ensures le c.requires)
