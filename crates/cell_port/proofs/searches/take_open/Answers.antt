use Rattle.std.proofs.Common.{◌<◌, ◌≤◌, length, arith}
use Rattle.cell_port.proofs.Opened.{taken, taken-words, close-none}
use Rattle.cell_port.proofs.searches.take_open.Goals as goal

pub returns-then-i-len-clause-closed : goal.returns-then-i-len-clause-closed
returns-then-i-len-clause-closed c =
    let lt : c.find_open-i.result < length c.args.opened.now.items = omega arith in
    taken _ c.args.opened.now.items c.args.place _ _ c.find_open-i.ensures lt (c.remove.ensures.variant.1 (omega arith)) c.remove.ensures.items

pub returns-then-i-len-clause-words : goal.returns-then-i-len-clause-words
returns-then-i-len-clause-words c =
    let lt : c.find_open-i.result < length c.args.opened.now.items = omega arith in
    taken-words _ c.args.opened.now.items c.args.place _ c.find_open-i.ensures lt c.remove.ensures.value

pub returns-else-i-len-clause-closed : goal.returns-else-i-len-clause-closed
returns-else-i-len-clause-closed c =
    let le : length c.args.opened.now.items ≤ c.find_open-i.result = omega arith in
    close-none c.args.opened.now.items c.args.place (rw c.find_open-i.ensures at le)
