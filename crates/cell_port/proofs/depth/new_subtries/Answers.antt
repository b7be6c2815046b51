use Rattle.std.proofs.Common.{◌≡◌, ◌≤◌, ◌-◌, arith}
use Rattle.std.specs.BTreeMap as tree
use Rattle.std.specs.Map.Iter.{deref_pair}
use Rattle.cell_port.specs.Depth.{digests_of, needed_beside}
use Rattle.cell_port.proofs.Neighbours.{neighbours-tell}
use Rattle.cell_port.proofs.depth.new_subtries.Goals as goal

told : (c : goal.After-max-second) → (c.max-deepest.result - c.max-second.result ≡ needed_beside (digests_of (tree.keys c.args.places.now)) c.args.digest.now) × (c.max-second.result ≤ c.max-deepest.result) × (c.max-deepest.result ≤ 62)
told c =
    let h = neighbours-tell deref_pair c.args.digest.now c.args.places.now.entries _ _ _ _ _ _ _ _ _ _ _ _ _ _ c.range-below.ensures.ordered
    (c.range-below.ensures.between tt) (c.range-above.ensures.between tt)
    c.next_back.ensures.steps c.next_back-2.ensures.steps c.next.ensures.steps c.next-2.ensures.steps
    c.level_of-before.ensures c.level_of-next_before.ensures c.level_of-after.ensures c.level_of-next_after.ensures in
    rw (c.max-deepest.ensures, c.max-second.ensures, c.max.ensures, c.min.ensures) h

pub overflow_sub-result : goal.overflow_sub-result
overflow_sub-result c = (told c).1

pub returns : goal.returns
returns c = let h = told c in let most = h.2 in record { count = h.0; most = omega arith }
