use Rattle.cell_port.proofs.IndexRows.{bound-more, bound-same}
use Rattle.cell_port.proofs.tables.PlainTables.bind.Goals as goal

pub invariant_of-self-in_err-bind : goal.invariant_of-self-in_err-bind
invariant_of-self-in_err-bind c =
    let e = c.in_err-bind.ensures in
    rw c.in_ok-reserve.ensures.items (c.self.invariant.0, c.self.invariant.1, bound-same _ _ _ c.self.invariant.2 e.err_places e.err_records e.err_digests, c.self.invariant.3)

pub invariant_of-self-2 : goal.invariant_of-self-2
invariant_of-self-2 c =
    let e = c.in_ok-bind.ensures in
    rw (c.push_front_reserved.ensures.items, c.in_ok-reserve.ensures.items) (c.self.invariant.0, c.self.invariant.1, bound-more _ _ _ c.args.record_ c.self.invariant.2 e.ok_places e.ok_records e.ok_digests, c.self.invariant.3)
