use Rattle.std.proofs.Common.{◌+◌, ◌<◌, sym, subst, arith, length}
use Rattle.std.proofs.lemmas.Result.{err_from_is_err_and}
use Rattle.cas_model.specs.Contents.{pair_keys}
use Rattle.region_core.specs.Heap.{Laid, memory_of}
use Rattle.region_core.specs.Inserts.{Region}
use Rattle.region_core.proofs.Gathering.{ready_for_key, pair_done, pair_head, building_long, value_there, owner_within}
use Rattle.region_core.proofs.building.add_pair.Goals as goal

pub look-requires : goal.look-requires
look-requires c = subst Region (sym c.deref.ensures.value) record { heap = c.requires.can.heap; laid = c.requires.can.building.laid }

pub unreachable-requires : goal.unreachable-requires
unreachable-requires c = value_there c.requires.can.heap c.args.words.now.items c.deref.result.now c.requires.can.objects c.requires.can.pairs c.args.pair.now c.deref.ensures.value c.requires.can.building c.requires.can.next c.in_default.ensures

pub insert_record-requires-clause-can : goal.insert_record-requires-clause-can
insert_record-requires-clause-can c = record {
  heap = c.requires.can.heap;
  known = pair_keys c.requires.can.pairs;
  ready = ready_for_key c.requires.can.heap c.args.words.now.items c.requires.can.objects c.requires.can.pairs c.args.pair.now c.requires.can.building c.requires.can.next;
}

pub returns-clause-added : goal.returns-clause-added
returns-clause-added c = λ heap objects pairs building next.
    let ready = ready_for_key heap c.args.words.now.items objects pairs c.args.pair.now building next in
    let found = c.in-Some.ensures heap (subst (λ ws. Laid heap (memory_of ws) (length ws)) (sym c.deref.ensures.value) building.laid) in
    let done = pair_done heap objects pairs c.args.words.now.items c.insert_record.new.words.items c.args.pair.now c.in_ok-owner.owner.at c.in-Some.value.at building next (c.in_ok-owner.ensures.inserted heap (pair_keys pairs) ready) c.in_ok-owner.ensures.place found in
    record { built = done.0; grown = done.1 }

pub returns-clause-head : goal.returns-clause-head
returns-clause-head c =
    pair_head c.args.words.now.items c.insert_record.new.words.items c.in_ok-owner.owner.at c.in-Some.value.at c.in_ok-owner.ensures.head c.in_ok-owner.ensures.place
    (building_long c.requires.can.heap c.args.words.now.items c.requires.can.objects c.requires.can.pairs c.requires.can.building)

pub returns-in_err-owner-clause-refused : goal.returns-in_err-owner-clause-refused
returns-in_err-owner-clause-refused c =
    let p = err_from_is_err_and c.from_residual.result c.from_residual.ensures.1 in
    rw (p.1, p.2) (λ heap objects pairs building next. c.in_err-owner.ensures.refused heap (pair_keys pairs) (ready_for_key heap c.args.words.now.items objects pairs c.args.pair.now building next))

pub index_mut-requires : goal.index_mut-requires
index_mut-requires c =
    let x = c.in_ok-owner.ensures.inserted c.requires.can.heap (pair_keys c.requires.can.pairs) (ready_for_key c.requires.can.heap c.args.words.now.items c.requires.can.objects c.requires.can.pairs c.args.pair.now c.requires.can.building c.requires.can.next) in
    let inside : c.in_ok-owner.owner.at + 4 < length c.insert_record.new.words.items = owner_within (length c.insert_record.new.words.items) c.in_ok-owner.owner.at _ x.grown in
    omega (arith, inside, c.insert_record.new.words.ok)
