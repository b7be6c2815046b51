use Rattle.std.proofs.Common.{◌+◌, ◌<◌, ◌∷◌, length, get_or, arith}
use Rattle.std.proofs.lemmas.Result.{on_ok_weaker}
use Rattle.region_core.proofs.Finding.{lawful}
use Rattle.frozen_store.proofs.Walking.{gathers_more, gathers_all, slot_empty, slot_unfilled, slot_filled, slot_subtrie, record_inside, table_next, level_next}
use Rattle.frozen_store.proofs.walk.+gathering.Goals as goal

pub gather-loop-index-preserved : goal.gather-loop-index-preserved
gather-loop-index-preserved t c =
    gathers_more c.args.words.now c.args.table c.args.slots c.loop-index.index c.args.found.now.items c.loop-index.found.items c.gather_slot.new.found.items c.loop-index-test.true c.loop-index.invariant c.in_ok-gather_slot.ensures

pub gather-returns : goal.gather-returns
gather-returns t c = gathers_all c.args.words.now c.args.table c.args.slots c.loop-index.index c.args.found.now.items c.loop-index.found.items c.loop-index-test.false c.loop-index.invariant

pub gather_slot-offset_bounds-words-place : goal.gather_slot-offset_bounds-words-place
gather_slot-offset_bounds-words-place t c =
    let inside : c.in-Some-Record.place.at + 4 < length c.args.words.now = record_inside c.args.words.now c.args.table c.args.index c.args.level c.in-Some-Record.place.at c.requires.slot (rw c.in-Some-Record.field-0-is at c.in-Some-Record.ensures) in
    omega (arith, inside, c.requires.slot.short)

pub gather_slot-bounds-words-place : goal.gather_slot-bounds-words-place
gather_slot-bounds-words-place t c =
    record_inside c.args.words.now c.args.table c.args.index c.args.level c.in-Some-Record.place.at c.requires.slot (rw c.in-Some-Record.field-0-is at c.in-Some-Record.ensures)

pub gather_slot-returns-then-words-place-eq0 : goal.gather_slot-returns-then-words-place-eq0
gather_slot-returns-then-words-place-eq0 t c =
    slot_unfilled c.args.words.now c.args.table c.args.index c.in-Some-Record.place.at c.args.found.now.items (rw c.in-Some-Record.field-0-is at c.in-Some-Record.ensures) c.if-words-place-eq0.true

pub gather_slot-gather-requires : goal.gather_slot-gather-requires
gather_slot-gather-requires t c =
    let next = table_next c.args.words.now c.args.table c.args.index c.args.level c.in-Some-Subtrie.place.at c.requires.slot (rw c.in-Some-Subtrie.field-0-is at c.in-Some-Subtrie.ensures) in
    let low = level_next c.args.words.now c.in-Some-Subtrie.place.at 16 (c.args.level + 1) next in
    (omega (arith, low, c.decreases), (low, next))

pub gather_slot-unreachable-requires : goal.gather_slot-unreachable-requires
gather_slot-unreachable-requires t c =
    let x = c.requires.slot in
    lawful x.heap x.space (c.args.index ∷ x.indexes) (get_or c.args.words.now (c.args.table + c.args.index) 0) c.in-None.ensures (x.laid.tries.slots c.args.table x.space x.indexes c.args.index x.here x.within)

pub gather_slot-returns-in-Some-Empty : goal.gather_slot-returns-in-Some-Empty
gather_slot-returns-in-Some-Empty t c =
    slot_empty c.args.words.now c.args.table c.args.index c.args.found.now.items (rw c.in-Some-Empty.field-0-is at c.in-Some-Empty.ensures)

pub gather_slot-returns-in_ok-push-in-Some-Record :
    goal.gather_slot-returns-in_ok-push-in-Some-Record
gather_slot-returns-in_ok-push-in-Some-Record t c =
    slot_filled c.args.words.now c.args.table c.args.index c.in-Some-Record.place.at c.args.found.now.items c.push.new.self.items (rw c.in-Some-Record.field-0-is at c.in-Some-Record.ensures) c.if-words-place-eq0.false c.in_ok-push-in-Some-Record.ensures.items

pub gather_slot-returns-in-Some-Subtrie : goal.gather_slot-returns-in-Some-Subtrie
gather_slot-returns-in-Some-Subtrie t c =
    on_ok_weaker c.gather.result (slot_subtrie c.args.words.now c.args.table c.args.index c.in-Some-Subtrie.place.at c.args.found.now.items c.gather.new.found.items (rw c.in-Some-Subtrie.field-0-is at c.in-Some-Subtrie.ensures)) c.gather.ensures
