use Rattle.std.proofs.Common.{◌≡◌, ℕ, ◌+◌, ◌*◌, ◌≤◌, ◌∷◌, [], length, get_or, set, ◌++◌, List, arith, sym, ap, subst, ◌∙◌, Some, None}
use Rattle.std.proofs.lemmas.Result.{err_from_is_err_and}
use Rattle.cas_model.specs.Claims.{record_claims}
use Rattle.region_core.specs.Claims.{Refuses}
use Rattle.region_core.specs.Words.{words_of}
use Rattle.region_core.specs.Inserts.{Stepped, SameHead}
use Rattle.region_core.proofs.Inserting.{descent_start, descent_end, slot_in, slot_low, ready_long, head_append, head_set, head_then, no_more, refused_step, refused_record}
use Rattle.region_core.proofs.insertion.insert_record.Goals as goal

pub loop-level-init : goal.loop-level-init
loop-level-init c = record {
  fits = c.in_ok-place.ensures.within;
  head =
      let long : 8 ≤ length c.args.words.now.items = ready_long c.requires.can.heap c.requires.can.known c.args.words.now.items c.args.space c.args.digest.now c.requires.can.ready in
      subst (SameHead c.args.words.now.items) (sym c.in_ok-place.ensures.words) (head_append c.args.words.now.items _ long);
  way = λ heap known ready.
      let words : c.push_block.new.words.items ≡ c.args.words.now.items ++ (words_of c.args.digest.now.bytes ++ 0 ∷ []) = c.in_ok-place.ensures.words ∙ ap (λ (own : List ℕ). c.args.words.now.items ++ (get_or own 0 0 ∷ get_or own 1 0 ∷ get_or own 2 0 ∷ get_or own 3 0 ∷ 0 ∷ [])) c.digest_words-own.ensures.value in
      rw (words, c.root_of-table.ensures, c.in_ok-place.ensures.place) (descent_start heap known c.args.words.now.items c.args.digest.now c.args.space ready);
}

pub step-requires-clause-way : goal.step-requires-clause-way
step-requires-clause-way c = record {
  heap = c.requires.can.heap;
  known = c.requires.can.known;
  first = c.args.words.now.items;
  space = c.args.space;
  own = c.in_ok-place.place;
  ready = c.requires.can.ready;
  descent = c.loop-level.invariant.way c.requires.can.heap c.requires.can.known c.requires.can.ready;
}

pub loop-level-preserved : goal.loop-level-preserved
loop-level-preserved c = record {
  fits = c.in_ok-next.ensures.within;
  head = head_then c.args.words.now.items c.loop-level.words.items c.step.new.words.items c.loop-level.invariant.head c.in_ok-next.ensures.head;
  way = λ heap known ready.
      let stepped : Stepped c.loop-level.words.items c.step.new.words.items c.args.digest.now c.loop-level.level c.loop-level.table (Some c.in-Some.next) = rw c.in-Some.is at c.in_ok-next.ensures.stepped in
      stepped heap known c.args.words.now.items c.args.space c.in_ok-place.place ready (c.loop-level.invariant.way heap known ready);
}

pub returns-in_err-place-clause-refused : goal.returns-in_err-place-clause-refused
returns-in_err-place-clause-refused c =
    let p = err_from_is_err_and c.from_residual.result c.from_residual.ensures.1 in
    rw (p.1, p.2) (λ heap known ready. refused_record known c.args.digest.now (length c.args.words.now.items) c.args.size c.in_err-place.field-0.0 c.requires.fits c.in_err-place.ensures.refused)

pub returns-in_err-next-clause-refused : goal.returns-in_err-next-clause-refused
returns-in_err-next-clause-refused c =
    let p = err_from_is_err_and c.from_residual-in_err-next.result c.from_residual-in_err-next.ensures.1 in
    rw (p.1, p.2) (λ heap known ready.
    subst (λ n. Refuses c.args.size n (record_claims known c.args.digest.now) c.in_err-next.field-0.0) c.in_ok-place.ensures.place
    (refused_step heap known c.args.words.now.items c.loop-level.words.items c.args.digest.now c.args.space c.loop-level.level c.loop-level.table c.in_ok-place.place c.args.size c.in_err-next.field-0.0 ready (c.loop-level.invariant.way heap known ready) c.digest_words-own.ensures.fits c.loop-level-test.true c.loop-level.invariant.fits c.in_err-next.ensures.refused))

pub overflow_add-slot : goal.overflow_add-slot
overflow_add-slot c =
    let inside = slot_in c.requires.can.heap c.requires.can.known c.loop-level.words.items c.args.digest.now c.args.space c.loop-level.level c.loop-level.table c.in_ok-place.place c.index_at.result (c.loop-level.invariant.way c.requires.can.heap c.requires.can.known c.requires.can.ready) c.index_at.ensures.within in
    omega (arith, inside, c.loop-level.invariant.fits, c.requires.size)

pub index_mut-requires : goal.index_mut-requires
index_mut-requires c =
    let stepped : Stepped c.loop-level.words.items c.step.new.words.items c.args.digest.now c.loop-level.level c.loop-level.table None = rw c.in-None.is at c.in_ok-next.ensures.stepped in
    let inside = slot_in c.requires.can.heap c.requires.can.known c.loop-level.words.items c.args.digest.now c.args.space c.loop-level.level c.loop-level.table c.in_ok-place.place c.index_at.result (c.loop-level.invariant.way c.requires.can.heap c.requires.can.known c.requires.can.ready) c.index_at.ensures.within in
    let same : length c.step.new.words.items ≡ length c.loop-level.words.items = ap length stepped.0 in
    omega (arith, inside, same, c.step.new.words.ok)

pub returns-in-None-clause-inserted : goal.returns-in-None-clause-inserted
returns-in-None-clause-inserted c = λ heap known ready.
    let stepped : Stepped c.loop-level.words.items c.step.new.words.items c.args.digest.now c.loop-level.level c.loop-level.table None = rw c.in-None.is at c.in_ok-next.ensures.stepped in
    let word : 0 ≡ get_or c.loop-level.words.items (c.loop-level.table + c.index_at.result) 0 = sym stepped.1 ∙ ap (λ i. get_or c.loop-level.words.items (c.loop-level.table + i) 0) (sym c.index_at.ensures.value) in
    rw stepped.0 (descent_end heap known c.args.words.now.items c.loop-level.words.items c.args.digest.now c.args.space c.loop-level.level c.loop-level.table c.in_ok-place.place c.index_at.result ready (c.loop-level.invariant.way heap known ready) c.digest_words-own.ensures.fits c.index_at.ensures.value c.index_at.ensures.within word (omega (arith, c.loop-level-test.true)))

pub unreachable-requires : goal.unreachable-requires
unreachable-requires c = no_more c.requires.can.heap c.requires.can.known c.loop-level.words.items c.args.digest.now c.args.space c.loop-level.level c.loop-level.table c.in_ok-place.place (c.loop-level.invariant.way c.requires.can.heap c.requires.can.known c.requires.can.ready) (omega (arith, c.loop-level-test.false))

pub returns-in-None-clause-head : goal.returns-in-None-clause-head
returns-in-None-clause-head c =
    let low = slot_low c.requires.can.heap c.requires.can.known c.loop-level.words.items c.args.digest.now c.args.space c.loop-level.level c.loop-level.table c.in_ok-place.place (c.loop-level.invariant.way c.requires.can.heap c.requires.can.known c.requires.can.ready) in
    head_then c.args.words.now.items c.step.new.words.items (set c.step.new.words.items (c.loop-level.table + c.index_at.result) (4 * c.in_ok-place.place + 1))
    (head_then c.args.words.now.items c.loop-level.words.items c.step.new.words.items c.loop-level.invariant.head c.in_ok-next.ensures.head)
    (head_set c.step.new.words.items (c.loop-level.table + c.index_at.result) (4 * c.in_ok-place.place + 1) (omega (arith, low)))
