use Rattle.std.proofs.Common.{◌≡◌, ◌+◌, [], ◌≤◌, sym, ap, ◌∙◌, subst, arith, List, ℕ, length, set, drop, get_or}
use Rattle.std.proofs.lemmas.Result.{err_from_is_err_and}
use Rattle.cas_model.specs.declared.contents.Pair.{Pair}
use Rattle.cas_model.specs.declared.object.Object.{Object}
use Rattle.cas_model.specs.Contents.{contents_state}
use Rattle.region_core.specs.Builds.{empty_region, HasCertificate}
use Rattle.region_core.specs.Places.{LieInOrder}
use Rattle.region_core.proofs.Finishing.{objects_start, object_can, object_more, object_refused, pairs_start, pair_can, pair_more, pair_refused, finished, finished_places, finished_long, certificate_stands, empty_long, first_rest, first_rest_or}
use Rattle.region_core.proofs.Inserting.{head_then}
use Rattle.region_core.proofs.building.build.Goals as goal

abbrev no_pair : Pair
no_pair = record { key = record { bytes = [] }; value = record { bytes = [] } }

pub loop-object-init : goal.loop-object-init
loop-object-init c = record {
  added = objects_start c.args.size c.in_ok-words.words.items c.args.contents.now.objects.items c.in_ok-words.ensures c.requires.lawful.storable;
  head = λ i h. ap (λ (ws : List ℕ). get_or ws i 0) c.in_ok-words.ensures;
  within = (let long : length c.in_ok-words.words.items ≡ 520 = ap length c.in_ok-words.ensures ∙ empty_long c.args.size in omega (arith, c.requires.least));
}

pub add_object-requires-clause-can : goal.add_object-requires-clause-can
add_object-requires-clause-can c =
    object_can c.loop-object.words.items c.args.contents.now.objects.items c.loop-object.object-index c.object-item.result (drop (c.loop-object.object-index + 1) c.args.contents.now.objects.items) c.loop-object.invariant.added
    (first_rest c.args.contents.now.objects.items c.deref-object-items.result.now c.loop-object.object-index c.object-item.result c.deref-object-items.ensures.value c.loop-object-test.true c.object-item.is)

pub loop-object-preserved : goal.loop-object-preserved
loop-object-preserved c = record {
  added = object_more c.loop-object.words.items c.add_object.new.words.items c.args.contents.now.objects.items c.loop-object.object-index c.object-item.result c.loop-object.invariant.added
      (first_rest c.args.contents.now.objects.items c.deref-object-items.result.now c.loop-object.object-index c.object-item.result c.deref-object-items.ensures.value c.loop-object-test.true c.object-item.is)
      c.in_ok-add_object.ensures.added;
  head = head_then (empty_region c.args.size) c.loop-object.words.items c.add_object.new.words.items c.loop-object.invariant.head c.in_ok-add_object.ensures.head;
  within = c.in_ok-add_object.ensures.within;
}

pub returns-in_err-words-clause-refused : goal.returns-in_err-words-clause-refused
returns-in_err-words-clause-refused c =
    let p = err_from_is_err_and c.from_residual.result c.from_residual.ensures.1 in
    rw (p.1, p.2) tt

pub returns-in_err-add_object-clause-refused : goal.returns-in_err-add_object-clause-refused
returns-in_err-add_object-clause-refused c =
    let p = err_from_is_err_and c.from_residual-in_err-add_object.result c.from_residual-in_err-add_object.ensures.1 in
    rw (p.1, p.2)
    (object_refused c.loop-object.words.items c.args.contents.now.objects.items c.args.contents.now.actions.items c.loop-object.object-index c.args.size c.object-item.result c.in_err-add_object.field-0.0 c.loop-object.invariant.added
    (first_rest c.args.contents.now.objects.items c.deref-object-items.result.now c.loop-object.object-index c.object-item.result c.deref-object-items.ensures.value c.loop-object-test.true c.object-item.is)
    c.in_err-add_object.ensures.refused)

pub loop-pair-init : goal.loop-pair-init
loop-pair-init c = record {
  added = pairs_start c.loop-object.words.items c.args.contents.now.objects.items c.args.contents.now.actions.items c.loop-object.object-index c.loop-object.invariant.added
      (subst (λ (xs : List Object). length xs ≤ c.loop-object.object-index) c.deref-object-items.ensures.value c.loop-object-test.false) c.requires.lawful.puttable;
  head = c.loop-object.invariant.head;
  within = c.loop-object.invariant.within;
}

pub add_pair-requires-clause-can : goal.add_pair-requires-clause-can
add_pair-requires-clause-can c =
    pair_can c.loop-pair.words.items c.args.contents.now.objects.items c.args.contents.now.actions.items c.loop-pair.pair-index (get_or c.deref-pair-items.result.now c.loop-pair.pair-index no_pair) (drop (c.loop-pair.pair-index + 1) c.args.contents.now.actions.items) c.loop-pair.invariant.added
    (first_rest_or c.args.contents.now.actions.items c.deref-pair-items.result.now c.loop-pair.pair-index no_pair c.deref-pair-items.ensures.value c.loop-pair-test.true)

pub loop-pair-preserved : goal.loop-pair-preserved
loop-pair-preserved c = record {
  added = pair_more c.loop-pair.words.items c.add_pair.new.words.items c.args.contents.now.objects.items c.args.contents.now.actions.items c.loop-pair.pair-index (get_or c.deref-pair-items.result.now c.loop-pair.pair-index no_pair) c.loop-pair.invariant.added
      (first_rest_or c.args.contents.now.actions.items c.deref-pair-items.result.now c.loop-pair.pair-index no_pair c.deref-pair-items.ensures.value c.loop-pair-test.true)
      c.in_ok-add_pair.ensures.added;
  head = head_then (empty_region c.args.size) c.loop-pair.words.items c.add_pair.new.words.items c.loop-pair.invariant.head c.in_ok-add_pair.ensures.head;
  within = c.in_ok-add_pair.ensures.within;
}

pub returns-in_err-add_pair-clause-refused : goal.returns-in_err-add_pair-clause-refused
returns-in_err-add_pair-clause-refused c =
    let p = err_from_is_err_and c.from_residual-in_err-add_pair.result c.from_residual-in_err-add_pair.ensures.1 in
    rw (p.1, p.2)
    (pair_refused c.loop-pair.words.items c.args.contents.now.objects.items c.args.contents.now.actions.items c.loop-pair.pair-index c.args.size (get_or c.deref-pair-items.result.now c.loop-pair.pair-index no_pair) c.in_err-add_pair.field-0.0 c.loop-pair.invariant.added
    (first_rest_or c.args.contents.now.actions.items c.deref-pair-items.result.now c.loop-pair.pair-index no_pair c.deref-pair-items.ensures.value c.loop-pair-test.true)
    c.in_err-add_pair.ensures.refused)

pub returns-clause-certified : goal.returns-clause-certified
returns-clause-certified c =
    let end : c.len.result ≡ length c.loop-pair.words.items = omega (arith, c.len.ensures, c.loop-pair.words.ok) in
    subst (λ n. HasCertificate (set c.loop-pair.words.items 3 n) c.args.size (contents_state c.args.contents.now.objects.items c.args.contents.now.actions.items)) (sym end)
    (finished c.loop-pair.words.items c.args.contents.now.objects.items c.args.contents.now.actions.items c.loop-pair.pair-index c.args.size c.requires.lawful c.requires.least c.requires.most c.loop-pair.invariant.within c.loop-pair.invariant.head c.loop-pair.invariant.added
    (subst (λ (xs : List Pair). length xs ≤ c.loop-pair.pair-index) c.deref-pair-items.ensures.value c.loop-pair-test.false))

pub returns-clause-stands : goal.returns-clause-stands
returns-clause-stands c = certificate_stands (set c.loop-pair.words.items 3 c.len.result) c.args.size (contents_state c.args.contents.now.objects.items c.args.contents.now.actions.items) (returns-clause-certified c)

pub returns-clause-places : goal.returns-clause-places
returns-clause-places c =
    let end : c.len.result ≡ length c.loop-pair.words.items = omega (arith, c.len.ensures, c.loop-pair.words.ok) in
    subst (λ n. LieInOrder (set c.loop-pair.words.items 3 n) c.args.contents.now.objects.items c.args.contents.now.actions.items) (sym end)
    (finished_places c.loop-pair.words.items c.args.contents.now.objects.items c.args.contents.now.actions.items c.loop-pair.pair-index c.loop-pair.invariant.added
    (subst (λ (xs : List Pair). length xs ≤ c.loop-pair.pair-index) c.deref-pair-items.ensures.value c.loop-pair-test.false))

pub returns-clause-long : goal.returns-clause-long
returns-clause-long c =
    let end : c.len.result ≡ length c.loop-pair.words.items = omega (arith, c.len.ensures, c.loop-pair.words.ok) in
    ap (λ n. length (set c.loop-pair.words.items 3 n)) end
    ∙ finished_long c.loop-pair.words.items c.args.contents.now.objects.items c.args.contents.now.actions.items c.loop-pair.pair-index c.loop-pair.invariant.added
    (subst (λ (xs : List Pair). length xs ≤ c.loop-pair.pair-index) c.deref-pair-items.ensures.value c.loop-pair-test.false)
