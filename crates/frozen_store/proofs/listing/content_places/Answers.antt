use Rattle.std.proofs.Common.{◌≡◌, ℕ, List, length, take, sym, ap, ◌∙◌, subst, arith}
use Rattle.std.proofs.Math.Seq.{take-length}
use Rattle.cas_model.specs.declared.place.Space.TheVariants.{Objects}
use Rattle.frozen_store.specs.Gathers.{AreFilled}
use Rattle.frozen_store.specs.Reads.{cells_there}
use Rattle.frozen_store.proofs.Sorting.{whole_region, whole_short, owner_inside, cells_more, places_sorted}
use Rattle.frozen_store.proofs.listing.content_places.Goals as goal

pub filled_records-requires : goal.filled_records-requires
filled_records-requires c = record { region = whole_region c.args.words.now c.requires; short = whole_short c.args.words.now c.requires }

pub overflow_add-owner : goal.overflow_add-owner
overflow_add-owner c =
    let inside = owner_inside c.args.words.now c.requires Objects c.deref-owner-items.result.now c.loop-owner.owner-index (subst (λ (ps : List ℕ). AreFilled c.args.words.now Objects ps) (sym c.deref-owner-items.ensures.value) c.in_ok-owners.ensures) c.loop-owner-test.true in
    omega (arith, inside, whole_short c.args.words.now c.requires)

pub offset_bounds-words-owner : goal.offset_bounds-words-owner
offset_bounds-words-owner c =
    let inside = owner_inside c.args.words.now c.requires Objects c.deref-owner-items.result.now c.loop-owner.owner-index (subst (λ (ps : List ℕ). AreFilled c.args.words.now Objects ps) (sym c.deref-owner-items.ensures.value) c.in_ok-owners.ensures) c.loop-owner-test.true in
    omega (arith, inside, whole_short c.args.words.now c.requires)

pub bounds-words-owner : goal.bounds-words-owner
bounds-words-owner c =
    owner_inside c.args.words.now c.requires Objects c.deref-owner-items.result.now c.loop-owner.owner-index (subst (λ (ps : List ℕ). AreFilled c.args.words.now Objects ps) (sym c.deref-owner-items.ensures.value) c.in_ok-owners.ensures) c.loop-owner-test.true

pub loop-owner-init : goal.loop-owner-init
loop-owner-init c = c.new-places.ensures.items

pub loop-owner-preserved : goal.loop-owner-preserved
loop-owner-preserved c =
    cells_more c.args.words.now c.deref-owner-items.result.now c.loop-owner.owner-index c.loop-owner.places.items c.push.new.self.items c.loop-owner.invariant c.loop-owner-test.true c.in_ok-push.ensures.items

pub returns : goal.returns
returns c =
    let all : c.loop-owner.owner-index ≡ length c.deref-owner-items.result.now = omega (arith, c.loop-owner-test.false, c.loop-owner.auto.owner-index-end) in
    let cells : c.loop-owner.places.items ≡ cells_there c.args.words.now c.deref-owner-items.result.now = c.loop-owner.invariant ∙ ap (λ n. cells_there c.args.words.now (take n c.deref-owner-items.result.now)) all ∙ ap (cells_there c.args.words.now) (take-length c.deref-owner-items.result.now) in
    places_sorted c.args.words.now c.requires c.deref-owner-items.result.now c.loop-owner.places.items c.sort_unstable.new.self.items (subst (λ (ps : List ℕ). AreFilled c.args.words.now Objects ps) (sym c.deref-owner-items.ensures.value) c.in_ok-owners.ensures) cells c.sort_unstable.ensures.permutation c.sort_unstable.ensures.sorted
