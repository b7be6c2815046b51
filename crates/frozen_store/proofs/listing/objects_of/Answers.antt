use Rattle.std.proofs.Common.{◌≡◌, ℕ, List, length, take, sym, ap, ◌∙◌, subst, arith}
use Rattle.std.proofs.Math.Seq.{take-length}
use Rattle.frozen_store.specs.Lists.{AreContentPlaces, objects_there}
use Rattle.frozen_store.proofs.Listings.{place_content, objects_more}
use Rattle.frozen_store.proofs.listing.objects_of.Goals as goal

pub object_at-requires : goal.object_at-requires
object_at-requires c =
    place_content c.args.words.now c.requires c.deref-place-items.result.now c.loop-place.place-index (subst (λ (ps : List ℕ). AreContentPlaces c.args.words.now ps) (sym c.deref-place-items.ensures.value) c.in_ok-places.ensures) c.loop-place-test.true

pub loop-place-init : goal.loop-place-init
loop-place-init c = c.new-objects.ensures.items

pub loop-place-preserved : goal.loop-place-preserved
loop-place-preserved c =
    objects_more c.args.words.now c.deref-place-items.result.now c.loop-place.place-index c.loop-place.objects.items c.push.new.self.items c.in_ok-object_at.field-0 c.loop-place.invariant c.loop-place-test.true c.in_ok-object_at.ensures c.in_ok-push.ensures.items

pub returns : goal.returns
returns c =
    let all : c.loop-place.place-index ≡ length c.deref-place-items.result.now = omega (arith, c.loop-place-test.false, c.loop-place.auto.place-index-end) in
    record {
      places = c.deref-place-items.result.now;
      places_are = subst (λ (ps : List ℕ). AreContentPlaces c.args.words.now ps) (sym c.deref-place-items.ensures.value) c.in_ok-places.ensures;
      is = c.loop-place.invariant ∙ ap (λ n. objects_there c.args.words.now (take n c.deref-place-items.result.now)) all ∙ ap (objects_there c.args.words.now) (take-length c.deref-place-items.result.now);
    }
