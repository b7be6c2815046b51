use Rattle.std.proofs.Common.{◌≡◌, [], length, refl, take, get_or, sym, ap, ◌∙◌, subst, arith}
use Rattle.std.proofs.Math.Seq.{take-length}
use Rattle.cas_model.specs.Primary.{primary}
use Rattle.frozen_store.specs.Lists.{AreObjects, AreKeys}
use Rattle.frozen_store.specs.Reads.{IsWhole}
use Rattle.frozen_store.specs.Seen.{IsSeen, FrozenSeen}
use Rattle.frozen_store.proofs.Facts.{is_seen}
use Rattle.frozen_store.proofs.Listings.{ArePairsOf, none_some, whole_of, no_pairs, pairs_more, key_has, contents_listed, listed-fit, listed-short}
use Rattle.frozen_store.proofs.Sorting.{in_at}
use Rattle.frozen_store.proofs.frozen.Frozen.contents.Goals as goal

pub objects_of-requires : goal.objects_of-requires
objects_of-requires c =
    let x : IsSeen c.args.self.now = subst IsSeen c.self.view_is (is_seen c.self.inside.words.items c.self.inside.counts.objects c.self.inside.counts.actions c.self.invariant) in
    let same : c.as_slice.result.now ≡ c.args.self.now.words = c.as_slice.ensures.value ∙ ap (λ (z : FrozenSeen). z.words) c.self.view_is in
    subst IsWhole (sym same) (whole_of c.args.self.now x)

pub keys_of-requires : goal.keys_of-requires
keys_of-requires c =
    let x : IsSeen c.args.self.now = subst IsSeen c.self.view_is (is_seen c.self.inside.words.items c.self.inside.counts.objects c.self.inside.counts.actions c.self.invariant) in
    let same : c.as_slice-2.result.now ≡ c.args.self.now.words = c.as_slice-2.ensures.value ∙ ap (λ (z : FrozenSeen). z.words) c.self.view_is in
    subst IsWhole (sym same) (whole_of c.args.self.now x)

pub loop-key-init : goal.loop-key-init
loop-key-init c = no_pairs (primary c.args.self.now.tables) c.deref-key-items.result.now c.new-actions.result.items c.new-actions.ensures.items

pub unreachable-requires : goal.unreachable-requires
unreachable-requires c =
    let x : IsSeen c.args.self.now = subst IsSeen c.self.view_is (is_seen c.self.inside.words.items c.self.inside.counts.objects c.self.inside.counts.actions c.self.invariant) in
    let same : c.as_slice-2.result.now ≡ c.args.self.now.words = c.as_slice-2.ensures.value ∙ ap (λ (z : FrozenSeen). z.words) c.self.view_is in
    let keys : AreKeys c.args.self.now.words c.deref-key-items.result.now = subst (AreKeys c.args.self.now.words) (sym c.deref-key-items.ensures.value) (subst (λ ws. AreKeys ws c.in_ok-keys.keys.items) same c.in_ok-keys.ensures) in
    let value = key_has c.args.self.now.words (whole_of c.args.self.now x) c.deref-key-items.result.now (get_or c.deref-key-items.result.now c.loop-key.key-index (record { bytes = [] })) keys (in_at c.deref-key-items.result.now c.loop-key.key-index (record { bytes = [] }) c.loop-key-test.true) in
    none_some (sym c.in-None.is ∙ c.action.ensures ∙ value.1)

pub loop-key-preserved : goal.loop-key-preserved
loop-key-preserved c =
    pairs_more (primary c.args.self.now.tables) c.deref-key-items.result.now c.loop-key.key-index (record { bytes = [] }) c.loop-key.actions.items c.push.new.self.items (record { key = get_or c.deref-key-items.result.now c.loop-key.key-index (record { bytes = [] }); value = c.in-Some.value })
    c.loop-key.invariant c.loop-key-test.true refl (sym c.action.ensures ∙ c.in-Some.is) c.in_ok-push-in-Some.ensures.items

pub returns : goal.returns
returns c =
    let x : IsSeen c.args.self.now = subst IsSeen c.self.view_is (is_seen c.self.inside.words.items c.self.inside.counts.objects c.self.inside.counts.actions c.self.invariant) in
    let same : c.as_slice.result.now ≡ c.args.self.now.words = c.as_slice.ensures.value ∙ ap (λ (z : FrozenSeen). z.words) c.self.view_is in
    let other : c.as_slice-2.result.now ≡ c.args.self.now.words = c.as_slice-2.ensures.value ∙ ap (λ (z : FrozenSeen). z.words) c.self.view_is in
    let keys : AreKeys c.args.self.now.words c.deref-key-items.result.now = subst (AreKeys c.args.self.now.words) (sym c.deref-key-items.ensures.value) (subst (λ ws. AreKeys ws c.in_ok-keys.keys.items) other c.in_ok-keys.ensures) in
    let all : c.loop-key.key-index ≡ length c.deref-key-items.result.now = omega (arith, c.loop-key-test.false, c.loop-key.auto.key-index-end) in
    let pairs : ArePairsOf (primary c.args.self.now.tables) c.deref-key-items.result.now c.loop-key.actions.items = subst (λ ks. ArePairsOf (primary c.args.self.now.tables) ks c.loop-key.actions.items) (ap (λ n. take n c.deref-key-items.result.now) all ∙ take-length c.deref-key-items.result.now) c.loop-key.invariant in
    let held = contents_listed c.args.self.now x c.in_ok-objects.objects.items c.deref-key-items.result.now c.loop-key.actions.items (subst (λ ws. AreObjects ws c.in_ok-objects.objects.items) same c.in_ok-objects.ensures) keys pairs in
    record {
      held = held;
      fits = listed-fit c.args.self.now c.in_ok-objects.objects.items c.loop-key.actions.items x held;
      short = listed-short c.args.self.now c.in_ok-objects.objects.items c.loop-key.actions.items x held;
    }
