use Rattle.std.proofs.Common.{◌≡◌, ℕ, List, length, take, sym, ap, ◌∙◌, subst, arith}
use Rattle.std.proofs.Math.Seq.{take-length}
use Rattle.cas_model.specs.declared.place.Space.TheVariants.{Actions}
use Rattle.region_core.specs.Leads.{digests_there}
use Rattle.frozen_store.specs.Gathers.{AreFilled}
use Rattle.frozen_store.proofs.Readings.{digests_more}
use Rattle.frozen_store.proofs.Sorting.{whole_region, whole_short, owner_inside, keys_sorted}
use Rattle.frozen_store.proofs.listing.keys_of.Goals as goal

pub filled_records-requires : goal.filled_records-requires
filled_records-requires c = record { region = whole_region c.args.words.now c.requires; short = whole_short c.args.words.now c.requires }

pub record_digest-requires : goal.record_digest-requires
record_digest-requires c =
    owner_inside c.args.words.now c.requires Actions c.deref-owner-items.result.now c.loop-owner.owner-index (subst (λ (ps : List ℕ). AreFilled c.args.words.now Actions ps) (sym c.deref-owner-items.ensures.value) c.in_ok-owners.ensures) c.loop-owner-test.true

pub loop-owner-init : goal.loop-owner-init
loop-owner-init c = c.new-keys.ensures.items

pub loop-owner-preserved : goal.loop-owner-preserved
loop-owner-preserved c =
    digests_more c.args.words.now c.deref-owner-items.result.now c.loop-owner.owner-index c.loop-owner.keys.items c.push.new.self.items c.record_digest.result c.loop-owner.invariant c.loop-owner-test.true c.record_digest.ensures.fits c.record_digest.ensures.words c.in_ok-push.ensures.items

pub returns : goal.returns
returns c =
    let all : c.loop-owner.owner-index ≡ length c.deref-owner-items.result.now = omega (arith, c.loop-owner-test.false, c.loop-owner.auto.owner-index-end) in
    let keys : c.loop-owner.keys.items ≡ digests_there c.args.words.now c.deref-owner-items.result.now = c.loop-owner.invariant ∙ ap (λ n. digests_there c.args.words.now (take n c.deref-owner-items.result.now)) all ∙ ap (digests_there c.args.words.now) (take-length c.deref-owner-items.result.now) in
    keys_sorted c.args.words.now c.requires c.deref-owner-items.result.now c.loop-owner.keys.items c.sort_unstable.new.self.items (subst (λ (ps : List ℕ). AreFilled c.args.words.now Actions ps) (sym c.deref-owner-items.ensures.value) c.in_ok-owners.ensures) keys c.sort_unstable.ensures.permutation c.sort_unstable.ensures.sorted
