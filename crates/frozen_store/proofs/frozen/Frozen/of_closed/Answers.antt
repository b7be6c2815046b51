use Rattle.std.proofs.Common.{subst, List, ℕ, length}
use Rattle.region_core.specs.Stands.{AreWords}
use Rattle.cas_model.specs.declared.place.Space.TheVariants.{Objects, Actions}
use Rattle.frozen_store.specs.Gathers.{AreFilled}
use Rattle.frozen_store.specs.Seen.{IsFrozen}
use Rattle.frozen_store.proofs.Facts.{frozen_of, region_of, short_of}
use Rattle.frozen_store.proofs.frozen.Frozen.of_closed.Goals as goal

pub count_filled-objects-requires : goal.count_filled-objects-requires
count_filled-objects-requires c = record {
  region = region_of c.as_slice-list.result.now c.args.words.items c.as_slice-list.ensures.value c.requires c.words_fit.ensures;
  short = short_of c.as_slice-list.result.now c.args.words.items c.as_slice-list.ensures.value c.requires;
}

pub count_filled-actions-requires : goal.count_filled-actions-requires
count_filled-actions-requires c = record {
  region = region_of c.as_slice-list.result.now c.args.words.items c.as_slice-list.ensures.value c.requires c.words_fit.ensures;
  short = short_of c.as_slice-list.result.now c.args.words.items c.as_slice-list.ensures.value c.requires;
}

pub invariant_of-result : goal.invariant_of-result
invariant_of-result c =
    let same = c.as_slice-list.ensures.value in
    let objects = c.count_filled-objects.ensures in
    let actions = c.count_filled-actions.ensures in
    let frozen = frozen_of c.args.words.items objects.places actions.places c.requires.state c.requires.stands (subst AreWords same c.words_fit.ensures)
    (subst (λ (ws : List ℕ). AreFilled ws Objects objects.places) same objects.filled)
    (subst (λ (ws : List ℕ). AreFilled ws Actions actions.places) same actions.filled) in
    subst (λ n. IsFrozen c.args.words.items n c.count_filled-actions.result) objects.long (subst (λ n. IsFrozen c.args.words.items (length objects.places) n) actions.long frozen)
