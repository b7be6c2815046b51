use Rattle.std.proofs.Common.{sym, ap, ◌∙◌, subst, length}
use Rattle.std.proofs.lemmas.Result.{err_from_is_err_and}
use Rattle.cas_model.specs.Contents.{contents_state}
use Rattle.region_core.specs.Places.{LieInOrder}
use Rattle.frozen_store.proofs.Facts.{state_of, same_state, same_size}
use Rattle.frozen_store.proofs.frozen.Frozen.of_contents.Goals as goal

pub of_closed-frozen-requires : goal.of_closed-frozen-requires
of_closed-frozen-requires c = state_of c.in_ok-words.words.items c.args.size (contents_state c.args.contents.now.objects.items c.args.contents.now.actions.items) c.in_ok-words.ensures.stands

pub returns-clause-state : goal.returns-clause-state
returns-clause-state c = same_state c.of_closed-frozen.result c.in_ok-words.words.items c.args.size (contents_state c.args.contents.now.objects.items c.args.contents.now.actions.items) c.seen.ensures c.of_closed-frozen.ensures c.in_ok-words.ensures.stands

pub returns-clause-size : goal.returns-clause-size
returns-clause-size c = same_size c.of_closed-frozen.result c.in_ok-words.words.items c.args.size (contents_state c.args.contents.now.objects.items c.args.contents.now.actions.items) c.seen.ensures c.of_closed-frozen.ensures c.in_ok-words.ensures.stands

pub returns-clause-places : goal.returns-clause-places
returns-clause-places c = subst (λ words. LieInOrder words c.args.contents.now.objects.items c.args.contents.now.actions.items) (sym c.of_closed-frozen.ensures) c.in_ok-words.ensures.places

pub returns-clause-long : goal.returns-clause-long
returns-clause-long c = ap length c.of_closed-frozen.ensures ∙ c.in_ok-words.ensures.long

pub returns-in_err-words-clause-refused : goal.returns-in_err-words-clause-refused
returns-in_err-words-clause-refused c =
    let p = err_from_is_err_and c.from_residual.result c.from_residual.ensures.1 in
    rw (p.1, p.2) c.in_err-words.ensures.refused
