use Rattle.std.proofs.Common.{◌≡◌, ℕ, sym, ap, subst, arith}
use Rattle.cas_model.specs.declared.place.Place.{Place}
use Rattle.region_words.specs.Rule.{AddsToCounter, origin}
use Rattle.bump_arena.proofs.Composing.{claims-block, refuses-late}
use Rattle.bump_arena.proofs.claims.claim_held.Goals as goal

pub returns-then-place-words-clause-err : goal.returns-then-place-words-clause-err
returns-then-place-words-clause-err c =
    let size = c.size-size.ensures.same in
    let room = c.if-at-words.false in
    let full = c.if-place-words.true in
    refuses-late _ c.args.hold _ _ _ c.load_counter-at.result _ _ _ _ (omega arith) (omega arith) size c.load_counter-at.ensures.told c.add_to_counter-place.ensures.told

pub returns-clause-ok : goal.returns-clause-ok
returns-clause-ok c =
    let size = c.size-size.ensures.same in
    let room = c.if-at-words.false in
    let still = c.if-place-words.false in
    let place : c.of.result.place.at ≡ c.add_to_counter-place.result = ap (λ (p : Place). p.at) c.of.ensures.place in
    claims-block _ c.args.hold _ _ _ c.load_counter-at.result _ _ c.of.result (omega arith) (omega arith) c.of.ensures.length c.load_counter-at.ensures.told
    (subst (λ (k : ℕ). AddsToCounter (origin c.args.region.now.key) c.args.hold c.args.note c.args.words c.load_counter-at.new.seat.view k c.add_to_counter-place.new.seat.view) (sym place) c.add_to_counter-place.ensures.told)
