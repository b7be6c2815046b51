use Rattle.std.proofs.Common.{◌≡◌, get_or, true, false, refl, sym, subst, below_more, arith}
use Rattle.cas_model.specs.declared.place.Space.TheVariants.{Objects}
use Rattle.region_core.specs.Leads.{IsFilledOf}
use Rattle.region_check.proofs.Loops.{first_reference, no_reference}
use Rattle.region_check.proofs.contents.absent_reference.Goals as goal

pub returns-then-not-is_present : goal.returns-then-not-is_present
returns-then-not-is_present c =
    first_reference c.args.words.now c.args.place c.loop-index.index (λ p. IsFilledOf c.args.words.now Objects (get_or c.args.words.now p 0) → ⊥) c.loop-index.invariant (omega (arith, c.loop-index-test.true, c.split_head-refs.ensures.refs))
    (λ filled. let clash : false ≡ true = c.if-not-is_present.ensures.1 (subst (IsFilledOf c.args.words.now Objects) (sym c.word_at.ensures) filled) in cc)

pub loop-index-preserved : goal.loop-index-preserved
loop-index-preserved c = below_more _ _ c.loop-index.invariant (λ h. h (subst (IsFilledOf c.args.words.now Objects) c.word_at.ensures (c.if-not-is_present.ensures.0 refl)))

pub returns : goal.returns
returns c = no_reference c.args.words.now c.args.place c.loop-index.index (λ p. IsFilledOf c.args.words.now Objects (get_or c.args.words.now p 0) → ⊥) c.loop-index.invariant (omega (arith, c.loop-index-test.false, c.split_head-refs.ensures.refs))
