use Rattle.std.proofs.Common.{◌≡◌, ◌+◌, ◌<◌, ℕ, List, length, sym, ◌∙◌, subst}
use Rattle.cas_model.specs.declared.place.Space.TheVariants.{Actions}
use Rattle.region_core.specs.Words.{HasWords, words_of}
use Rattle.frozen_store.proofs.Facts.{Inside, value_none, value_empty, value_within, value_there, words_are}
use Rattle.frozen_store.proofs.frozen.Frozen.action.Goals as goal

pub cell-cell-requires : goal.cell-cell-requires
cell-cell-requires c = record { space = Actions; digest = c.args.key.now; is = sym c.in_ok-owner.ensures }

pub returns-then-cell-eq0 : goal.returns-then-cell-eq0
returns-then-cell-eq0 c = sym (value_empty c.args.self.now.tables c.args.key.now (c.cell-cell.ensures.cell Actions c.args.key.now (sym c.in_ok-owner.ensures) ∙ c.if-cell-eq0.true))

pub record_digest-requires : goal.record_digest-requires
record_digest-requires c =
    let y : Inside c.args.self.now = record { words = c.self.inside.words.items; objects = c.self.inside.counts.objects; actions = c.self.inside.counts.actions; frozen = c.self.invariant; is = c.self.view_is } in
    let same : c.as_slice.result.now ≡ c.args.self.now.words = c.as_slice.ensures.value ∙ sym (words_are c.args.self.now y) in
    subst (λ (ws : List ℕ). c.cell-cell.result + 4 < length ws) (sym same) (value_within c.args.self.now y c.args.key.now c.in_ok-owner.owner c.cell-cell.result (sym c.in_ok-owner.ensures) c.cell-cell.ensures.word c.if-cell-eq0.false)

pub returns : goal.returns
returns c =
    let y : Inside c.args.self.now = record { words = c.self.inside.words.items; objects = c.self.inside.counts.objects; actions = c.self.inside.counts.actions; frozen = c.self.invariant; is = c.self.view_is } in
    let same : c.as_slice.result.now ≡ c.args.self.now.words = c.as_slice.ensures.value ∙ sym (words_are c.args.self.now y) in
    sym (value_there c.args.self.now y c.args.key.now c.in_ok-owner.owner c.cell-cell.result c.record_digest.result (sym c.in_ok-owner.ensures) c.cell-cell.ensures.word c.if-cell-eq0.false c.record_digest.ensures.fits
    (subst (λ (ws : List ℕ). HasWords ws c.cell-cell.result (words_of c.record_digest.result.bytes)) same c.record_digest.ensures.words))

pub returns-in_err-owner : goal.returns-in_err-owner
returns-in_err-owner c = c.from_residual.ensures ∙ sym (value_none c.args.self.now.tables c.args.key.now c.look.result c.in_err-owner.was c.look.ensures)
