use Rattle.std.proofs.Common.{◌+◌, ◌<◌, ℕ, List, length, get_or, arith, sym, ap, ◌∙◌, subst}
use Rattle.std.proofs.lemmas.Grind.{get_or_default_zero}
use Rattle.frozen_store.proofs.Facts.{Inside, seen_inside, seen_short, seen_cell, words_are}
use Rattle.frozen_store.proofs.frozen.Frozen.cell.Goals as goal

pub overflow_add-owner : goal.overflow_add-owner
overflow_add-owner c =
    let y : Inside c.args.self.now = record { words = c.self.inside.words.items; objects = c.self.inside.counts.objects; actions = c.self.inside.counts.actions; frozen = c.self.invariant; is = c.self.view_is } in
    omega (arith, seen_inside c.args.self.now y c.args.owner c.requires, seen_short c.args.self.now y)

pub index-requires : goal.index-requires
index-requires c =
    let y : Inside c.args.self.now = record { words = c.self.inside.words.items; objects = c.self.inside.counts.objects; actions = c.self.inside.counts.actions; frozen = c.self.invariant; is = c.self.view_is } in
    let inside : c.args.owner.at + 4 < length c.self.inside.words.items = subst (λ (ws : List ℕ). c.args.owner.at + 4 < length ws) (words_are c.args.self.now y) (seen_inside c.args.self.now y c.args.owner c.requires) in
    omega (arith, inside, c.self.inside.words.ok)

pub returns-clause-word : goal.returns-clause-word
returns-clause-word c =
    let y : Inside c.args.self.now = record { words = c.self.inside.words.items; objects = c.self.inside.counts.objects; actions = c.self.inside.counts.actions; frozen = c.self.invariant; is = c.self.view_is } in
    let inside : c.args.owner.at + 4 < length c.self.inside.words.items = subst (λ (ws : List ℕ). c.args.owner.at + 4 < length ws) (words_are c.args.self.now y) (seen_inside c.args.self.now y c.args.owner c.requires) in
    c.index.ensures ∙ get_or_default_zero c.self.inside.words.items (c.args.owner.at + 4) c.index.result.now inside ∙ ap (λ (ws : List ℕ). get_or ws (c.args.owner.at + 4) 0) (sym (words_are c.args.self.now y))

pub returns-clause-cell : goal.returns-clause-cell
returns-clause-cell c = λ space d h.
    let y : Inside c.args.self.now = record { words = c.self.inside.words.items; objects = c.self.inside.counts.objects; actions = c.self.inside.counts.actions; frozen = c.self.invariant; is = c.self.view_is } in
    seen_cell c.args.self.now y space d c.args.owner h ∙ sym (returns-clause-word c)
