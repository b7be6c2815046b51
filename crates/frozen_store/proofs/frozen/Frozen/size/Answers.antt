use Rattle.std.proofs.Common.{◌<◌, ℕ, List, length, get_or, sym, ap, ◌∙◌, arith}
use Rattle.std.proofs.lemmas.Grind.{get_or_default_zero}
use Rattle.frozen_store.proofs.Facts.{Inside, words_are}
use Rattle.frozen_store.proofs.frozen.Frozen.size.Goals as goal

pub index-requires : goal.index-requires
index-requires c = omega (arith, c.self.invariant.stands.headed.long, c.self.inside.words.ok)

pub returns : goal.returns
returns c =
    let y : Inside c.args.self.now = record { words = c.self.inside.words.items; objects = c.self.inside.counts.objects; actions = c.self.inside.counts.actions; frozen = c.self.invariant; is = c.self.view_is } in
    let long : 2 < length c.self.inside.words.items = omega (arith, c.self.invariant.stands.headed.long) in
    c.index.ensures ∙ get_or_default_zero c.self.inside.words.items 2 c.index.result.now long ∙ ap (λ (ws : List ℕ). get_or ws 2 0) (sym (words_are c.args.self.now y)) ∙ c.seen.ensures.stands.headed.size_there
