use Rattle.std.proofs.Common.{◌≡◌, ◌+◌, ◌-◌, length, sym, ◌∙◌, arith}
use Rattle.std.proofs.lemmas.Bool.{eqb-true}
use Rattle.cas_port.proofs.Laid.{laid-room, laid-first, laid-pushed, laid-before}
use Rattle.cas_port.proofs.block.Written.set.Goals as goal

pub returns-then-index-count : goal.returns-then-index-count
returns-then-index-count c =
    rw (← c.self.view_is) (laid-first c.self.inside.words.items c.self.inside.later.items c.self.inside.length c.args.index c.args.word (omega (arith, c.if-index-count.true, c.len-count.ensures)))

pub returns-then-is_empty : goal.returns-then-is_empty
returns-then-is_empty c =
    let room = laid-room c.args.self.now c.self.inside.words.items c.self.inside.later.items c.self.inside.length c.args.index c.self.view_is c.self.invariant.0 c.requires in
    let at : c.args.index ≡ length c.self.inside.words.items = omega (arith, c.if-index-count-2.true, c.len-count.ensures) in
    let none : length c.self.inside.later.items ≡ 0 =
    sym c.self.inside.later.ok.0 ∙ eqb-true c.self.inside.later.len 0 (sym c.is_empty.ensures ∙ c.if-is_empty.true) in
    rw (← c.self.view_is) (laid-pushed c.self.inside.words.items _ c.self.inside.later.items c.self.inside.length c.args.index c.args.word c.push_reserved.ensures.items none at room)

pub returns-else-index-count-2 : goal.returns-else-index-count-2
returns-else-index-count-2 c =
    let room = laid-room c.args.self.now c.self.inside.words.items c.self.inside.later.items c.self.inside.length c.args.index c.self.view_is c.self.invariant.0 c.requires in
    let at : c.args.index ≡ length c.self.inside.words.items + (c.args.index - c.len-count.result) = omega (arith, c.if-index-count.false, c.len-count.ensures) in
    rw (← c.self.view_is)
    (laid-before c.self.inside.words.items c.self.inside.later.items _ c.self.inside.length c.args.index (c.args.index - c.len-count.result) c.args.word c.extend_to.ensures.items at room c.self.invariant.0)
