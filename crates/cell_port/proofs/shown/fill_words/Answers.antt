use Rattle.std.proofs.Common.{◌≡◌, ◌-◌, length, get_or, ap, sym, ◌∙◌, arith}
use Rattle.cas_history.specs.declared.event.Event.{Event}
use Rattle.cell_port.specs.Shown.{act_words}
use Rattle.cell_port.proofs.PlainKeeps.{words-at, not-fill}
use Rattle.cell_port.proofs.shown.fill_words.Goals as goal

pub returns-in-Fill : goal.returns-in-Fill
returns-in-Fill c =
    let same : length c.args.events.now.items - 1 - c.args.before ≡ c.len.result - 1 - c.args.before = omega (arith, c.len.ensures) in
    c.list.ensures
    ∙ sym (words-at c.args.events.now.items c.args.before c.index.result.now c.requires
    ∙ ap (λ k. act_words (get_or c.args.events.now.items k c.index.result.now).act) same
    ∙ sym (ap (λ (e : Event). act_words e.act) c.index.ensures)
    ∙ ap act_words c.in-Fill.is)

pub returns-in_default : goal.returns-in_default
returns-in_default c =
    let same : length c.args.events.now.items - 1 - c.args.before ≡ c.len.result - 1 - c.args.before = omega (arith, c.len.ensures) in
    sym (words-at c.args.events.now.items c.args.before c.index.result.now c.requires
    ∙ ap (λ k. act_words (get_or c.args.events.now.items k c.index.result.now).act) same
    ∙ sym (ap (λ (e : Event). act_words e.act) c.index.ensures)
    ∙ not-fill c.index.result.now.act c.in_default.not-Fill)
