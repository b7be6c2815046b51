use Rattle.std.proofs.Common.{Some, sym, ap, ◌∙◌}
use Rattle.cell_port.proofs.PlainKeeps.{number-below, shown-found, shown-not}
use Rattle.cell_port.proofs.shown.words_at.Goals as goal

pub fill_words-requires : goal.fill_words-requires
fill_words-requires c = number-below _ c.args.shown.now c.args.place c.in-Some.before c.requires (sym c.in-Some.is ∙ c.number_at.ensures)

pub returns-in-Some : goal.returns-in-Some
returns-in-Some c =
    ap Some c.fill_words.ensures ∙ sym (shown-found c.args.events.now.items c.args.shown.now c.args.tables.now.blocks c.args.place c.in-Some.before (sym c.in-Some.is ∙ c.number_at.ensures))

pub returns-in-None : goal.returns-in-None
returns-in-None c =
    c.words_at.ensures ∙ sym (shown-not c.args.events.now.items c.args.shown.now c.args.tables.now.blocks c.args.place (sym c.in-None.is ∙ c.number_at.ensures))
