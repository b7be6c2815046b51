use Rattle.std.proofs.Common.{sym, ap, ◌∙◌}
use Rattle.std.specs.Option.{option_copied}
use Rattle.cell_port.proofs.RowLists.{words-first, words-second}
use Rattle.cell_port.proofs.tables.PlainTables.words_at.Goals as goal

pub returns-in-Some : goal.returns-in-Some
returns-in-Some c =
    rw (← c.self.view_is) (words-first c.self.inside.contents.items c.self.inside.old_contents.items _ _ (sym (ap option_copied c.in-Some.is) ∙ c.find_words.ensures))

pub returns-in-None : goal.returns-in-None
returns-in-None c =
    rw (← c.self.view_is)
    (c.find_words-in-None.ensures ∙ words-second c.self.inside.contents.items c.self.inside.old_contents.items _ (sym (ap option_copied c.in-None.is) ∙ c.find_words.ensures))
