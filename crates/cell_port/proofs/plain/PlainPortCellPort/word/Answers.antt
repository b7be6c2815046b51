use Rattle.std.proofs.Common.{sym, ◌∙◌}
use Rattle.cell_port.proofs.PlainTies.{word-of-record}
use Rattle.cell_port.proofs.plain.PlainPortCellPort.word.Goals as goal

pub returns-clause-word : goal.returns-clause-word
returns-clause-word g c =
    rw (← c.self.view_is) (word-of-record _ _ _ _ c.self.invariant.tied c.args.place c.args.index _ _ (sym c.record_at.ensures ∙ c.in-Some.is) c.digest_word.ensures)
