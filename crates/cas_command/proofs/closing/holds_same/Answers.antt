-- whether the contents are what was opened, by their numbers
use Rattle.std.proofs.Common.{sym, ◌∙◌}
use Rattle.cas_command.proofs.ClosingLemmas.{counts-other, counts-same, nothing-new, something-new}
use Rattle.cas_command.proofs.closing.holds_same.Goals as goal

pub returns-clause-same : goal.returns-clause-same
returns-clause-same c same =
    nothing-new _ c.args.contents.now.objects.items c.args.contents.now.actions.items c.counts_of.result c.counts.result c.requires.lawful c.requires.grows c.counts_of.ensures.objects
    c.counts_of.ensures.actions c.counts.ensures.objects c.counts.ensures.actions
    (counts-same c.counts_of.result c.counts.result (sym same ∙ c.eq.ensures))

pub returns-clause-other : goal.returns-clause-other
returns-clause-other c other =
    something-new _ c.args.contents.now.objects.items c.args.contents.now.actions.items c.counts_of.result c.counts.result c.requires.lawful c.counts_of.ensures.objects
    c.counts_of.ensures.actions c.counts.ensures.objects c.counts.ensures.actions
    (counts-other c.counts_of.result c.counts.result (sym other ∙ c.eq.ensures))
