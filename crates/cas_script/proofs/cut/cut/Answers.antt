use Rattle.std.proofs.Common.{◌∙◌}
use Rattle.cas_script.proofs.PieceLists.{pieces_at, pieces_none, to_end}
use Rattle.cas_script.proofs.cut.cut.Goals as goal

pub returns-in-Some : goal.returns-in-Some
returns-in-Some c =
    pieces_at c.args.mark c.args.text.now c.in-Some.at c.in-Some.ensures
    ∙ to_end c.args.mark c.args.text.now c.in-Some.at

pub returns-in-None : goal.returns-in-None
returns-in-None c = pieces_none c.args.mark c.args.text.now c.in-None.ensures
