use Rattle.std.proofs.Common.{ℕ, subst}
use Rattle.std.specs.declared.option.Option.{Option}
use Rattle.region_check.specs.Passes.{RowOf}
use Rattle.region_check.specs.Shown.{LeastWhere, turn_of}
use Rattle.region_check.proofs.Ending.{row_first}
use Rattle.region_check.proofs.Firsts.{none_more}
use Rattle.region_check.proofs.checking.flaw_of.Goals as goal

pub kind_at-requires-clause-here : goal.kind_at-requires-clause-here
kind_at-requires-clause-here c = (subst (λ (o : Option ℕ). LeastWhere (RowOf c.args.words.now (turn_of c.args.row)) o) c.in-Some.is c.requires.least).here

pub returns-in-None : goal.returns-in-None
returns-in-None c = none_more c.args.words.now (turn_of c.args.row) c.requires.none (subst (λ (o : Option ℕ). LeastWhere (RowOf c.args.words.now (turn_of c.args.row)) o) c.in-None.is c.requires.least)

pub returns-in-Some : goal.returns-in-Some
returns-in-Some c =
    row_first c.args.words.now c.args.row c.in-Some.place c.kind_at.result c.requires.none (subst (λ (o : Option ℕ). LeastWhere (RowOf c.args.words.now (turn_of c.args.row)) o) c.in-Some.is c.requires.least) c.kind_at.ensures.kind
    c.kind_at.ensures.turn
