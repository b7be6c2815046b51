use Rattle.std.proofs.Common.{subst, arith}
use Rattle.region_check.specs.declared.flaw.FlawKind.TheVariants.{Overlap}
use Rattle.region_check.specs.Flaws.{IsShared}
use Rattle.region_check.specs.Shown.{LeastWhere}
use Rattle.region_check.proofs.Ending.{none_or}
use Rattle.region_check.proofs.Firsts.{first_flaw, none_more}
use Rattle.region_check.proofs.checking.block_flaw.Goals as goal

pub path_flaw-requires-clause-none : goal.path_flaw-requires-clause-none
path_flaw-requires-clause-none c = none_more c.args.words.now 6 c.requires.none (subst (LeastWhere (IsShared c.args.words.now)) c.in-None.is c.requires.shared)

pub returns-in-Some : goal.returns-in-Some
returns-in-Some c =
    let least = subst (LeastWhere (IsShared c.args.words.now)) c.in-Some.is c.requires.shared in
    first_flaw c.args.words.now Overlap c.in-Some.place least.here c.requires.none least.least

pub returns-in-None : goal.returns-in-None
returns-in-None c = none_or c.args.words.now c.args.roles.now c.path_flaw.result c.requires.header c.requires.roles (λ i. omega (arith, c.type_inv.words i)) c.path_flaw.ensures

pub path_flaw-requires-clause-path : goal.path_flaw-requires-clause-path
path_flaw-requires-clause-path c = c.requires.path (none_more c.args.words.now 6 c.requires.none (subst (LeastWhere (IsShared c.args.words.now)) c.in-None.is c.requires.shared))
