use Rattle.std.proofs.Common.{sym, ◌∙◌, option_copied}
use Rattle.std.proofs.lemmas.Bool.Decides.{Decides-eqb}
use Rattle.std.proofs.lemmas.Slice.Eq.{slice_eq-Decides}
use Rattle.cas_script.specs.Text.{more_pieces}
use Rattle.cas_script.specs.Parsing.{sessions_of}
use Rattle.cas_script.proofs.ParserSteps.{opened, verb_refused}
use Rattle.cas_script.proofs.parser.Parser.add.Goals as goal

pub returns-then-eq-clause-ok : goal.returns-then-eq-clause-ok
returns-then-eq-clause-ok c =
    opened c.begin.result (sessions_of c.args.self.now) (sessions_of c.begin.new.self) c.args.line.now c.cut.result.0.now
    (more_pieces 32 (option_copied c.cut.result.1)) c.cut.ensures ((slice_eq-Decides Decides-eqb _ _ _ c.eq.ensures).0 c.if-eq.true)
    c.begin.ensures.bare c.begin.ensures.ok

pub returns-in-Some-clause-err : goal.returns-in-Some-clause-err
returns-in-Some-clause-err c =
    verb_refused c.say.result (sessions_of c.args.self.now) c.args.line.now c.cut.result.0.now (more_pieces 32 (option_copied c.cut.result.1))
    c.in-Some.verb (sym c.speaks.ensures ∙ c.if-not-speaks.false) c.cut.ensures c.in-Some.ensures c.say.ensures.err
