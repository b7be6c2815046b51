use Rattle.std.proofs.Common.{arith, sym, ◌∙◌}
use Rattle.cas_script.specs.Parsing.{sessions_of}
use Rattle.cas_script.proofs.ParserSteps.{bare_refused}
use Rattle.cas_script.proofs.parser.Parser.begin.Goals as goal

pub returns-then-is_some-clause-err : goal.returns-then-is_some-clause-err
returns-then-is_some-clause-err c =
    bare_refused (sessions_of c.args.self.now) c.args.rest (omega arith) (sym c.is_some.ensures ∙ c.if-is_some.true)
