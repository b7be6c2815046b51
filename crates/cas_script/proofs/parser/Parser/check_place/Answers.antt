use Rattle.std.proofs.Common.{arith}
use Rattle.cas_script.proofs.ParserSteps.{place_many, place_few}
use Rattle.cas_script.proofs.parser.Parser.check_place.Goals as goal

pub returns-then-len-ge-MOST_LINES : goal.returns-then-len-ge-MOST_LINES
returns-then-len-ge-MOST_LINES c =
    place_many c.args.self.now.sessions.items c.args.self.now.has_session c.args.self.now.lines.items c.if-not-self.false (omega arith)

pub returns-else-len-ge-MOST_LINES : goal.returns-else-len-ge-MOST_LINES
returns-else-len-ge-MOST_LINES c =
    place_few c.args.self.now.sessions.items c.args.self.now.has_session c.args.self.now.lines.items c.if-not-self.false (omega arith)
