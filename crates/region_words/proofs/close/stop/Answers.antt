use Rattle.std.proofs.Common.{rules}
use Rattle.region_words.proofs.Ending.{closes}
use Rattle.region_words.proofs.close.stop.Goals as goal

pub returns-clause-ends : goal.returns-clause-ends
returns-clause-ends c = search (rules, closes)
