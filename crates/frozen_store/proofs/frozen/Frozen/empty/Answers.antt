use Rattle.std.proofs.Common.{◌∙◌}
use Rattle.frozen_store.proofs.Facts.{empty_state_of, empty_seen}
use Rattle.frozen_store.proofs.frozen.Frozen.empty.Goals as goal

pub of_closed-frozen-requires : goal.of_closed-frozen-requires
of_closed-frozen-requires c = empty_state_of c.args.size c.in_ok-words.words.items c.requires.least c.requires.most c.in_ok-words.ensures

pub returns-clause-words : goal.returns-clause-words
returns-clause-words c = c.of_closed-frozen.ensures ∙ c.in_ok-words.ensures

pub returns-clause-tables : goal.returns-clause-tables
returns-clause-tables c = empty_seen c.of_closed-frozen.result c.args.size c.seen.ensures (c.of_closed-frozen.ensures ∙ c.in_ok-words.ensures) c.requires.least c.requires.most
