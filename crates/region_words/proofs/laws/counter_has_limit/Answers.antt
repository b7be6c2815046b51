use Rattle.region_words.proofs.Counting.{within-limit}
use Rattle.region_words.proofs.laws.counter_has_limit.Goals as goal

pub returns : goal.returns
returns c = within-limit
