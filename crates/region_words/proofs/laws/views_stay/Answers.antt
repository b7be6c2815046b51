use Rattle.region_words.proofs.Viewing.{go-step, go-still, go-split, go-join}
use Rattle.region_words.proofs.laws.views_stay.Goals as goal

pub returns-clause-steps : goal.returns-clause-steps
returns-clause-steps c = go-step

pub returns-clause-quiet : goal.returns-clause-quiet
returns-clause-quiet c = go-still

pub returns-clause-splits : goal.returns-clause-splits
returns-clause-splits c = go-split

pub returns-clause-joins : goal.returns-clause-joins
returns-clause-joins c = go-join
