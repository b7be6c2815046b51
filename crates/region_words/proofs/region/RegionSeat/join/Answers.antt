use Rattle.region_words.proofs.Seating.{takes-in}
use Rattle.region_words.proofs.region.RegionSeat.join.Goals as goal

pub returns-clause-views : goal.returns-clause-views
returns-clause-views c = takes-in _ _ _ _ _ c.glue.ensures.view c.hear.ensures.told
