use Rattle.region_check.proofs.Links.{slot_least, range_least, path_least}
use Rattle.region_check.proofs.least.least_in_slots.Goals as goal

pub returns-clause-slot : goal.returns-clause-slot
returns-clause-slot c = slot_least c.args.words.now c.args.tries.now.objects.items c.args.tries.now.actions.items c.requires.tries c.leasts_shown.result.first c.leasts_shown.ensures.first

pub returns-clause-range : goal.returns-clause-range
returns-clause-range c = range_least c.args.words.now c.args.tries.now.objects.items c.args.tries.now.actions.items c.requires.tries c.leasts_shown.result.second c.leasts_shown.ensures.second

pub returns-clause-path : goal.returns-clause-path
returns-clause-path c = path_least c.args.words.now c.args.tries.now.objects.items c.args.tries.now.actions.items c.requires.tries c.leasts_shown.result.third c.leasts_shown.ensures.third
