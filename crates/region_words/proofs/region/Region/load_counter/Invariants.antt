use Rattle.region_words.specs.Rule.{origin, no_hold}
use Rattle.region_words.proofs.region.Region.load_counter.Given as goal

abbrev pub ghosts-load_counter_as : goal.ghosts-load_counter_as
ghosts-load_counter_as a = record { origin = origin a.self.now.key; note = a._note; asked = a._words; hold = no_hold; place = 0; index = 0 }
