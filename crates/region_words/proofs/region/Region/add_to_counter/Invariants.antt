use Rattle.region_words.specs.Rule.{origin}
use Rattle.region_words.proofs.region.Region.add_to_counter.Given as goal

abbrev pub ghosts-add_to_counter_as : goal.ghosts-add_to_counter_as
ghosts-add_to_counter_as a = record { origin = origin a.self.now.key; note = a._note; asked = a.words; hold = a._hold; place = 0; index = 0 }
