use Rattle.region_words.specs.Rule.{origin, no_note, no_hold}
use Rattle.region_words.proofs.region.RegionSeat.hear.Given as goal

abbrev pub ghosts-hear_as : goal.ghosts-hear_as
ghosts-hear_as a = record { origin = origin a.region.now.key; note = no_note; asked = 0; hold = no_hold; place = 0; index = 0 }
