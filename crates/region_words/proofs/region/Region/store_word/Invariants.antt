use Rattle.region_words.specs.Rule.{no_origin, no_note}
use Rattle.region_words.proofs.region.Region.store_word.Given as goal

abbrev pub ghosts-store_word_as : goal.ghosts-store_word_as
ghosts-store_word_as a = record { origin = no_origin; note = no_note; asked = 0; hold = a._hold; place = a.place; index = a.index }
