use Rattle.image_file.proofs.ImageLemmas.{at-most}
use Rattle.image_file.proofs.writing.image_of.Goals as goal

pub bytes_of-requires : goal.bytes_of-requires
bytes_of-requires c = at-most _ _ _ _ c.seen.ensures.stands c.words.ensures
