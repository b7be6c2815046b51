use Rattle.image_file.proofs.ImageLemmas.{one-image, lawful-read}
use Rattle.image_file.proofs.law.images_are_read_back.Goals as goal

pub returns-clause-one : goal.returns-clause-one
returns-clause-one c = one-image

pub returns-clause-read : goal.returns-clause-read
returns-clause-read c = lawful-read
