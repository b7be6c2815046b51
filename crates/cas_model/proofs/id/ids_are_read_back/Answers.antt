use Rattle.cas_model.proofs.ReadBack.{ids-read-back}
use Rattle.cas_model.proofs.id.ids_are_read_back.Goals as goal

pub returns : goal.returns
returns c = ids-read-back
