-- what the decoder refused, as a refusal of the id
use Rattle.cas_model.proofs.IdLemmas.{met, refused-rest, refused-fits}
use Rattle.cas_model.proofs.id.Id.parse.Goals as goal

pub refusal-requires : goal.refusal-requires
refusal-requires c = refused-fits c.in-Some.digits.now c.in-Err.error (met _ _ _ c.in-Err.error c.decode_to_slice.ensures.value c.in-Err.is)

pub returns-in-Err : goal.returns-in-Err
returns-in-Err c =
    let prefix = c.in-Some.ensures.cases in
    rw c.refusal.ensures
    (refused-rest c.args.text.now c.in-Some.digits.now c.in-Err.error prefix.0 prefix.1 (met _ _ _ c.in-Err.error c.decode_to_slice.ensures.value c.in-Err.is))
