-- why the image was not saved
use Rattle.cas_command.proofs.RunLemmas.{put-stops}
use Rattle.cas_command.proofs.run.save_due.Goals as goal

pub returns-in-Err-clause-err : goal.returns-in-Err-clause-err
returns-in-Err-clause-err g c =
    put-stops c.args.number c.args.image.now c.in-Some.bytes c.deref.result.now _ _ c.save.result c.in-Err.error c.put_answer.result c.in-Some.is c.deref.ensures.value c.save.ensures.saves c.save.ensures.once c.in-Err.is c.put_answer.ensures
