-- why the image was not saved
use Rattle.std.proofs.Common.{◌+◌}
use Rattle.cas_command.proofs.RunLemmas.{put-stops}
use Rattle.cas_command.proofs.run.rotate_due.Goals as goal

pub returns-in-Err-clause-err : goal.returns-in-Err-clause-err
returns-in-Err-clause-err g c =
    put-stops (c.args.number + 1) c.args.next.now c.in-Some.bytes c.deref.result.now _ _ c.rotate.result c.in-Err.error c.put_answer.result c.in-Some.is c.deref.ensures.value c.rotate.ensures.saves c.rotate.ensures.once c.in-Err.is c.put_answer.ensures
