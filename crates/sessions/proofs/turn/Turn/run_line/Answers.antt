-- a line of one call, or of an action
use Rattle.std.proofs.Common.{ap}
use Rattle.graph_db.proofs.Steps.{ends-on}
use Rattle.cas_script.specs.Lines.{history_line}
use Rattle.sessions.proofs.Stood.{line-ends, line-stops, store-line}
use Rattle.sessions.proofs.turn.Turn.run_line.Goals as goal

pub returns-in_err-store-in-Store-clause-err : goal.returns-in_err-store-in-Store-clause-err
returns-in_err-store-in-Store-clause-err g c =
    ends-on _ (line-stops _ _ _ _ _ _ c.requires.ready.speaks c.in_err-store-in-Store.ensures.err (store-line _ _ _ _ _ c.in-Store.is c.list.ensures c.list-in-Store.ensures))

pub returns-in_ok-store-in-Store-clause-ok : goal.returns-in_ok-store-in-Store-clause-ok
returns-in_ok-store-in-Store-clause-ok g c =
    line-ends _ _ _ _ _ _ _ _ c.in_ok-store-in-Store.ensures.ok c.requires.ready.speaks (store-line _ _ _ _ _ c.in-Store.is c.list.ensures c.list-in-Store.ensures)

pub returns-in_err-load-in-Load-clause-err : goal.returns-in_err-load-in-Load-clause-err
returns-in_err-load-in-Load-clause-err g c =
    ends-on _ (line-stops _ _ _ _ _ _ c.requires.ready.speaks c.in_err-load-in-Load.ensures.err (ap history_line c.in-Load.is))

pub returns-in_ok-load-in-Load-clause-ok : goal.returns-in_ok-load-in-Load-clause-ok
returns-in_ok-load-in-Load-clause-ok g c =
    line-ends _ _ _ _ _ _ _ _ c.in_ok-load-in-Load.ensures.ok c.requires.ready.speaks (ap history_line c.in-Load.is)

pub returns-in_err-put-in-Put-clause-err : goal.returns-in_err-put-in-Put-clause-err
returns-in_err-put-in-Put-clause-err g c =
    ends-on _ (line-stops _ _ _ _ _ _ c.requires.ready.speaks c.in_err-put-in-Put.ensures.err (ap history_line c.in-Put.is))

pub returns-in_ok-put-in-Put-clause-ok : goal.returns-in_ok-put-in-Put-clause-ok
returns-in_ok-put-in-Put-clause-ok g c =
    line-ends _ _ _ _ _ _ _ _ c.in_ok-put-in-Put.ensures.ok c.requires.ready.speaks (ap history_line c.in-Put.is)

pub returns-in_err-get-in-Get-clause-err : goal.returns-in_err-get-in-Get-clause-err
returns-in_err-get-in-Get-clause-err g c =
    ends-on _ (line-stops _ _ _ _ _ _ c.requires.ready.speaks c.in_err-get-in-Get.ensures.err (ap history_line c.in-Get.is))

pub returns-in_ok-get-in-Get-clause-ok : goal.returns-in_ok-get-in-Get-clause-ok
returns-in_ok-get-in-Get-clause-ok g c =
    line-ends _ _ _ _ _ _ _ _ c.in_ok-get-in-Get.ensures.ok c.requires.ready.speaks (ap history_line c.in-Get.is)
