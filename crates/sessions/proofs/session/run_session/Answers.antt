-- one line after another
use Rattle.std.proofs.Common.{add-one}
use Rattle.graph_db.proofs.Steps.{ends-on}
use Rattle.cas_script.specs.Limits.{FitsLine}
use Rattle.sessions.proofs.LinesRun.{lines-none, lines-next, lines-stop, lines-all, lines-ready, lines-few, item-at, all-at, lawful-on, lines-past}
use Rattle.sessions.proofs.session.run_session.Goals as goal

pub loop-line-init : goal.loop-line-init
loop-line-init g c = rw c.new-replies.ensures.items (lines-none _ _ _ c.requires.unseen)

pub run_line-requires-clause-ready : goal.run_line-requires-clause-ready
run_line-requires-clause-ready g c = lines-ready _ _ _ _ _ (g.P.CellPort.view c.args.port.now) _ c.requires.upstream c.requires.unseen c.loop-line.invariant

pub run_line-requires-clause-few : goal.run_line-requires-clause-few
run_line-requires-clause-few g c =
    lines-few _ _ _ _ _ _ _ (item-at _ _ _ _ c.list-line-items.ensures c.loop-line-test.true c.line-item.is) c.requires.fits.few c.loop-line.invariant

pub run_line-requires-clause-fits : goal.run_line-requires-clause-fits
run_line-requires-clause-fits g c = all-at FitsLine _ _ _ c.requires.fits.each (item-at _ _ _ _ c.list-line-items.ensures c.loop-line-test.true c.line-item.is)

pub returns-in_err-run_line-clause-err : goal.returns-in_err-run_line-clause-err
returns-in_err-run_line-clause-err g c =
    ends-on _ (lines-stop _ _ _ _ _ _ _ _ (item-at _ _ _ _ c.list-line-items.ensures c.loop-line-test.true c.line-item.is) c.loop-line.invariant c.in_err-run_line.ensures.err)

pub returns-in_err-run_line-clause-lawful : goal.returns-in_err-run_line-clause-lawful
returns-in_err-run_line-clause-lawful g c = lawful-on _ _ _ c.loop-line.invariant.lawful c.run_line.ensures.lawful

pub loop-line-preserved : goal.loop-line-preserved
loop-line-preserved g c = rw add-one
    (lines-next _ _ _ _ _ _ _ _ _ (item-at _ _ _ _ c.list-line-items.ensures c.loop-line-test.true c.line-item.is) c.loop-line.invariant c.in_ok-run_line.ensures.ok c.run_line.ensures.lawful)

pub returns-clause-ok : goal.returns-clause-ok
returns-clause-ok g c = rw c.from_vec.ensures (lines-all _ _ _ _ _ _ (lines-past _ _ _ c.list-line-items.ensures c.loop-line-test.false) c.loop-line.invariant)

pub returns-clause-lawful : goal.returns-clause-lawful
returns-clause-lawful g c = c.loop-line.invariant.lawful
