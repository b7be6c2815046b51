-- one session after another
use Rattle.std.proofs.Common.{add-one, ap, ◌∙◌, refl, inl}
use Rattle.cas_port.specs.View.{View}
use Rattle.graph_db.proofs.Steps.{ends-on}
use Rattle.cas_script.specs.Limits.{FitsSession}
use Rattle.sessions.proofs.LinesRun.{item-at, all-at, same-on}
use Rattle.sessions.proofs.Ordered.{in-turn-none, in-turn-next, in-turn-stops}
use Rattle.sessions.proofs.Turned.{turned-none, turned-next, turned-stops, turned-end, unkept-stops, next-unseen}
use Rattle.sessions.proofs.run.run_in_turn.Goals as goal

pub loop-number-init : goal.loop-number-init
loop-number-init g c = record { turned = rw c.new-replies.ensures.items (turned-none _ _ c.requires.unseen); in_turn = in-turn-none _; lawful = inl refl }

pub run_session-requires-clause-upstream : goal.run_session-requires-clause-upstream
run_session-requires-clause-upstream g c = ap (λ (v : View). v.upstream) c.loop-number.invariant.turned.adds.is ∙ c.requires.upstream

pub run_session-requires-clause-fits : goal.run_session-requires-clause-fits
run_session-requires-clause-fits g c = all-at FitsSession _ _ _ c.requires.fits.each (item-at _ _ _ _ c.list-session-items.ensures c.loop-number-test.true c.session-item.is)

pub run_session-requires-clause-unseen : goal.run_session-requires-clause-unseen
run_session-requires-clause-unseen g c =
    next-unseen _ _ _ _ _ _ c.requires.unseen c.loop-number.invariant.turned (item-at _ _ _ _ c.list-session-items.ensures c.loop-number-test.true c.session-item.is)

pub returns-in_err-run_session-clause-memory : goal.returns-in_err-run_session-clause-memory
returns-in_err-run_session-clause-memory g c =
    ends-on _ (turned-stops _ _ _ _ _ _ _ c.requires.unseen c.loop-number.invariant.turned (item-at _ _ _ _ c.list-session-items.ensures c.loop-number-test.true c.session-item.is) c.in_err-run_session.ensures.err)

pub returns-in_err-run_session-clause-in_turn : goal.returns-in_err-run_session-clause-in_turn
returns-in_err-run_session-clause-in_turn g c =
    in-turn-stops _ _ _ _ c.loop-number.invariant.turned.adds c.loop-number.invariant.in_turn c.in_err-run_session.ensures.err.adds

pub returns-in_err-run_session-clause-lawful : goal.returns-in_err-run_session-clause-lawful
returns-in_err-run_session-clause-lawful g c = same-on _ _ _ c.loop-number.invariant.lawful c.run_session.ensures.lawful

pub returns-in_err-push-clause-memory : goal.returns-in_err-push-clause-memory
returns-in_err-push-clause-memory g c =
    ends-on _ (unkept-stops _ _ _ _ _ _ _ _ c.requires.unseen c.loop-number.invariant.turned (item-at _ _ _ _ c.list-session-items.ensures c.loop-number-test.true c.session-item.is) c.in_ok-run_session.ensures.ok)

pub returns-in_err-push-clause-in_turn : goal.returns-in_err-push-clause-in_turn
returns-in_err-push-clause-in_turn g c =
    (in-turn-next _ _ _ _ c.loop-number.invariant.turned.adds c.loop-number.invariant.in_turn c.in_ok-run_session.ensures.ok.adds).turns

pub returns-in_err-push-clause-lawful : goal.returns-in_err-push-clause-lawful
returns-in_err-push-clause-lawful g c = same-on _ _ _ c.loop-number.invariant.lawful c.run_session.ensures.lawful

pub loop-number-preserved : goal.loop-number-preserved
loop-number-preserved g c = record {
  turned = rw (add-one, c.in_ok-push.ensures.items)
      (turned-next _ _ _ _ _ _ _ _ c.requires.unseen c.loop-number.invariant.turned (item-at _ _ _ _ c.list-session-items.ensures c.loop-number-test.true c.session-item.is) c.in_ok-run_session.ensures.ok);
  in_turn = rw add-one (in-turn-next _ _ _ _ c.loop-number.invariant.turned.adds c.loop-number.invariant.in_turn c.in_ok-run_session.ensures.ok.adds);
  lawful = same-on _ _ _ c.loop-number.invariant.lawful c.run_session.ensures.lawful;
}

pub returns-clause-ran : goal.returns-clause-ran
returns-clause-ran g c = rw c.from_vec.ensures (turned-end _ _ _ _ _ _ c.list-session-items.ensures c.loop-number.auto.number-end c.loop-number-test.false c.loop-number.invariant.turned)

pub returns-clause-in_turn : goal.returns-clause-in_turn
returns-clause-in_turn g c = c.loop-number.invariant.in_turn.turns

pub returns-clause-lawful : goal.returns-clause-lawful
returns-clause-lawful g c = c.loop-number.invariant.lawful
