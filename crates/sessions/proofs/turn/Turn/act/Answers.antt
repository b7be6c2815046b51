-- a get, and after a miss what makes the object
use Rattle.std.proofs.Common.{sym, ◌∙◌, refl, arith}
use Rattle.graph_db.proofs.Steps.{ends-on, on-err-then}
use Rattle.graph_db.specs.Stores.{object_with}
use Rattle.sessions.specs.Standing.{after_miss}
use Rattle.sessions.specs.declared.said.Said.TheVariants.{Missed, Else}
use Rattle.sessions.proofs.Stood.{made-then, made-ends, made-stops, cut-stops, on-ok-then, goes-on-missed, ends-unmissed, other-said}
use Rattle.sessions.proofs.turn.Turn.act.Goals as goal

pub returns-in_err-get-clause-err : goal.returns-in_err-get-clause-err
returns-in_err-get-clause-err g c = ends-on _ (cut-stops _ _ _ _ _ _ c.requires.ready.speaks (λ rest. refl) c.in_err-get.ensures.err)

pub returns-in-Missed-clause-ok : goal.returns-in-Missed-clause-ok
returns-in-Missed-clause-ok g c =
    let made = c.in_ok-get.ensures.ok in
    on-ok-then c.make.result
    (made-then _ _ _ (after_miss c.args.key.now (object_with c.args.refs.now c.args.data.now)) 2 _ _ _ _ _ _ _ made c.requires.ready.speaks (λ rest. refl)
    (goes-on-missed _ (object_with c.args.refs.now c.args.data.now) _ (sym c.in-Missed.is ∙ made.kept.says))) c.make.ensures.ok

pub returns-in-Missed-clause-err : goal.returns-in-Missed-clause-err
returns-in-Missed-clause-err g c =
    let made = c.in_ok-get.ensures.ok in
    on-err-then c.make.result
    (made-stops _ _ _ (after_miss c.args.key.now (object_with c.args.refs.now c.args.data.now)) _ _ _ _ _ _ made c.requires.ready.speaks (λ rest. refl)
    (goes-on-missed _ (object_with c.args.refs.now c.args.data.now) _ (sym c.in-Missed.is ∙ made.kept.says))) c.make.ensures.err

pub returns-in-Else-clause-ok : goal.returns-in-Else-clause-ok
returns-in-Else-clause-ok g c =
    let made = c.in_ok-get.ensures.ok in
    made-ends _ _ _ _ _ _ _ _ _ made (omega arith) c.requires.ready.speaks (λ rest. refl) (ends-unmissed c.args.key.now (object_with c.args.refs.now c.args.data.now) _ (λ says. other-said _ Missed Else (made.kept.says ∙ sym says) c.in-Else.is (λ e. cc)))
