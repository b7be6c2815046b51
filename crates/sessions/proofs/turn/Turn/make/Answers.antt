-- a store, and a put of what it stored
use Rattle.std.proofs.Common.{sym, ◌∙◌, refl, arith}
use Rattle.graph_db.proofs.Steps.{ends-on}
use Rattle.graph_db.specs.Stores.{object_with}
use Rattle.sessions.specs.declared.said.Said.TheVariants.{Stored, Else}
use Rattle.sessions.proofs.Stood.{made-then, made-ends, made-stops, cut-stops, after_store, goes-on-stored, ends-unstored, made-speaks, other-said}
use Rattle.sessions.proofs.turn.Turn.make.Goals as goal

pub returns-in_err-digest-clause-err : goal.returns-in_err-digest-clause-err
returns-in_err-digest-clause-err g c = ends-on _ (cut-stops _ _ _ _ _ _ c.requires.ready.speaks (λ rest. refl) c.in_err-digest.ensures.err)

pub returns-in_err-put-in-Stored-clause-err : goal.returns-in_err-put-in-Stored-clause-err
returns-in_err-put-in-Stored-clause-err g c =
    let made = c.in_ok-digest.ensures.ok in
    ends-on _ (made-stops _ _ _ (after_store c.args.key.now c.in-Stored.digest) _ _ _ _ _ _ made c.requires.ready.speaks (λ rest. refl) (goes-on-stored _ (object_with c.args.refs.now c.args.data.now) _ _ (sym c.in-Stored.is ∙ made.kept.says))
    (cut-stops _ _ _ _ _ _ (made-speaks _ _ _ _ _ _ _ made _ c.requires.ready.speaks) (λ rest. refl) c.in_err-put-in-Stored.ensures.err))

pub returns-in_ok-put-in-Stored-clause-ok : goal.returns-in_ok-put-in-Stored-clause-ok
returns-in_ok-put-in-Stored-clause-ok g c =
    let made = c.in_ok-digest.ensures.ok in
    made-then _ _ _ (after_store c.args.key.now c.in-Stored.digest) 1 _ _ _ _ _ _ _ made c.requires.ready.speaks (λ rest. refl) (goes-on-stored _ (object_with c.args.refs.now c.args.data.now) _ _ (sym c.in-Stored.is ∙ made.kept.says))
    (made-ends _ _ _ _ _ _ _ _ _ c.in_ok-put-in-Stored.ensures.ok (omega arith) (made-speaks _ _ _ _ _ _ _ made _ c.requires.ready.speaks) (λ rest. refl) (λ rest. refl))

pub returns-in-Else-clause-ok : goal.returns-in-Else-clause-ok
returns-in-Else-clause-ok g c =
    let made = c.in_ok-digest.ensures.ok in
    made-ends _ _ _ _ _ _ _ _ _ made (omega arith) c.requires.ready.speaks (λ rest. refl) (ends-unstored c.args.key.now (object_with c.args.refs.now c.args.data.now) _ (λ d says. other-said _ (Stored d) Else (made.kept.says ∙ sym says) c.in-Else.is (λ e. cc)))
