use Rattle.std.proofs.Common.{◌≡◌, refl, sym, ◌∙◌, ap}
use Rattle.cas_model.specs.Tables.{Claimed, HasClaim}
use Rattle.cas_history.proofs.Checked.{claim-there, claim-same}
use Rattle.cas_history.proofs.Visible.{who-is}
use Rattle.cas_history.proofs.lawful.has_claim.Goals as goal

-- the claim is the one that was found
pub returns-then-c-length : goal.returns-then-c-length
returns-then-c-length c =
    let there : HasClaim c.args.claims.now c.c-item.result.who c.c-item.result.place c.c-item.result.length =
    claim-there c.args.claims.now c.loop-c.c-index c.c-item.result c.c-item.result c.loop-c-test.true c.c-item.is in
    let who : c.c-item.result.who ≡ c.args.who = ap (λ (x : Claimed). x.who) (sym c.c.view_is) ∙ who-is c.c.inside.who c.args.who (sym c.eq.ensures ∙ c.if-eq.true) in
    let place : c.c-item.result.place ≡ c.args.place = ap (λ (x : Claimed). x.place) (sym c.c.view_is) ∙ c.if-c-place.true in
    let long : c.c-item.result.length ≡ c.args.length = ap (λ (x : Claimed). x.length) (sym c.c.view_is) ∙ c.if-c-length.true in
    (λ _. claim-same c.args.claims.now _ _ _ _ _ _ who place long there, λ _. refl)
