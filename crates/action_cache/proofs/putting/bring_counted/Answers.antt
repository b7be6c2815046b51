use Rattle.std.proofs.Common.{Some}
use Rattle.cas_model.specs.declared.place.Space.TheVariants.{Objects}
use Rattle.cas_port.specs.declared.block.PortError.TheVariants.{Memory}
use Rattle.cas_port.specs.Calls.{Looked}
use Rattle.graph_db.proofs.Steps.{err-made, ok-then}
use Rattle.cas_model.specs.Notes.{deep_note}
use Rattle.action_cache.proofs.KeySteps.{err-then}
use Rattle.action_cache.proofs.PutGot.{bring-none, bring-wants, deep-filled, deep-agrees, has-brought, bring-stops}
use Rattle.action_cache.proofs.putting.bring_counted.Goals as goal

pub returns-in_err-place-clause-err : goal.returns-in_err-place-clause-err
returns-in_err-place-clause-err g c = err-made _ Memory _ c.from_residual.ensures.1 (bring-wants _ _ _ _ c.in_err-place.ensures.memory)

pub settle-requires-clause-filled : goal.settle-requires-clause-filled
settle-requires-clause-filled g c =
    let looked : Looked (deep_note c.args.who) Objects c.args.value.now (g.P.CellPort.view c.args.port.now) (g.P.CellPort.view c.look.new.self) (Some c.in-Some.place) = rw c.in-Some.is at c.in_ok-place.ensures.looked in
    deep-filled _ _ _ _ _ _ c.requires.speaks looked c.in_ok-place.ensures.lawful c.requires.there c.requires.given

pub settle-requires-clause-agrees : goal.settle-requires-clause-agrees
settle-requires-clause-agrees g c =
    let looked : Looked (deep_note c.args.who) Objects c.args.value.now (g.P.CellPort.view c.args.port.now) (g.P.CellPort.view c.look.new.self) (Some c.in-Some.place) = rw c.in-Some.is at c.in_ok-place.ensures.looked in
    deep-agrees _ _ _ _ _ _ c.requires.speaks looked c.in_ok-place.ensures.lawful c.requires.there c.requires.given

pub unreachable-requires : goal.unreachable-requires
unreachable-requires g c = bring-none _ _ _ _ c.requires.speaks c.in_ok-place.ensures.lawful c.requires.there (rw c.in-None.is at c.in_ok-place.ensures.looked)

pub returns-clause-ok : goal.returns-clause-ok
returns-clause-ok g c =
    let looked : Looked (deep_note c.args.who) Objects c.args.value.now (g.P.CellPort.view c.args.port.now) (g.P.CellPort.view c.look.new.self) (Some c.in-Some.place) = rw c.in-Some.is at c.in_ok-place.ensures.looked in
    ok-then _ (λ kept s. has-brought _ _ _ _ _ _ c.requires.speaks looked c.in_ok-place.ensures.lawful c.requires.there c.requires.given _ kept s) c.settle.ensures.ok

pub returns-clause-err : goal.returns-clause-err
returns-clause-err g c =
    let looked : Looked (deep_note c.args.who) Objects c.args.value.now (g.P.CellPort.view c.args.port.now) (g.P.CellPort.view c.look.new.self) (Some c.in-Some.place) = rw c.in-Some.is at c.in_ok-place.ensures.looked in
    err-then _ (λ e s. bring-stops _ _ _ _ _ _ c.requires.speaks looked c.in_ok-place.ensures.lawful c.requires.there c.requires.given _ e s) c.settle.ensures.err
