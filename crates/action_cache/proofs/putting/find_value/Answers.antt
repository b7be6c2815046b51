use Rattle.std.proofs.Common.{Some}
use Rattle.cas_model.specs.declared.place.Space.TheVariants.{Objects}
use Rattle.cas_port.specs.Calls.{Looked}
use Rattle.graph_db.specs.declared.error.StoreError.TheVariants.{Memory}
use Rattle.cas_model.specs.Notes.{ref_note}
use Rattle.graph_db.proofs.Sought.{looked-record, looked-wants}
use Rattle.graph_db.proofs.Steps.{err-made}
use Rattle.action_cache.proofs.PutGot.{has-value, value-none, value-unfilled}
use Rattle.action_cache.proofs.putting.find_value.Goals as goal

pub returns-in_default-clause-err : goal.returns-in_default-clause-err
returns-in_default-clause-err g c = value-none _ _ _ _ _ c.requires c.in_ok-place.ensures.lawful (rw c.in_default.is at c.in_ok-place.ensures.looked) c.absent.ensures

pub read-requires-clause-bound : goal.read-requires-clause-bound
read-requires-clause-bound g c = looked-record _ _ _ _ _ c.in_ok-place.ensures.lawful (rw c.in-Some.is at c.in_ok-place.ensures.looked)

pub returns-in_err-read-clause-err : goal.returns-in_err-read-clause-err
returns-in_err-read-clause-err g c =
    let looked : Looked (ref_note c.args.who 0) Objects c.args.value.now (g.P.CellPort.view c.args.port.now) (g.P.CellPort.view c.look.new.self) (Some c.in-Some.place) = rw c.in-Some.is at c.in_ok-place.ensures.looked in
    err-made _ Memory _ c.from_residual-in_err-read.ensures.1 (looked-wants _ _ _ _ _ _ c.requires looked c.in_err-read.ensures.memory)

pub returns-then-branch-eq0-clause-err : goal.returns-then-branch-eq0-clause-err
returns-then-branch-eq0-clause-err g c =
    let looked : Looked (ref_note c.args.who 0) Objects c.args.value.now (g.P.CellPort.view c.args.port.now) (g.P.CellPort.view c.look.new.self) (Some c.in-Some.place) = rw c.in-Some.is at c.in_ok-place.ensures.looked in
    value-unfilled _ _ _ _ _ _ _ c.requires looked c.in_ok-read.ensures.lawful (rw c.if-branch-eq0.true at c.in_ok-read.ensures.value) c.absent-then-branch-eq0.ensures

pub returns-clause-ok : goal.returns-clause-ok
returns-clause-ok g c =
    let looked : Looked (ref_note c.args.who 0) Objects c.args.value.now (g.P.CellPort.view c.args.port.now) (g.P.CellPort.view c.look.new.self) (Some c.in-Some.place) = rw c.in-Some.is at c.in_ok-place.ensures.looked in
    has-value _ _ _ _ _ _ _ c.requires looked c.in_ok-read.ensures.lawful c.in_ok-read.ensures.value c.if-branch-eq0.false
