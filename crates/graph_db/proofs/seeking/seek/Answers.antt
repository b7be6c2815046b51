use Rattle.std.proofs.Common.{Some}
use Rattle.cas_model.specs.declared.place.Space.TheVariants.{Objects}
use Rattle.cas_port.specs.Calls.{Looked}
use Rattle.graph_db.proofs.Sought.{looked-none, looked-record, read-sought, looked-wants}
use Rattle.graph_db.proofs.Steps.{ok-then, on-err-then}
use Rattle.graph_db.proofs.seeking.seek.Goals as goal

pub read-requires-clause-bound : goal.read-requires-clause-bound
read-requires-clause-bound g c = looked-record _ _ _ _ _ c.in_ok-look.ensures.lawful (rw c.in-Some.is at c.in_ok-look.ensures.looked)

pub returns-in-None-clause-ok : goal.returns-in-None-clause-ok
returns-in-None-clause-ok g c = looked-none _ _ _ _ c.requires c.in_ok-look.ensures.lawful (rw c.in-None.is at c.in_ok-look.ensures.looked)

pub returns-in-Some-clause-ok : goal.returns-in-Some-clause-ok
returns-in-Some-clause-ok g c =
    let looked : Looked c.args.note Objects c.args.digest.now (g.P.CellPort.view c.args.port.now) (g.P.CellPort.view c.look.new.self) (Some c.in-Some.place) = rw c.in-Some.is at c.in_ok-look.ensures.looked in
    ok-then _ (λ value h. read-sought _ _ _ _ _ _ value c.requires looked c.read.ensures.lawful h) c.read.ensures.value

pub returns-in-Some-clause-err : goal.returns-in-Some-clause-err
returns-in-Some-clause-err g c =
    let looked : Looked c.args.note Objects c.args.digest.now (g.P.CellPort.view c.args.port.now) (g.P.CellPort.view c.look.new.self) (Some c.in-Some.place) = rw c.in-Some.is at c.in_ok-look.ensures.looked in
    on-err-then _ (λ wants. looked-wants _ _ _ _ _ _ c.requires looked wants) c.read.ensures.memory
