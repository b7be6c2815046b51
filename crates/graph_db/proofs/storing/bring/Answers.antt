use Rattle.std.proofs.Common.{arith}
use Rattle.cas_port.specs.declared.block.PortError.TheVariants.{Memory}
use Rattle.graph_db.proofs.Brought.{begun, bind-stops, claim-stops, write-stopped, fill-whole, fill-stops, fill-brings}
use Rattle.graph_db.proofs.Steps.{err-made}
use Rattle.graph_db.proofs.storing.bring.Goals as goal

pub returns-in_err-bound-clause-err : goal.returns-in_err-bound-clause-err
returns-in_err-bound-clause-err g c = err-made _ _ _ c.from_residual.ensures.1 (bind-stops _ _ _ _ _ c.requires.speaks c.requires.refs c.requires.missed c.in_err-bound.ensures.stopped)

pub returns-in_err-block-clause-err : goal.returns-in_err-block-clause-err
returns-in_err-block-clause-err g c =
    err-made _ _ _ c.from_residual-in_err-block.ensures.1
    (claim-stops _ _ _ _ _ _ _ _ _ c.requires.speaks c.requires.digest c.requires.refs c.requires.missed c.in_ok-bound.ensures.bound c.in_ok-bound.ensures.lawful c.in_err-block.ensures.lawful (rw c.content_length.ensures at c.in_err-block.ensures.stopped))

pub write_content-requires-clause-refs : goal.write_content-requires-clause-refs
write_content-requires-clause-refs g c =
    (begun _ _ c.args.data.now _ _ _ _ _ _ c.requires.speaks c.requires.digest c.requires.refs c.requires.missed c.in_ok-bound.ensures.bound c.in_ok-bound.ensures.lawful (rw c.content_length.ensures at c.in_ok-block.ensures.claimed)
    c.in_ok-block.ensures.lawful).refs_there

pub write_content-requires-clause-opened : goal.write_content-requires-clause-opened
write_content-requires-clause-opened g c =
    let b = begun _ _ c.args.data.now _ _ _ _ _ _ c.requires.speaks c.requires.digest c.requires.refs c.requires.missed c.in_ok-bound.ensures.bound c.in_ok-bound.ensures.lawful (rw c.content_length.ensures at c.in_ok-block.ensures.claimed)
    c.in_ok-block.ensures.lawful in
    record { rest = (g.P.CellPort.view c.args.port.now).opened; is = b.opened }

pub returns-in_err-write_content-clause-err : goal.returns-in_err-write_content-clause-err
returns-in_err-write_content-clause-err g c =
    let b = begun _ _ c.args.data.now _ _ _ _ _ _ c.requires.speaks c.requires.digest c.requires.refs c.requires.missed c.in_ok-bound.ensures.bound c.in_ok-bound.ensures.lawful (rw c.content_length.ensures at c.in_ok-block.ensures.claimed)
    c.in_ok-block.ensures.lawful in
    err-made _ Memory _ c.from_residual-in_err-write_content.ensures.1 (write-stopped _ _ _ _ _ _ _ _ _ b c.in_err-write_content.ensures.err)

pub fill-requires-clause-whole : goal.fill-requires-clause-whole
fill-requires-clause-whole g c =
    let b = begun _ _ c.args.data.now _ _ _ _ _ _ c.requires.speaks c.requires.digest c.requires.refs c.requires.missed c.in_ok-bound.ensures.bound c.in_ok-bound.ensures.lawful (rw c.content_length.ensures at c.in_ok-block.ensures.claimed)
    c.in_ok-block.ensures.lawful in
    rw c.write_content.ensures.block (fill-whole _ _ _ _ _ _ _ _ _ c.requires.digest c.requires.few_refs c.requires.short (λ i. omega (arith, c.type_inv.data i)) c.requires.lacks b c.in_ok-write_content.ensures.lawful c.in_ok-write_content.ensures.ok)

pub returns-in_err-fill-clause-err : goal.returns-in_err-fill-clause-err
returns-in_err-fill-clause-err g c =
    let b = begun _ _ c.args.data.now _ _ _ _ _ _ c.requires.speaks c.requires.digest c.requires.refs c.requires.missed c.in_ok-bound.ensures.bound c.in_ok-bound.ensures.lawful (rw c.content_length.ensures at c.in_ok-block.ensures.claimed)
    c.in_ok-block.ensures.lawful in
    err-made _ Memory _ c.from_residual-in_err-fill.ensures.1
    (fill-stops _ _ _ _ _ _ _ _ _ c.requires.digest c.requires.few_refs c.requires.short (λ i. omega (arith, c.type_inv.data i)) c.requires.lacks b c.in_ok-write_content.ensures.lawful c.in_ok-write_content.ensures.ok _
    (rw c.write_content.ensures.block at c.in_err-fill.ensures.memory))

pub returns-clause-ok : goal.returns-clause-ok
returns-clause-ok g c =
    let b = begun _ _ c.args.data.now _ _ _ _ _ _ c.requires.speaks c.requires.digest c.requires.refs c.requires.missed c.in_ok-bound.ensures.bound c.in_ok-bound.ensures.lawful (rw c.content_length.ensures at c.in_ok-block.ensures.claimed)
    c.in_ok-block.ensures.lawful in
    fill-brings _ _ _ _ _ _ _ _ _ c.requires.digest c.requires.few_refs c.requires.short (λ i. omega (arith, c.type_inv.data i)) c.requires.lacks b c.in_ok-write_content.ensures.lawful c.in_ok-write_content.ensures.ok _ _
    c.in_ok-fill.ensures.lawful (rw c.write_content.ensures.block at c.in_ok-fill.ensures.filled)
