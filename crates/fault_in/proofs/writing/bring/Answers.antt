use Rattle.std.proofs.Common.{ℕ, List, length, ap, ◌∙◌}
use Rattle.cas_model.specs.Content.{content_size}
use Rattle.cas_port.specs.declared.block.PortError.TheVariants.{Memory}
use Rattle.graph_db.proofs.Steps.{ends-on, err-made}
use Rattle.fault_in.proofs.Brought.{begun, begun-alone, bind-stops, claim-stops, fill-whole, fill-stops, fill-brings, filled-at, ready-length}
use Rattle.fault_in.proofs.Costs.{abandoned-asks, bind-stop-asks, claim-stop-asks, filled-asks}
use Rattle.fault_in.proofs.Quiet.{abandoned-quiet, bind-stop-quiet, claim-stop-quiet, filled-last}
use Rattle.fault_in.proofs.writing.bring.Goals as goal

pub returns-in_err-bound-clause-err : goal.returns-in_err-bound-clause-err
returns-in_err-bound-clause-err g c = err-made _ _ _ c.from_residual.ensures.1 (bind-stops c.args.who c.args.digest.now c.args.object.now _ _ _ c.in_err-bound.ensures.stopped)

pub returns-in_err-block-clause-err : goal.returns-in_err-block-clause-err
returns-in_err-block-clause-err g c =
    let size = c.content_length.ensures ∙ ap (λ (xs : List ℕ). content_size (length c.args.places.now) (length xs)) c.list-data.ensures in
    let long = ready-length _ _ _ _ c.requires.ready in
    err-made _ _ _ c.from_residual-in_err-block.ensures.1
    (claim-stops c.args.who c.args.digest.now c.args.object.now _ _ _ _ c.in_ok-bound.bound _ (size ∙ ap (λ k. content_size k (length c.args.object.now.data)) long) c.in_ok-bound.ensures.bound c.in_err-block.ensures.stopped)

pub write_content-requires-clause-opened : goal.write_content-requires-clause-opened
write_content-requires-clause-opened g c =
    let size = c.content_length.ensures ∙ ap (λ (xs : List ℕ). content_size (length c.args.places.now) (length xs)) c.list-data.ensures in
    begun-alone c.args.who c.args.digest.now c.args.object.now c.args.places.now _ _ _ c.in_ok-block.block
    (begun c.args.who c.args.digest.now c.args.object.now c.args.places.now _ _ _ _ c.in_ok-bound.bound c.in_ok-block.block c.requires.ready size c.in_ok-bound.ensures.bound c.in_ok-bound.ensures.lawful c.in_ok-block.ensures.claimed
    c.in_ok-block.ensures.lawful)

pub fill-requires-clause-whole : goal.fill-requires-clause-whole
fill-requires-clause-whole g c =
    let size = c.content_length.ensures ∙ ap (λ (xs : List ℕ). content_size (length c.args.places.now) (length xs)) c.list-data.ensures in
    let b = begun c.args.who c.args.digest.now c.args.object.now c.args.places.now _ _ _ _ c.in_ok-bound.bound c.in_ok-block.block c.requires.ready size c.in_ok-bound.ensures.bound c.in_ok-bound.ensures.lawful c.in_ok-block.ensures.claimed
    c.in_ok-block.ensures.lawful in
    rw c.write_content.ensures.block (fill-whole _ _ _ _ _ _ _ _ _ b (rw c.list-data.ensures at c.write_content.ensures.words) c.write_content.ensures.lawful)

pub returns-in_err-fill-clause-err : goal.returns-in_err-fill-clause-err
returns-in_err-fill-clause-err g c =
    let size = c.content_length.ensures ∙ ap (λ (xs : List ℕ). content_size (length c.args.places.now) (length xs)) c.list-data.ensures in
    let b = begun c.args.who c.args.digest.now c.args.object.now c.args.places.now _ _ _ _ c.in_ok-bound.bound c.in_ok-block.block c.requires.ready size c.in_ok-bound.ensures.bound c.in_ok-bound.ensures.lawful c.in_ok-block.ensures.claimed
    c.in_ok-block.ensures.lawful in
    err-made _ Memory _ c.from_residual-in_err-fill.ensures.1
    (fill-stops _ _ _ _ _ _ _ _ _ b (rw c.list-data.ensures at c.write_content.ensures.words) _ (rw c.write_content.ensures.block at c.in_err-fill.ensures.memory))

pub returns-clause-ok : goal.returns-clause-ok
returns-clause-ok g c =
    let size = c.content_length.ensures ∙ ap (λ (xs : List ℕ). content_size (length c.args.places.now) (length xs)) c.list-data.ensures in
    let b = begun c.args.who c.args.digest.now c.args.object.now c.args.places.now _ _ _ _ c.in_ok-bound.bound c.in_ok-block.block c.requires.ready size c.in_ok-bound.ensures.bound c.in_ok-bound.ensures.lawful c.in_ok-block.ensures.claimed
    c.in_ok-block.ensures.lawful in
    fill-brings _ _ _ _ _ _ _ _ _ b (rw c.list-data.ensures at c.write_content.ensures.words) _ _ c.in_ok-fill.ensures.lawful (rw c.write_content.ensures.block at c.in_ok-fill.ensures.filled)

pub returns-in_err-bound-clause-cost : goal.returns-in_err-bound-clause-cost
returns-in_err-bound-clause-cost g c = bind-stop-asks c.args.who c.args.object.now _ _ _ c.requires.speaks c.in_err-bound.ensures.stopped

pub returns-in_err-block-clause-cost : goal.returns-in_err-block-clause-cost
returns-in_err-block-clause-cost g c =
    let size = c.content_length.ensures ∙ ap (λ (xs : List ℕ). content_size (length c.args.places.now) (length xs)) c.list-data.ensures in
    let long = ready-length _ _ _ _ c.requires.ready in
    claim-stop-asks c.args.who c.args.digest.now c.args.object.now _ _ _ _ c.in_ok-bound.bound _ c.requires.speaks (size ∙ ap (λ k. content_size k (length c.args.object.now.data)) long) c.in_ok-bound.ensures.bound c.in_err-block.ensures.stopped

pub returns-in_err-fill-clause-cost : goal.returns-in_err-fill-clause-cost
returns-in_err-fill-clause-cost g c =
    let size = c.content_length.ensures ∙ ap (λ (xs : List ℕ). content_size (length c.args.places.now) (length xs)) c.list-data.ensures in
    let long = ready-length _ _ _ _ c.requires.ready in
    abandoned-asks c.args.who c.args.digest.now c.args.object.now _ _ _ _ _ _ c.in_ok-bound.bound c.in_ok-block.block _ c.requires.speaks (size ∙ ap (λ k. content_size k (length c.args.object.now.data)) long) c.in_ok-bound.ensures.bound
    c.in_ok-block.ensures.claimed c.write_content.ensures.words (rw c.write_content.ensures.block at c.in_err-fill.ensures.memory)

pub returns-clause-cost : goal.returns-clause-cost
returns-clause-cost g c =
    let size = c.content_length.ensures ∙ ap (λ (xs : List ℕ). content_size (length c.args.places.now) (length xs)) c.list-data.ensures in
    let long = ready-length _ _ _ _ c.requires.ready in
    filled-asks c.args.who c.args.digest.now c.args.object.now _ _ _ _ _ _ c.in_ok-bound.bound c.in_ok-block.block _ c.requires.speaks (size ∙ ap (λ k. content_size k (length c.args.object.now.data)) long) c.in_ok-bound.ensures.bound
    c.in_ok-block.ensures.claimed c.write_content.ensures.words _ _ (rw c.write_content.ensures.block at c.in_ok-fill.ensures.filled)

pub returns-in_err-bound-clause-quiet : goal.returns-in_err-bound-clause-quiet
returns-in_err-bound-clause-quiet g c = ends-on _ (bind-stop-quiet c.args.who _ _ _ c.requires.speaks c.in_err-bound.ensures.stopped)

pub returns-in_err-block-clause-quiet : goal.returns-in_err-block-clause-quiet
returns-in_err-block-clause-quiet g c = ends-on _ (claim-stop-quiet c.args.who c.args.digest.now _ _ _ _ c.in_ok-bound.bound _ c.requires.speaks c.in_ok-bound.ensures.bound c.in_err-block.ensures.stopped)

pub returns-in_err-fill-clause-quiet : goal.returns-in_err-fill-clause-quiet
returns-in_err-fill-clause-quiet g c =
    ends-on _ (abandoned-quiet c.args.who c.args.digest.now _ _ _ _ _ c.in_ok-bound.bound c.in_ok-block.block _ c.requires.speaks c.in_ok-bound.ensures.bound c.in_ok-block.ensures.claimed c.write_content.ensures.words _
    (rw c.write_content.ensures.block at c.in_err-fill.ensures.memory))

pub returns-clause-last : goal.returns-clause-last
returns-clause-last g c =
    let size = c.content_length.ensures ∙ ap (λ (xs : List ℕ). content_size (length c.args.places.now) (length xs)) c.list-data.ensures in
    let b = begun c.args.who c.args.digest.now c.args.object.now c.args.places.now _ _ _ _ c.in_ok-bound.bound c.in_ok-block.block c.requires.ready size c.in_ok-bound.ensures.bound c.in_ok-bound.ensures.lawful c.in_ok-block.ensures.claimed
    c.in_ok-block.ensures.lawful in
    let filled = rw c.write_content.ensures.block at c.in_ok-fill.ensures.filled in
    filled-last c.args.who c.args.digest.now _ _ _ _ _ c.in_ok-bound.bound c.in_ok-block.block _ c.requires.speaks c.in_ok-bound.ensures.bound c.in_ok-block.ensures.claimed c.write_content.ensures.words _ _ _ filled
    (filled-at _ _ _ _ _ _ _ _ _ b (rw c.list-data.ensures at c.write_content.ensures.words) _ _ c.in_ok-fill.ensures.lawful filled)
