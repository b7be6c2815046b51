use Rattle.std.proofs.Common.{◌≡◌, ℕ, ◌+◌, ◌*◌, length, ap, sym, ◌∙◌, arith}
use Rattle.cas_model.specs.Content.{content_size}
use Rattle.cas_model.specs.declared.place.Space.TheVariants.{Objects}
use Rattle.cas_model.specs.Object.{object_digest}
use Rattle.cas_model.specs.Claims.{record_claims}
use Rattle.cell_port.specs.Needed.{bound_in, needed}
use Rattle.cell_port.specs.Tables.{PlainRows}
use Rattle.cell_port.proofs.ClaimLists.{bind-refuses, refuses-first, last-refuses, sum-claims}
use Rattle.cell_port.proofs.ContentWords.{length-content, length-places}
use Rattle.cell_port.proofs.PlainBinds.{err-made}
use Rattle.cell_port.proofs.parts.store_object.Goals as goal

pub returns-in_err-record_-clause-err : goal.returns-in_err-record_-clause-err
returns-in_err-record_-clause-err c =
    err-made _ _ _ c.from_residual-in_err-record_.ensures.1
    (refuses-first _ _ _ _ _ (bind-refuses _ _ (object_digest c.args.object.now) c.args.tables.now _ _ _ _ c.in_err-record_.ensures.within (rw c.digest_of-digest.ensures at c.in_err-record_.ensures.err)))

pub returns-then-size-at-clause-err : goal.returns-then-size-at-clause-err
returns-then-size-at-clause-err c =
    let o = c.args.object.now in
    let r = c.args.tables.now in
    let rows = c.in_ok-record_.ensures.ok.rows in
    let begins : c.counter-at.result ≡ r.counter + (5 + 16 * needed r.bound Objects (object_digest o)) =
    c.counter-at.ensures.counter ∙ ap (λ (x : PlainRows). x.counter) (rw c.digest_of-digest.ensures at rows) in
    let same : length c.list.result.now ≡ content_size (length o.refs) (length o.data) =
    ap length (c.list.ensures ∙ c.in_ok-words.ensures.words) ∙ length-content _ o.data ∙ ap (λ (n : ℕ). content_size n (length o.data)) (length-places r.bound o.refs) in
    let limit : c.size-size.result ≡ r.start.size = c.size-size.ensures.size ∙ ap (λ (x : PlainRows). x.start.size) rows in
    last-refuses r.start.size r.counter c.counter-at.result (length c.list.result.now) (content_size (length o.refs) (length o.data)) c.size-size.result
    (record_claims (bound_in Objects r.bound) (object_digest o)) (begins ∙ ap (λ (n : ℕ). r.counter + n) (sym (sum-claims r.bound Objects (object_digest o)))) same limit
    (omega (arith, c.counter-at.ensures.within, c.size-size.ensures.size)) (omega (arith, c.if-size-at.true))
