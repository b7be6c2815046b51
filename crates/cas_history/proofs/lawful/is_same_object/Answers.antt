use Rattle.std.proofs.Common.{◌≡◌}
use Rattle.std.proofs.lemmas.Bool.Decides.{Decides-eqb}
use Rattle.std.proofs.lemmas.Slice.Eq.{slice_eq-Decides}
use Rattle.std.specs.Bool.{Decides}
use Rattle.cas_history.proofs.Checked.{digest-decides, object-decides, object-differs}
use Rattle.cas_history.proofs.lawful.is_same_object.Goals as goal

pub returns-then-eq : goal.returns-then-eq
returns-then-eq c =
    let refs : Decides c.eq.result (c.list.result.now ≡ c.list-2.result.now) = slice_eq-Decides digest-decides c.list.result.now c.list-2.result.now c.eq.result c.eq.ensures in
    let bytes : Decides c.eq-then-eq.result (c.list-then-eq.result.now ≡ c.list-then-eq-2.result.now) =
    slice_eq-Decides Decides-eqb c.list-then-eq.result.now c.list-then-eq-2.result.now c.eq-then-eq.result c.eq-then-eq.ensures in
    object-decides c.args.a.now c.args.b.now c.list.result.now c.list-2.result.now c.list-then-eq.result.now c.list-then-eq-2.result.now c.eq-then-eq.result
    c.list.ensures c.list-2.ensures c.list-then-eq.ensures c.list-then-eq-2.ensures (refs.0 c.if-eq.true) bytes

pub returns-else-eq : goal.returns-else-eq
returns-else-eq c =
    object-differs c.args.a.now c.args.b.now c.list.result.now c.list-2.result.now c.eq.result c.list.ensures c.list-2.ensures
    (slice_eq-Decides digest-decides c.list.result.now c.list-2.result.now c.eq.result c.eq.ensures) c.if-eq.false
