use Rattle.std.proofs.Common.{List, ℕ, subst}
use Rattle.cas_history.specs.Replays.{AreRecords}
use Rattle.cas_history.proofs.Checked.{refs-records}
use Rattle.cas_history.proofs.rows.Rows.is_object_rule.Goals as goal

-- what may be referred to has a record
pub object_of-requires : goal.object_of-requires
object_of-requires c =
    subst (λ (ns : List ℕ). AreRecords c.args.self.now ns) c.places_of.ensures
    (refs-records c.args.self.now c.args.value c.places_of.result.now (c.refs_below.ensures.0 c.if-not-refs_below.false))
