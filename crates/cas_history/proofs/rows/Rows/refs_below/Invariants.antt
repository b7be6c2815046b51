-- the places so far are those of such records
use Rattle.std.proofs.Common.{drop}
use Rattle.std.specs.Prelude.{◌↔◌}
use Rattle.cas_model.specs.Start.{RefsBelow}
use Rattle.cas_history.proofs.rows.Rows.refs_below.Given as goal

abbrev pub invariant-loop-place : goal.invariant-loop-place
invariant-loop-place l = RefsBelow l.self l.value (drop l.place-index l.places) ↔ RefsBelow l.self l.value l.places
