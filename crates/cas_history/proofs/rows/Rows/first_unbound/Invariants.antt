-- the places so far have records
use Rattle.std.proofs.Common.{drop}
use Rattle.cas_history.specs.Replays.{AreRecords}
use Rattle.cas_history.proofs.rows.Rows.first_unbound.Given as goal

abbrev pub invariant-loop-place : goal.invariant-loop-place
invariant-loop-place l = AreRecords l.self (drop l.place-index l.places) → AreRecords l.self l.places
