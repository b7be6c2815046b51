-- the digests of the places so far
use Rattle.std.proofs.Common.{◌≡◌, take}
use Rattle.cas_model.specs.Tables.{digests_at}
use Rattle.cas_history.proofs.rows.Rows.digests_at.Given as goal

abbrev pub invariant-loop-place : goal.invariant-loop-place
invariant-loop-place l = l.digests.items ≡ digests_at l.self.bound (take l.place-index l.places)
