use Rattle.std.proofs.Common.{◌≡◌, take}
use Rattle.region_core.specs.Leads.{digests_there}
use Rattle.frozen_store.proofs.reading.digests_at.Given as goal

abbrev pub invariant-loop-place : goal.invariant-loop-place
invariant-loop-place l = l.digests.items ≡ digests_there l.words (take l.place-index l.places)
