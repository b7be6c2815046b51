use Rattle.std.proofs.Common.{◌≡◌, take}
use Rattle.region_core.specs.Leads.{digests_there}
use Rattle.frozen_store.proofs.listing.keys_of.Given as goal

abbrev pub invariant-loop-owner : goal.invariant-loop-owner
invariant-loop-owner l = l.keys.items ≡ digests_there l.words (take l.owner-index l.owner-items)
