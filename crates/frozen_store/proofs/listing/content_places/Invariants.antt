use Rattle.std.proofs.Common.{◌≡◌, take}
use Rattle.frozen_store.specs.Reads.{cells_there}
use Rattle.frozen_store.proofs.listing.content_places.Given as goal

abbrev pub invariant-loop-owner : goal.invariant-loop-owner
invariant-loop-owner l = l.places.items ≡ cells_there l.words (take l.owner-index l.owner-items)
