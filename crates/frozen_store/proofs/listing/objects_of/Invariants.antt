use Rattle.std.proofs.Common.{◌≡◌, take}
use Rattle.frozen_store.specs.Lists.{objects_there}
use Rattle.frozen_store.proofs.listing.objects_of.Given as goal

abbrev pub invariant-loop-place : goal.invariant-loop-place
invariant-loop-place l = l.objects.items ≡ objects_there l.words (take l.place-index l.place-items)
