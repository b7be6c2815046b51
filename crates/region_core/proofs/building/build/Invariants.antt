use Rattle.std.proofs.Common.{◌≤◌, length}
use Rattle.region_core.specs.Builds.{ObjectsAdded, PairsAdded, empty_region}
use Rattle.region_core.specs.Inserts.{SameHead}
use Rattle.region_core.proofs.building.build.Given as goal

abbrev pub invariant-loop-object : goal.invariant-loop-object
invariant-loop-object l = record {
  added : ObjectsAdded l.words.items l.contents.objects.items l.object-index;
  head : SameHead (empty_region l.size) l.words.items;
  within : length l.words.items ≤ l.size;
}

abbrev pub invariant-loop-pair : goal.invariant-loop-pair
invariant-loop-pair l = record {
  added : PairsAdded l.words.items l.contents.objects.items l.contents.actions.items l.pair-index;
  head : SameHead (empty_region l.size) l.words.items;
  within : length l.words.items ≤ l.size;
}
