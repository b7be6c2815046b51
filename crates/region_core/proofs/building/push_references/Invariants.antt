use Rattle.std.proofs.Common.{take}
use Rattle.region_core.specs.Builds.{HasPlaces}
use Rattle.region_core.proofs.building.push_references.Given as goal

abbrev pub invariant-loop-reference : goal.invariant-loop-reference
invariant-loop-reference l = HasPlaces (take l.end l.fn.words.items) l.fn.words.items l.words.items (take l.reference-index l.refs)
