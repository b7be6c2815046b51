use Rattle.std.proofs.Common.{◌≡◌, ◌++◌, take}
use Rattle.cas_model.specs.Content.{data_words}
use Rattle.region_core.proofs.building.push_data.Given as goal

abbrev pub invariant-loop-index : goal.invariant-loop-index
invariant-loop-index l = l.words.items ≡ l.fn.words.items ++ take l.index (data_words l.bytes)
