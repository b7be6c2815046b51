use Rattle.std.proofs.Common.{arith}
use Rattle.frozen_store.proofs.Walking.{root_table, all_filled}
use Rattle.frozen_store.proofs.walk.filled_records.Goals as goal

pub gather-requires : goal.gather-requires
gather-requires c = record { level = omega arith; table = root_table c.args.words.now c.args.space c.root_of.result c.requires.region c.requires.short c.root_of.ensures }

pub returns : goal.returns
returns c = all_filled c.args.words.now c.args.space c.root_of.result c.new-found.result.items c.gather.new.found.items c.root_of.ensures c.new-found.ensures.items c.in_ok-gather.ensures
