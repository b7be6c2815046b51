use Rattle.std.proofs.Common.{subst}
use Rattle.frozen_store.specs.Seen.{IsSeen}
use Rattle.frozen_store.proofs.Facts.{is_seen}
use Rattle.frozen_store.proofs.frozen.Frozen.seen.Goals as goal

pub returns : goal.returns
returns c = subst IsSeen c.self.view_is (is_seen c.self.inside.words.items c.self.inside.counts.objects c.self.inside.counts.actions c.self.invariant)
