use Rattle.frozen_store.proofs.Facts.{Inside, count_is}
use Rattle.frozen_store.proofs.frozen.Frozen.counts.Goals as goal

pub returns-clause-objects : goal.returns-clause-objects
returns-clause-objects c =
    let y : Inside c.args.self.now = record { words = c.self.inside.words.items; objects = c.self.inside.counts.objects; actions = c.self.inside.counts.actions; frozen = c.self.invariant; is = c.self.view_is } in
    (count_is c.args.self.now y).0

pub returns-clause-actions : goal.returns-clause-actions
returns-clause-actions c =
    let y : Inside c.args.self.now = record { words = c.self.inside.words.items; objects = c.self.inside.counts.objects; actions = c.self.inside.counts.actions; frozen = c.self.invariant; is = c.self.view_is } in
    (count_is c.args.self.now y).1
