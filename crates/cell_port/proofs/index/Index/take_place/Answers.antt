use Rattle.cell_port.proofs.IndexRows.{objects-put, actions-put}
use Rattle.cell_port.proofs.IndexDigests.{objects-loss, actions-loss}
use Rattle.cell_port.proofs.index.Index.take_place.Goals as goal

pub returns-in-Objects-clause-places : goal.returns-in-Objects-clause-places
returns-in-Objects-clause-places c = objects-put c.args.self.now c.remove.new.self c.args.record_ _ c.in-Objects.is c.remove.ensures.updates.0

pub returns-in-Actions-clause-places : goal.returns-in-Actions-clause-places
returns-in-Actions-clause-places c = actions-put c.args.self.now c.remove-in-Actions.new.self c.args.record_ _ c.in-Actions.is c.remove-in-Actions.ensures.updates.0

pub returns-in-Objects-clause-digests : goal.returns-in-Objects-clause-digests
returns-in-Objects-clause-digests c = objects-loss c.args.self.now c.remove.new.self c.args.record_ c.in-Objects.is c.requires c.remove.ensures.entries

pub returns-in-Actions-clause-digests : goal.returns-in-Actions-clause-digests
returns-in-Actions-clause-digests c = actions-loss c.args.self.now c.remove-in-Actions.new.self c.args.record_ c.in-Actions.is c.requires c.remove-in-Actions.ensures.entries
