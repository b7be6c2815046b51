use Rattle.cell_port.proofs.IndexRows.{objects-put, actions-put}
use Rattle.cell_port.proofs.IndexDigests.{objects-gain, actions-gain}
use Rattle.cell_port.proofs.index.Index.put_place.Goals as goal

pub returns-in_ok-insert-in-Objects-clause-ok : goal.returns-in_ok-insert-in-Objects-clause-ok
returns-in_ok-insert-in-Objects-clause-ok c = objects-put c.args.self.now c.insert.new.self c.args.record_ _ c.in-Objects.is c.in_ok-insert-in-Objects.ensures.updates.0

pub returns-in_ok-insert-in-Actions-clause-ok : goal.returns-in_ok-insert-in-Actions-clause-ok
returns-in_ok-insert-in-Actions-clause-ok c = actions-put c.args.self.now c.insert-in-Actions.new.self c.args.record_ _ c.in-Actions.is c.in_ok-insert-in-Actions.ensures.updates.0

pub returns-in_ok-insert-in-Objects-clause-ok_digests : goal.returns-in_ok-insert-in-Objects-clause-ok_digests
returns-in_ok-insert-in-Objects-clause-ok_digests c = objects-gain c.args.self.now c.insert.new.self c.args.record_ c.in-Objects.is c.requires c.in_ok-insert-in-Objects.ensures.entries

pub returns-in_ok-insert-in-Actions-clause-ok_digests : goal.returns-in_ok-insert-in-Actions-clause-ok_digests
returns-in_ok-insert-in-Actions-clause-ok_digests c = actions-gain c.args.self.now c.insert-in-Actions.new.self c.args.record_ c.in-Actions.is c.requires c.in_ok-insert-in-Actions.ensures.entries
