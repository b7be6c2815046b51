use Rattle.cas_outside.proofs.os_folder.OsFolderFolder.remove.Goals as goal

pub returns-clause-removed : goal.returns-clause-removed
returns-clause-removed g c = c.changed.ensures.removed c.args.name.now
