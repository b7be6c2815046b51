use Rattle.cas_outside.proofs.os_folder.OsFolderFolder.replace.Goals as goal

pub returns-clause-replaced : goal.returns-clause-replaced
returns-clause-replaced g c = c.changed.ensures.replaced c.args.name.now c.args.bytes.now
