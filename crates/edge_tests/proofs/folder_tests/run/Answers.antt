use Rattle.std.proofs.Common.{ap, ◌∙◌}
use Rattle.std.specs.FinMap as fin
use Rattle.cas_outside.specs.declared.folder_record.FolderCall.TheVariants.{Names, Replace}
use Rattle.cas_outside.specs.declared.folder_record.Outcome.TheVariants.{Done}
use Rattle.cas_outside.specs.declared.folder_record.FolderStep.TheVariants.{Made}
use Rattle.cas_outside.proofs.MemFiles.{mem_files-step, contains_key-insert}
use Rattle.edge_tests.proofs.folder_tests.run.Goals as goal

pub read-requires-clause-there : goal.read-requires-clause-there
read-requires-clause-there c = ap (λ m. fin.contains_key m c.args.name.now)
    (mem_files-step _ _ (Made Names Done) c.in_ok-_names.ensures.planned.1 ∙ mem_files-step _ _ (Made (Replace _ _) Done) c.in_ok-replace.ensures.planned.1)
    ∙ contains_key-insert _ c.args.name.now _
