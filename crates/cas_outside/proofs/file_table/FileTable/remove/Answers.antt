use Rattle.std.proofs.Common.{ap, sym, ◌∙◌}
use Rattle.std.specs.Map.{lookup}
use Rattle.std.specs.FinMap as fin
use Rattle.cas_outside.specs.FileTable.{files_of}
use Rattle.cas_outside.proofs.FileTable.{at, remove-files}
use Rattle.cas_outside.proofs.file_table.FileTable.remove.Goals as goal

pub returns : goal.returns
returns c = ap files_of c.remove.ensures.entries
    ∙ remove-files c.self.inside.files.entries c.args.name.now (ap (lookup (at c.args.name.now)) (sym c.remove.ensures.entries) ∙ c.remove.ensures.updates.1)
    ∙ ap (λ m. fin.remove m c.args.name.now) c.self.view_is
