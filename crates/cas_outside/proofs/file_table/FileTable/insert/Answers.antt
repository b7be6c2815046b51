use Rattle.std.proofs.Common.{◌≡◌, ap, ◌∙◌, rules}
use Rattle.std.specs.FinMap as fin
use Rattle.cas_outside.specs.FileTable.{files_of}
use Rattle.cas_outside.proofs.FileTable.{insert-files}
use Rattle.cas_outside.proofs.file_table.FileTable.insert.Goals as goal

pub returns-clause-ok : goal.returns-clause-ok
returns-clause-ok c =
    let name : c.in_ok-name.name.items ≡ c.args.name.now = search rules in
    let bytes : c.in_ok-bytes.bytes.items ≡ c.args.bytes.now = search rules in
    ap files_of c.in_ok-insert.ensures.entries ∙ insert-files c.self.inside.files.entries c.in_ok-name.name c.in_ok-bytes.bytes
    ∙ ap (λ m. fin.insert m c.in_ok-name.name.items c.in_ok-bytes.bytes.items) c.self.view_is
    ∙ ap (λ k. fin.insert c.args.self.now k c.in_ok-bytes.bytes.items) name ∙ ap (fin.insert c.args.self.now c.args.name.now) bytes
