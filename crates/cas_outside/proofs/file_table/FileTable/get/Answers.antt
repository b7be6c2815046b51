use Rattle.std.proofs.Common.{ℕ, Some, ap, sym, ◌∙◌, option_map}
use Rattle.std.specs.declared.vec.Vec.{Vec}
use Rattle.std.specs.declared.alloc.Global.{Global}
use Rattle.std.specs.FinMap as fin
use Rattle.cas_outside.proofs.FileTable.{get-files}
use Rattle.cas_outside.proofs.file_table.FileTable.get.Goals as goal

pub returns-in-Some : goal.returns-in-Some
returns-in-Some c = ap Some c.as_slice.ensures.value ∙ ap (option_map (λ (v : Vec ℕ Global). v.items)) c.in-Some.ensures.value
    ∙ sym (ap (λ m. fin.get m c.args.name.now) (sym c.self.view_is) ∙ get-files c.self.inside.files.entries c.args.name.now)

pub returns-in-None : goal.returns-in-None
returns-in-None c = ap (option_map (λ (v : Vec ℕ Global). v.items)) c.in-None.ensures.value
    ∙ sym (ap (λ m. fin.get m c.args.name.now) (sym c.self.view_is) ∙ get-files c.self.inside.files.entries c.args.name.now)
