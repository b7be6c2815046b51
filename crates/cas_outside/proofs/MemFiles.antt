-- A folder in memory: the files after a step, and a file that was put.
use Rattle.std.proofs.Common.{◌≡◌, ℕ, List, true, cond, Some, refl, ap, sym, ◌∙◌, is_some}
use Rattle.std.specs.Cmp.Lexicographic.{nat_list_cmp_total, bytes_decides, texts_ties}
use Rattle.std.specs.FinMap as fin
use Rattle.std.proofs.lemmas.List.Sums.{fold_push}
use Rattle.cas_outside.specs.declared.folder_record.FolderStep.{FolderStep}
use Rattle.cas_outside.specs.Folder.{Files}
use Rattle.cas_outside.specs.FolderRecord.{files_after}
use Rattle.cas_outside.specs.MemFolder.{MemState, mem_files, with_step}

pub mem_files-step : (old new : MemState) (step : FolderStep) → new ≡ with_step old step → mem_files new ≡ files_after (mem_files old) step
mem_files-step old new step is = ap mem_files is ∙ fold_push files_after fin.empty old.steps step

-- a file that was put is there
pub contains_key-insert : (m : Files) (name bytes : List ℕ) → fin.contains_key (fin.insert m name bytes) name ≡ true
contains_key-insert m name bytes = ap is_some (fin.get-insert nat_list_cmp_total m name bytes name
    ∙ ap (λ b. cond b (Some bytes) (fin.get m name)) (sym (texts_ties name name) ∙ (bytes_decides name name).1 refl))
