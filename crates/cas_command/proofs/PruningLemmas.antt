-- What a folder shows as it is entered, locked and pruned.
use Rattle.std.proofs.Common.{◌≡◌, List, ℕ, Some, Ok, ap, ◌∙◌}
use Rattle.cas_outside.specs.Folder.{Entered, FolderView}

-- ---- where the folder was not entered

-- ---- where it was

module _ (dir : List ℕ) (old mid new : FolderView) (enters : Entered dir old mid (Ok tt)) where
  asked-is : new.asked ≡ mid.asked → new.asked ≡ Some dir
  asked-is same = same ∙ ap (λ (v : FolderView). v.asked) enters.to
