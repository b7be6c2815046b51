-- The paths of a folder of the system.
use Rattle.std.proofs.Common.{◌≡◌, List, ℕ, true, drop, arith, ap, ◌∙◌, codes}
use Rattle.std.proofs.lemmas.List.{append_cancel_left}
use Rattle.cas_outside.specs.Folder.{begins_with_v}
use Rattle.cas_outside.specs.OsFiles.{path_in}

-- a file that a caller may ask for is not the draft
pub paths-apart : (dir name : List ℕ) → begins_with_v name ≡ true → path_in dir (codes "tmp") ≡ path_in dir name → ⊥
paths-apart dir name first same =
    let begins : begins_with_v (codes "tmp") ≡ true = ap (λ path. begins_with_v (drop 1 path)) (append_cancel_left dir _ _ same) ∙ first in
    grind arith
