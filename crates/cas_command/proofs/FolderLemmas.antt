-- What a folder shows as it is opened.
use Rattle.std.proofs.Common.{◌≡◌, ℕ, ◌≤◌, ◌⊎◌, List, Some, Ok, ap, ◌∙◌, arith}
use Rattle.cas_outside.specs.Causes.{Rose}
use Rattle.cas_outside.specs.Folder.{Entered, FolderView, Later}
use Rattle.generations.specs.Opened.{Opens}
use Rattle.cas_command.specs.Opening.{IsOnlyOpened}

-- a count that rose later has risen
pub rose-since : (a b c : ℕ) → a ≤ b → Rose b c → Rose a c
rose-since a b c le rose = omega (arith, le, rose)

pub only : (dir : List ℕ) (old new : FolderView) → Later old new → (new.asked ≡ old.asked) ⊎ (new.asked ≡ Some dir) → new.files ≡ old.files → new.changes ≡ old.changes → IsOnlyOpened dir old new
only dir old new later asked files changes = record {
  later = later;
  asked = asked;
  is = λ i. record { files = files i; asked = new.asked; entered = new.entered; locked = new.locked; faults = new.faults; held = new.held; changes = changes i };
}

-- ---- where it was not entered

-- ---- where it was

module _ (dir : List ℕ) (old mid new : FolderView) (enters : Entered dir old mid (Ok tt)) (opens : Opens mid new) where
  files-stay : mid.files ≡ old.files
  files-stay = ap (λ (v : FolderView). v.files) enters.to

  asked-is : new.asked ≡ Some dir
  asked-is = ap (λ (v : FolderView). v.asked) opens.is ∙ ap (λ (v : FolderView). v.asked) enters.to
