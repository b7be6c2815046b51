-- The file `tmp` of a folder of the system.
use Rattle.std.specs.Prelude.{◌≡◌, ℕ, true, false}
use Rattle.cas_outside.specs.declared.os_draft.Draft.{Draft}

-- nothing was written yet
pub record IsEmptyDraft (d : Draft) : Type 0 where
  pub empty : d.taken ≡ 0
  pub unsynced : d.synced ≡ false

-- so many bytes were written
pub record HasTaken (count : ℕ) (d : Draft) : Type 0 where
  pub taken : d.taken ≡ count

-- what was written was synced
pub record IsSynced (old new : Draft) : Type 0 where
  pub same : new.taken ≡ old.taken
  pub synced : new.synced ≡ true
