-- The flaws by the turn in which they are looked for.
use Rattle.std.specs.Prelude.{◌≡◌, ℕ, zero, suc, ◌<◌, List, slice_index}
use Rattle.cas_model.specs.declared.digest.Digest.{Digest}
use Rattle.region_core.specs.Stands.{IsHeaded}
use Rattle.region_check.specs.Flaws.{BadHeader, IsPastCounter, BadSlot, BadRange, BadLength, IsShared, BadPath, BadPadding, BadReference, BadOrder, BadDigest, BadValue}

abbrev pub RowOf : List ℕ → ℕ → ℕ → Type 0
RowOf words zero place = ⊥
RowOf words (suc zero) place = BadHeader words place
RowOf words (suc (suc zero)) place = IsPastCounter words place
RowOf words (suc (suc (suc zero))) place = BadSlot words place
RowOf words (suc (suc (suc (suc zero)))) place = BadRange words place
RowOf words (suc (suc (suc (suc (suc zero))))) place = BadLength words place
RowOf words (suc (suc (suc (suc (suc (suc zero)))))) place = IsShared words place
RowOf words (suc (suc (suc (suc (suc (suc (suc zero))))))) place = BadPath words place
RowOf words (suc (suc (suc (suc (suc (suc (suc (suc zero)))))))) place = BadPadding words place
RowOf words (suc (suc (suc (suc (suc (suc (suc (suc (suc zero))))))))) place = BadReference words place
RowOf words (suc (suc (suc (suc (suc (suc (suc (suc (suc (suc zero)))))))))) place = BadOrder words place
RowOf words (suc (suc (suc (suc (suc (suc (suc (suc (suc (suc (suc zero))))))))))) place = (kept found : Digest) × BadDigest words kept found place
RowOf words (suc (suc (suc (suc (suc (suc (suc (suc (suc (suc (suc (suc n)))))))))))) place = (n ≡ 0) × BadValue words place

-- no flaw has a turn before this one
pub record HasNoneBefore (words : List ℕ) (n : ℕ) : Type 0 where
  pub none : (m p : ℕ) → m < n → RowOf words m p → ⊥

-- words whose header and number have no flaw
pub record HasHeader (words : List ℕ) : Type 0 where
  pub headed : IsHeaded words (slice_index words 2)
  pub none : HasNoneBefore words 3
