-- Objects that are being brought in.
use Rattle.std.specs.Prelude.{◌≡◌, ℕ, [], ◌∷◌, ◌++◌, Some}
use Rattle.std.specs.FinMap as fin
use Rattle.cas_model.specs.declared.digest.Digest.{Digest}
use Rattle.cas_model.specs.State.{State}
use Rattle.fault_in.specs.declared.walking.Open.{Open}

-- one more reference is filled, and its record is at this place
pub record HasAdded (old new : Open) (place : ℕ) : Type 0 where
  pub digest : new.digest ≡ old.digest
  pub object : new.object ≡ old.object
  pub places : new.places.items ≡ old.places.items ++ place ∷ []

-- the upstream's object under the digest, before its references are looked for
pub record IsOpening (up : State) (digest : Digest) (open_ : Open) : Type 0 where
  pub digest_is : open_.digest ≡ digest
  pub object_is : fin.get up.objects digest ≡ Some open_.object
  pub none : open_.places.items ≡ []
