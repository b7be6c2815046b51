-- Objects that are made up, with the set of their digests.
use Rattle.std.specs.Prelude.{◌≡◌, List, [], Bool, true}
use Rattle.cas_model.specs.declared.digest.Digest.{Digest}
use Rattle.cas_model.specs.declared.object.Object.{Object}
use Rattle.cas_model.specs.Contents.{AreStorable, object_digests}
use Rattle.cas_model.specs.State.{Member}

-- objects that can be stored in this order, and a set that has each of their digests
pub record IsSample (has : Digest → Bool) (objects : List Object) : Type 0 where
  pub storable : AreStorable [] objects
  pub known : (d : Digest) → Member d (object_digests objects) → has d ≡ true
