-- The state that contents hold, and contents that can be stored in their order.
use Rattle.std.specs.Prelude.{◌≤◌, List, [], ◌∷◌, length}
use Rattle.std.specs.FinMap as fin
use Rattle.cas_model.specs.declared.contents.Pair.{Pair}
use Rattle.cas_model.specs.declared.digest.Digest.{Digest}
use Rattle.cas_model.specs.declared.object.Object.{Object}
use Rattle.cas_model.specs.Object.{object_digest}
use Rattle.cas_model.specs.State.{State, Member, digest_cmp}

-- the digests of objects, in their order
abbrev pub object_digests : List Object → List Digest
object_digests [] = []
object_digests (o ∷ os) = object_digest o ∷ object_digests os

-- the keys of pairs, in their order
abbrev pub pair_keys : List Pair → List Digest
pair_keys [] = []
pair_keys (p ∷ ps) = p.key ∷ pair_keys ps

-- each object under its digest
abbrev pub objects_map : List Object → fin.FinMap digest_cmp Object
objects_map [] = fin.empty
objects_map (o ∷ os) = fin.insert (objects_map os) (object_digest o) o

-- each value under its key
abbrev pub actions_map : List Pair → fin.FinMap digest_cmp Digest
actions_map [] = fin.empty
actions_map (p ∷ ps) = fin.insert (actions_map ps) p.key p.value

-- the state that contents hold
abbrev pub contents_state : List Object → List Pair → State
contents_state objects actions = record { objects = objects_map objects; cache = actions_map actions }

-- every digest of the first list is in the second
abbrev pub AllMembers : List Digest → List Digest → Type 0
AllMembers [] known = Unit {0}
AllMembers (d ∷ ds) known = Member d known × AllMembers ds known

-- objects that can be stored in this order after those with the digests that are known: each is within the limits, is new, and
-- refers to earlier ones
abbrev pub AreStorable : List Digest → List Object → Type 0
AreStorable known [] = Unit {0}
AreStorable known (o ∷ os) =
    (length o.refs ≤ 65535) × (length o.data ≤ 16777215) × AllMembers o.refs known × (Member (object_digest o) known → ⊥)
    × AreStorable (object_digest o ∷ known) os

-- pairs that can be put in this order after those with the keys that are known: each key is new, and each value is an object's digest
abbrev pub ArePuttable : List Digest → List Digest → List Pair → Type 0
ArePuttable digests known [] = Unit {0}
ArePuttable digests known (p ∷ ps) = Member p.value digests × (Member p.key known → ⊥) × ArePuttable digests (p.key ∷ known) ps

-- contents that can be stored in their order
pub record AreLawfulContents (objects : List Object) (actions : List Pair) : Type 0 where
  pub storable : AreStorable [] objects
  pub puttable : ArePuttable (object_digests objects) [] actions
