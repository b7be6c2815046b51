-- The state that the filled records of a region's tables name.
use Rattle.std.specs.Prelude.{ℕ, zero, suc, List, [], ◌∷◌, Some, None}
use Rattle.std.specs.declared.option.Option.{Option}
use Rattle.std.specs.Option.{option_map}
use Rattle.std.specs.FinMap as fin
use Rattle.cas_model.specs.declared.digest.Digest.{Digest}
use Rattle.cas_model.specs.declared.object.Object.{Object}
use Rattle.cas_model.specs.declared.place.Place.{Place}
use Rattle.cas_model.specs.declared.place.Space.{Space}
use Rattle.cas_model.specs.declared.place.Space.TheVariants.{Objects, Actions}
use Rattle.cas_model.specs.declared.tables.Cell.{Cell}
use Rattle.cas_model.specs.declared.tables.Record.{Record}
use Rattle.cas_model.specs.State.{State, digest_cmp}
use Rattle.cas_model.specs.Tables.{Tables, place_of, cell_of, words_at, object_of, digest_at}

abbrev pub cell_at : List Cell → Option Place → ℕ
cell_at filled None = 0
cell_at filled (Some p) = cell_of filled p.at

-- the cell of a digest's record, 0 where the digest is not bound or the cell not filled
abbrev pub cell_under : Tables → Space → Digest → ℕ
cell_under s space digest = cell_at s.filled (place_of s.bound space digest)

-- the object whose content is at this place
abbrev pub object_in : Tables → ℕ → Option Object
object_in s zero = None
object_in s (suc n) = option_map (object_of s.bound) (words_at s.blocks (suc n))

-- the digest of the record at this place
abbrev pub value_in : Tables → ℕ → Option Digest
value_in s zero = None
value_in s (suc n) = Some (digest_at s.bound (suc n))

-- the object that a filled record of this digest names
abbrev pub object_under : Tables → Digest → Option Object
object_under s digest = object_in s (cell_under s Objects digest)

-- the value that a filled record of this key names
abbrev pub value_under : Tables → Digest → Option Digest
value_under s key = value_in s (cell_under s Actions key)

-- the map with a value added, where there is one
abbrev pub put : {X : Type 0} → Digest → Option X → fin.FinMap digest_cmp X → fin.FinMap digest_cmp X
put d None m = m
put d (Some x) m = fin.insert m d x

-- what stands under these digests
abbrev pub collected : {X : Type 0} → (Digest → Option X) → List Digest → fin.FinMap digest_cmp X
collected under [] = fin.empty
collected under (d ∷ ds) = put d (under d) (collected under ds)

abbrev pub digests : List Record → List Digest
digests [] = []
digests (r ∷ rs) = r.digest ∷ digests rs

-- the state that the filled records name
abbrev pub primary : Tables → State
primary s = record { objects = collected (object_under s) (digests s.bound); cache = collected (value_under s) (digests s.bound) }
