-- When a new generation is put above the primary, and what it holds.
use Rattle.std.specs.Prelude.{◌≡◌, ◌≢◌, ℕ, ◌+◌, ◌<◌, ◌≤◌, List, [], ◌∷◌, Bool, false, ◌||◌, nat_le, None, Some, unwrap_or}
use Rattle.std.specs.declared.alloc.Global.{Global}
use Rattle.std.specs.declared.option.Option.{Option}
use Rattle.std.specs.declared.vec.Vec.{Vec}
use Rattle.cas_model.specs.declared.call.Reply.{Reply}
use Rattle.cas_model.specs.declared.call.Reply.TheVariants.{Stored, Found, Missing, Kept, Hit, Miss, Dangling, Full}
use Rattle.cas_model.specs.State.{State, empty_state}
use Rattle.generations.specs.Rotation.{NeedsRotation}
use Rattle.image_file.specs.Image.{image_bytes}
use Rattle.region_core.specs.Builds.{empty_region}
use Rattle.region_core.specs.Stands.{AreWords, Stands}
use Rattle.sessions.specs.declared.replies.SessionReplies.{SessionReplies}
use Rattle.cas_command.specs.declared.rotation.Rotation.{Rotation}

-- the reply says that a claim was refused which an empty region of the same size would have granted
abbrev pub outgrows : Reply → Bool
outgrows (Full at asked size) = nat_le (520 + asked) size
outgrows (Stored digest) = false
outgrows (Found o) = false
outgrows Missing = false
outgrows (Kept digest) = false
outgrows (Hit digest) = false
outgrows Miss = false
outgrows (Dangling index digest) = false

abbrev pub any_outgrows : List Reply → Bool
any_outgrows [] = false
any_outgrows (reply ∷ replies) = outgrows reply || any_outgrows replies

-- some reply of these sessions says so
abbrev pub full_seen : List SessionReplies → Bool
full_seen [] = false
full_seen (session ∷ sessions) = any_outgrows session.replies || full_seen sessions

-- the primary holds something at the end, its number is not the last one, and its image, of so many words, is past the limit or a claim was
-- refused that an empty region would have granted
pub record IsRotationDue (rotation : Rotation) (closed : State) (used : ℕ) (full : Bool) : Type 0 where
  pub holds : closed ≢ empty_state
  pub number : rotation.number < 4294967295
  pub needed : NeedsRotation used rotation.limit full

-- the bytes are the image of a region of this size in which nothing is stored, whose words stand for the empty state
pub record IsEmptyImage (size : ℕ) (bytes : List ℕ) : Type 0 where
  pub is : bytes ≡ image_bytes (empty_region size)
  pub words_are : AreWords (empty_region size)
  pub stands : Stands (empty_region size) size empty_state

-- the image of the new generation, where one is due: an empty region of the size that is asked for, and else of the primary's
abbrev pub IsNextDue : Rotation → ℕ → State → ℕ → Bool → Option (Vec ℕ Global) → Type 0
IsNextDue rotation size closed used full None = IsRotationDue rotation closed used full → ⊥
IsNextDue rotation size closed used full (Some image) =
    IsRotationDue rotation closed used full × IsEmptyImage (unwrap_or rotation.size size) image.items

-- ---- on the way

-- the size that is asked for, if any, is one that a region may have
abbrev pub IsSizeFor : Option ℕ → Type 0
IsSizeFor None = Unit {0}
IsSizeFor (Some size) = (4096 ≤ size) × (size ≤ 67108864)

abbrev pub IsSizeWithin : Rotation → Type 0
IsSizeWithin rotation = IsSizeFor rotation.size
