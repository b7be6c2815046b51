-- The images that a run leaves: that of the state at its end, and that of a new generation.
use Rattle.std.specs.Prelude.{◌≡◌, ◌≢◌, ◌⊎◌, ℕ, ◌+◌, ◌<◌, List, Bool, None, Some, length, sum}
use Rattle.std.specs.declared.alloc.Global.{Global}
use Rattle.std.specs.declared.option.Option.{Option}
use Rattle.std.specs.declared.vec.Vec.{Vec}
use Rattle.std.specs.FinMap as fin
use Rattle.cas_model.specs.declared.contents.Pair.{Pair}
use Rattle.cas_model.specs.declared.object.Object.{Object}
use Rattle.cas_model.specs.Claims.{contents_claims}
use Rattle.cas_model.specs.Contents.{contents_state}
use Rattle.cas_model.specs.Primary.{primary}
use Rattle.cas_model.specs.State.{State, digest_cmp}
use Rattle.cas_model.specs.Tables.{Tables}
use Rattle.cell_port.specs.FilledRows.{HoldsContents}
use Rattle.frozen_store.specs.Seen.{FrozenSeen, IsSeen}
use Rattle.image_file.specs.Image.{image_bytes}
use Rattle.region_core.specs.Stands.{AreWords, Stands}
use Rattle.cas_command.specs.declared.closing.Images.{Images}
use Rattle.cas_command.specs.declared.rotation.Rotation.{Rotation}
use Rattle.cas_command.specs.Rotation.{IsNextDue}

-- the bytes are the image of just so many words, which stand for a state in a region of this size
pub record IsImageOf (size : ℕ) (state : State) (used : ℕ) (bytes : List ℕ) : Type 0 where
  pub words : List ℕ
  pub words_are : AreWords words
  pub stands : Stands words size state
  pub long : length words ≡ used
  pub is : bytes ≡ image_bytes words

-- the image of the closed state, which takes so many words, where it is not the opened one
abbrev pub IsImageDue : ℕ → State → State → ℕ → Option (Vec ℕ Global) → Type 0
IsImageDue size opened closed used None = closed ≡ opened
IsImageDue size opened closed used (Some image) = (closed ≢ opened) × IsImageOf size closed used image.items

-- how many words the image of these contents has: the header and the roots, and all that storing them claims
abbrev pub words_used : List Object → List Pair → ℕ
words_used objects actions = 520 + sum (contents_claims objects actions)

-- the image of what these tables hold has so many words
pub record Uses (s : Tables) (used : ℕ) : Type 0 where
  pub objects : List Object
  pub actions : List Pair
  pub holds : HoldsContents s objects actions
  pub is : used ≡ words_used objects actions

-- the images that are due of a closed state that has so many words
pub record AreDue (size : ℕ) (opened closed : State) (rotation : Rotation) (used : ℕ) (full : Bool) (images : Images) : Type 0 where
  pub image : IsImageDue size opened closed used images.image
  pub next : IsNextDue rotation size closed used full images.next

-- ---- on the way

-- the closed region of this size that holds just these contents
pub record IsClosedAt (size : ℕ) (objects : List Object) (actions : List Pair) (closed : FrozenSeen) : Type 0 where
  pub seen : IsSeen closed
  pub size_is : closed.tables.size ≡ size
  pub state : primary closed.tables ≡ contents_state objects actions
  pub used : length closed.words ≡ words_used objects actions

-- the map is as before, or has more keys
abbrev pub MayGrow : {X : Type 0} → fin.FinMap digest_cmp X → fin.FinMap digest_cmp X → Type 0
MayGrow old new = (new ≡ old) ⊎ (fin.len old < fin.len new)

-- a state of which nothing is taken away
pub record Grows (old new : State) : Type 0 where
  pub objects : MayGrow old.objects new.objects
  pub cache : MayGrow old.cache new.cache
