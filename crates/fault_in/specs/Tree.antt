-- The tree of a digest in an upstream, and which events bring it in.
-- Events are listed with the newest first.
use Rattle.std.specs.Prelude.{◌≡◌, ℕ, List, [], ◌∷◌, ◌++◌, Bool, true, false, ◌&&◌, ◌||◌, ◌⊎◌, Some}
use Rattle.std.specs.FinMap as fin
use Rattle.cas_model.specs.declared.call.Call.{Call}
use Rattle.cas_model.specs.declared.call.Who.{Who}
use Rattle.cas_model.specs.declared.digest.Digest.{Digest}
use Rattle.cas_model.specs.declared.object.Object.{Object}
use Rattle.cas_model.specs.declared.place.Place.{Place}
use Rattle.cas_model.specs.declared.place.Space.TheVariants.{Objects}
use Rattle.cas_model.specs.Notes.{deep_note}
use Rattle.cas_model.specs.State.{State, Leads, has}
use Rattle.cas_model.specs.Tables.{Tables, place_of}
use Rattle.cas_history.specs.declared.event.Act.{Act}
use Rattle.cas_history.specs.declared.event.Act.TheVariants.{Look, Bind, Read, Claim, Room, Fill}
use Rattle.cas_history.specs.declared.event.Event.{Event}
use Rattle.cas_history.specs.Conduct.{InTree, IsPart, IsContentOf, same_who}
use Rattle.cas_history.specs.Cost.{Lacks, Row}
use Rattle.cas_history.specs.History.{is_miss}
use Rattle.cas_history.specs.Run.{tables as tables_after}

-- the object is the upstream's, and references reach it from the root
pub record IsBelow (up : State) (root digest : Digest) (o : Object) : Type 0 where
  pub path : List Digest
  pub leads : Leads up path root digest
  pub is : fin.get up.objects digest ≡ Some o

-- the call's tree has the whole tree of the root
abbrev pub HasTree : State → Call → Digest → Type 0
HasTree up call root = (digest : Digest) (o : Object) → IsBelow up root digest o → InTree up call digest o

-- ---- objects of the tree

-- each is an object of the root's tree that the state lacks, and none stands twice
abbrev pub AreMissing : State → Digest → State → List Row → Type 0
AreMissing up root s [] = Unit {0}
AreMissing up root s (r ∷ rs) = IsBelow up root r.digest r.object × (has s r.digest ≡ false) × Lacks r.digest rs × AreMissing up root s rs

-- the state has each of them
abbrev pub HasRows : State → List Row → Type 0
HasRows s [] = Unit {0}
HasRows s (r ∷ rs) = (has s r.digest ≡ true) × HasRows s rs

-- ---- which events a call adds

-- so many words are those of a record, of a subtrie or of the content of an object of the tree
abbrev pub IsNeeded : State → Digest → ℕ → Type 0
IsNeeded up root n = IsPart n ⊎ ((digest : Digest) × (o : Object) × IsBelow up root digest o × IsContentOf o n)

-- the cell is that of an object of the tree
abbrev pub IsCellBelow : State → Tables → Digest → Place → Type 0
IsCellBelow up s root cell = (digest : Digest) × (o : Object) × IsBelow up root digest o × (place_of s.bound Objects digest ≡ Some cell)

-- a claim is needed and comes after a miss, and a fill is of an object of the tree. No claim is refused
abbrev pub IsBringing : State → Tables → Digest → Bool → Act → Type 0
IsBringing up s root missed (Look space digest) = Unit {0}
IsBringing up s root missed (Bind space digest own) = Unit {0}
IsBringing up s root missed (Read cell) = Unit {0}
IsBringing up s root missed (Claim n) = IsNeeded up root n × (missed ≡ true)
IsBringing up s root missed (Room n moved) = ⊥
IsBringing up s root missed (Fill cell value words) = IsCellBelow up s root cell

-- one of the newer events is the call's, and found no record or an empty cell; or one did before
abbrev pub missed_since : Tables → Who → Bool → List Event → List Event → Bool
missed_since start who before [] seen = before
missed_since start who before (e ∷ more) seen = (same_who e.note.who who && is_miss (tables_after start (more ++ seen)) e.act) || missed_since start who before more seen

-- each of the newer events is of a session that the port does not speak for, or the call's at the stage Deep, and brings in the tree
abbrev pub AreBringing : State → Tables → (ℕ → Bool) → Who → Digest → Bool → List Event → List Event → Type 0
AreBringing up start speaks who root before [] seen = Unit {0}
AreBringing up start speaks who root before (e ∷ more) seen =
    ((speaks e.note.who.session ≡ false) ⊎ ((e.note ≡ deep_note who) × IsBringing up (tables_after start (more ++ seen)) root (missed_since start who before more seen) e.act))
    × AreBringing up start speaks who root before more seen
