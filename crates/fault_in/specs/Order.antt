-- In which order a call brings in a tree.
-- Events are listed with the newest first, and each list of events that was seen later ends with the earlier one.
use Rattle.std.specs.Prelude.{◌≡◌, ℕ, List, [], ◌∷◌, ◌++◌, Bool, true, false, ◌&&◌, Some}
use Rattle.std.specs.FinMap as fin
use Rattle.cas_model.specs.declared.call.Who.{Who}
use Rattle.cas_model.specs.declared.digest.Digest.{Digest}
use Rattle.cas_model.specs.declared.object.Object.{Object}
use Rattle.cas_model.specs.declared.place.Place.{Place}
use Rattle.cas_model.specs.declared.place.Space.TheVariants.{Objects}
use Rattle.cas_model.specs.Notes.{deep_note}
use Rattle.cas_model.specs.State.{State, has}
use Rattle.cas_model.specs.Tables.{Tables, place_of}
use Rattle.cas_history.specs.declared.event.Act.{Act}
use Rattle.cas_history.specs.declared.event.Act.TheVariants.{Look, Bind, Read, Claim, Room, Fill}
use Rattle.cas_history.specs.declared.event.Event.{Event}
use Rattle.cas_history.specs.Conduct.{same_who}
use Rattle.cas_history.specs.Run.{tables as tables_after, primary_of}
use Rattle.cas_port.specs.Calls.{event_of}
use Rattle.cas_port.specs.View.{View}

-- a fill
abbrev pub is_fill : Act → Bool
is_fill (Fill cell value words) = true
is_fill (Look space digest) = false
is_fill (Bind space digest own) = false
is_fill (Read cell) = false
is_fill (Claim n) = false
is_fill (Room n moved) = false

-- no event is a fill of the call
abbrev pub HasNoFill : Who → List Event → Type 0
HasNoFill who [] = Unit {0}
HasNoFill who (e ∷ es) = ((same_who e.note.who who && is_fill e.act) ≡ false) × HasNoFill who es

-- the call fills nothing
pub record IsQuiet (who : Who) (before after : List Event) : Type 0 where
  pub more : List Event
  pub is : after ≡ more ++ before
  pub none : HasNoFill who more

-- the call fills once: the newest event is its fill of the digest's record
pub record FillsLast (start : Tables) (who : Who) (digest : Digest) (before after : List Event) : Type 0 where
  pub earlier : List Event
  pub quiet : IsQuiet who before earlier
  pub cell : Place
  pub value : ℕ
  pub words : List ℕ
  pub is : after ≡ event_of (deep_note who) (Fill cell value words) ∷ earlier
  pub at : place_of (tables_after start earlier).bound Objects digest ≡ Some cell

-- the call visits these digests in order. One that the primary has when it is looked for is passed, and nothing is filled for it. One that it lacks then
-- is brought in: the call visits what its object refers to, by rising index, and fills its record after that. It fills nothing else
pub data Visits (up : State) (start : Tables) (who : Who) : List Digest → List Event → List Event → Type 0 where
  ends : {seen : List Event} → Visits up start who [] seen seen
  passes : {digest : Digest} {rest : List Digest} {before looked after : List Event} → IsQuiet who before looked → has (primary_of start looked) digest ≡ true → Visits up start who rest looked after
      → Visits up start who (digest ∷ rest) before after
  brings : {digest : Digest} {rest : List Digest} {before looked visited filled after : List Event} (o : Object) → fin.get up.objects digest ≡ Some o → IsQuiet who before looked
      → has (primary_of start looked) digest ≡ false → Visits up start who o.refs looked visited → FillsLast start who digest visited filled → Visits up start who rest filled after
      → Visits up start who (digest ∷ rest) before after

-- such a visit that stops: after some of the digests, or below the next one, which is then not filled
pub data VisitsSome (up : State) (start : Tables) (who : Who) : List Digest → List Event → List Event → Type 0 where
  stops : {digests : List Digest} {before after : List Event} → IsQuiet who before after → VisitsSome up start who digests before after
  goes_on : {digest : Digest} {rest : List Digest} {before visited after : List Event} → Visits up start who (digest ∷ []) before visited → VisitsSome up start who rest visited after
      → VisitsSome up start who (digest ∷ rest) before after
  goes_below : {digest : Digest} {rest : List Digest} {before looked after : List Event} (o : Object) → fin.get up.objects digest ≡ Some o → IsQuiet who before looked
      → has (primary_of start looked) digest ≡ false → VisitsSome up start who o.refs looked after → VisitsSome up start who (digest ∷ rest) before after

-- the root was visited whole, or the upstream lacks it and nothing was seen
abbrev pub IsVisited : State → Who → Digest → View → View → Bool → Type 0
IsVisited up who root old new true = Visits up old.start who (root ∷ []) old.seen new.seen
IsVisited up who root old new false = new ≡ old

-- the root was visited up to where the call stopped
abbrev pub IsVisitedInPart : State → Who → Digest → View → View → Type 0
IsVisitedInPart up who root old new = VisitsSome up old.start who (root ∷ []) old.seen new.seen
