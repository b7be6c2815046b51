-- The order in which objects are brought in, while the call is under way.
use Rattle.std.proofs.Common.{◌≡◌, List, [], ◌∷◌, ◌++◌, true, false, None, Some, is_none, ◌∙◌, subst, slice_get, length}
use Rattle.std.specs.declared.option.Option.{Option}
use Rattle.cas_model.specs.declared.call.Who.{Who}
use Rattle.cas_model.specs.declared.digest.Digest.{Digest}
use Rattle.cas_model.specs.declared.place.Place.{Place}
use Rattle.cas_model.specs.Primary.{primary}
use Rattle.cas_model.specs.State.{State, has}
use Rattle.cas_model.specs.Tables.{Tables}
use Rattle.cas_history.specs.Run.{primary_of}
use Rattle.cas_history.proofs.Sound.{sound-run}
use Rattle.cas_history.proofs.Visible.{cell-has}
use Rattle.cas_port.specs.Calls.{IsLawful}
use Rattle.cas_port.specs.View.{View, tables}
use Rattle.graph_db.specs.Events.{seen_state}
use Rattle.graph_db.proofs.Steps.{goes-start}
use Rattle.fault_in.specs.declared.walking.Open.{Open}
use Rattle.fault_in.specs.FaultIn.{Brings}
use Rattle.fault_in.specs.Open.{HasAdded, IsOpening}
use Rattle.fault_in.specs.Order.{FillsLast, IsQuiet, IsVisited, IsVisitedInPart, Visits, VisitsSome, ends, passes}
use Rattle.fault_in.specs.Bringing.{HasSought}
use Rattle.fault_in.proofs.Costs.{cell-lacks}
use Rattle.fault_in.proofs.Steps.{brings-goes}
use Rattle.fault_in.proofs.Visited.{AreVisiting, opening-visits, order-down, order-filled, order-found, order-out, order-stops, order-up, quiet-self, some-after, visits-after}
use Rattle.fault_in.proofs.Walked.{IsUnderWay}

-- the objects that wait and the newest open one, with what was visited for them
abbrev pub IsInOrder : Who → Tables → View → View → List Open → Open → Type 0
IsInOrder who t first v waiting top = AreVisiting (primary t) first.start who waiting top first.seen v.seen

pub order-starts : (who : Who) (t : Tables) (v : View) (f : Open) → IsOpening (primary t) f.digest f → has (seen_state v) f.digest ≡ false → IsInOrder who t v v [] f
order-starts who t v f opening missing = opening-visits (primary t) v.start who f.digest f v.seen v.seen opening (quiet-self who v.seen) missing

module _ (who : Who) (root : Digest) (t : Tables) (first v : View) (waiting : List Open) (top : Open) (h : IsUnderWay who root t first v waiting top) (order : IsInOrder who t first v waiting top) where
  start-v : v.start ≡ first.start
  start-v = goes-start who first v (brings-goes who root true first v h.brings)

  start-new : (new : View) → Brings who root true v new → new.start ≡ first.start
  start-new new brings = goes-start who v new (brings-goes who root true v new brings) ∙ start-v

  -- the next reference is filled
  pub found-order : (new : View) (child : Digest) (place : Place) (next : Open) → slice_get top.object.refs (length top.places.items) ≡ Some child → IsLawful v new → HasSought who child v new (Some place)
      → IsQuiet who v.seen new.seen → HasAdded top next place.at → IsInOrder who t first new waiting next
  found-order new child place next at lawful sought quiet added =
      let there : has (seen_state new) child ≡ true = cell-has (tables new) child (sound-run new.upstream new.start new.seen lawful.is) sought.1.filled in
      order-found (primary t) first.start who waiting top next child place.at first.seen v.seen new.seen order at quiet
      (subst (λ (s : Tables). has (primary_of s new.seen) child ≡ true) (start-new new (sought.0 root true)) there) added

  -- it is not, and is opened
  pub down-order : (new : View) (child : Digest) (next : Open) (later : List Open) → HasSought who child v new None → IsQuiet who v.seen new.seen → IsOpening (primary t) child next
      → later ≡ waiting ++ (top ∷ []) → IsInOrder who t first new later next
  down-order new child next later sought quiet opening is =
      order-down (primary t) first.start who waiting later top next child first.seen v.seen new.seen order quiet
      (subst (λ (s : Tables). has (primary_of s new.seen) child ≡ false) (start-new new (sought.1 root true).0) (cell-lacks (tables new) child sought.0)) opening is

  fills-first : (new : View) → FillsLast v.start who top.digest v.seen new.seen → FillsLast first.start who top.digest v.seen new.seen
  fills-first new fills = subst (λ (s : Tables). FillsLast s who top.digest v.seen new.seen) start-v fills

  -- the newest one is filled, and another one waits for it
  pub up-order : (new : View) (rest : List Open) (parent next : Open) (place : Place) → slice_get top.object.refs (length top.places.items) ≡ None → FillsLast v.start who top.digest v.seen new.seen
      → waiting ≡ rest ++ (parent ∷ []) → HasAdded parent next place.at → IsInOrder who t first new rest next
  up-order new rest parent next place at fills is added =
      order-up (primary t) first.start who root waiting rest parent top next place.at first.seen v.seen new.seen order h.linked h.newest.below.is at (fills-first new fills) is added

  -- nothing waits for it
  pub out-order : (new : View) → slice_get top.object.refs (length top.places.items) ≡ None → FillsLast v.start who top.digest v.seen new.seen → waiting ≡ [] → IsVisited (primary t) who root first new true
  out-order new at fills none = order-out (primary t) first.start who root waiting top first.seen v.seen new.seen order h.linked h.newest.below.is at (fills-first new fills) none

  -- the call stops, with nothing more filled
  pub stops-order : (new : View) → IsQuiet who v.seen new.seen → IsVisitedInPart (primary t) who root first new
  stops-order new quiet = order-stops (primary t) first.start who (tables v) root root waiting top first.seen v.seen new.seen order h.others h.linked h.newest.below.is quiet

  -- the call stops after the newest one was filled
  pub filled-order : (new : View) → slice_get top.object.refs (length top.places.items) ≡ None → FillsLast v.start who top.digest v.seen new.seen → IsVisitedInPart (primary t) who root first new
  filled-order new at fills = order-filled (primary t) first.start who (tables v) root root waiting top first.seen v.seen new.seen order h.others h.linked h.newest.below.is at (fills-first new fills)

-- ---- the root

-- it was there already
pub root-passed : (up : State) (who : Who) (root : Digest) (old mid : View) (place : Option Place) → IsLawful old mid → IsQuiet who old.seen mid.seen → HasSought who root old mid place → is_none place ≡ false
    → IsVisited up who root old mid true
root-passed up who root old mid None lawful quiet sought some = cc
root-passed up who root old mid (Some place) lawful quiet sought some =
    let there : has (seen_state mid) root ≡ true = cell-has (tables mid) root (sound-run mid.upstream mid.start mid.seen lawful.is) sought.1.filled in
    passes quiet (subst (λ (s : Tables). has (primary_of s mid.seen) root ≡ true) (goes-start who old mid (brings-goes who root true old mid (sought.0 root true))) there) ends

-- its tree was brought in after the look
pub root-visited : (up : State) (who : Who) (root d : Digest) (old mid new : View) → d ≡ root → mid.start ≡ old.start → IsQuiet who old.seen mid.seen → IsVisited up who d mid new true → IsVisited up who root old new true
root-visited up who root d old mid new same start quiet h =
    visits-after up old.start who quiet
    (subst (λ (s : Tables). Visits up s who (root ∷ []) mid.seen new.seen) start (subst (λ (x : Digest). IsVisited up who x mid new true) same h))

-- a part of it was
pub root-stopped : (up : State) (who : Who) (root d : Digest) (old mid new : View) → d ≡ root → mid.start ≡ old.start → IsQuiet who old.seen mid.seen → IsVisitedInPart up who d mid new → IsVisitedInPart up who root old new
root-stopped up who root d old mid new same start quiet h =
    some-after up old.start who quiet
    (subst (λ (s : Tables). VisitsSome up s who (root ∷ []) mid.seen new.seen) start (subst (λ (x : Digest). IsVisitedInPart up who x mid new) same h))
