-- What the claims of a call may ask for, in words.
use Rattle.std.specs.Prelude.{◌≢◌, ℕ, ◌+◌, ◌≤◌, List, [], ◌∷◌, cond, length}
use Rattle.cas_model.specs.declared.call.Call.{Call}
use Rattle.cas_model.specs.declared.call.Call.TheVariants.{Store, Load, Put, Get}
use Rattle.cas_model.specs.declared.call.Who.{Who}
use Rattle.cas_model.specs.declared.digest.Digest.{Digest}
use Rattle.cas_model.specs.declared.object.Object.{Object}
use Rattle.cas_model.specs.Content.{content_size}
use Rattle.cas_model.specs.State.{State}
use Rattle.cas_history.specs.declared.event.Act.{Act}
use Rattle.cas_history.specs.declared.event.Act.TheVariants.{Look, Bind, Read, Claim, Room, Fill}
use Rattle.cas_history.specs.declared.event.Event.{Event}
use Rattle.cas_history.specs.Conduct.{same_who, InTree}

-- ---- what claims ask for

-- how many words a claim or refused claim asks for
abbrev pub asked_by : Act → ℕ
asked_by (Look space digest) = 0
asked_by (Bind space digest own) = 0
asked_by (Read cell) = 0
asked_by (Claim n) = n
asked_by (Room n moved) = n
asked_by (Fill cell value words) = 0

-- how many words the claims and refused claims of a call ask for
abbrev pub asked : Who → List Event → ℕ
asked who [] = 0
asked who (e ∷ earlier) = cond (same_who e.note.who who) (asked_by e.act) 0 + asked who earlier

-- how many words all calls together ask for
abbrev pub asked_by_all : List Event → ℕ
asked_by_all [] = 0
asked_by_all (e ∷ earlier) = asked_by e.act + asked_by_all earlier

-- ---- what a call costs

-- an object's record, at most 62 subtries, and its content
abbrev pub object_cost : Object → ℕ
object_cost o = content_size (length o.refs) (length o.data) + 997

-- what the call needs for its object or its key
abbrev pub own_cost : Call → ℕ
own_cost (Store o) = object_cost o
own_cost (Load d) = 0
own_cost (Put k v) = 997
own_cost (Get k) = 997

-- an object under its digest
pub record Row : Type 0 where
  pub digest : Digest
  pub object : Object

-- no row of the list has this digest
abbrev pub Lacks : Digest → List Row → Type 0
Lacks d [] = Unit {0}
Lacks d (r ∷ rs) = (r.digest ≢ d) × Lacks d rs

-- objects of the call's tree, none of them twice
abbrev pub AreOfTree : State → Call → List Row → Type 0
AreOfTree up call [] = Unit {0}
AreOfTree up call (r ∷ rs) = InTree up call r.digest r.object × Lacks r.digest rs × AreOfTree up call rs

abbrev pub rows_cost : List Row → ℕ
rows_cost [] = 0
rows_cost (r ∷ rs) = object_cost r.object + rows_cost rs

-- so many words are at most the call's cost: what it needs itself, and some objects of its tree, none of them twice
pub record IsWithinCost (up : State) (call : Call) (words : ℕ) : Type 0 where
  pub rows : List Row
  pub tree : AreOfTree up call rows
  pub most : words ≤ own_cost call + rows_cost rows

-- so many words are at most the cost of these calls together
abbrev pub AreWithinCost : State → List Call → ℕ → Type 0
AreWithinCost up [] words = words ≤ 0
AreWithinCost up (call ∷ calls) words = (one more : ℕ) × IsWithinCost up call one × AreWithinCost up calls more × (words ≤ one + more)

-- a place plus the cost of these calls is at most the size
abbrev pub HasRoomFor : State → List Call → ℕ → ℕ → Type 0
HasRoomFor up calls at size = (words : ℕ) → AreWithinCost up calls words → at + words ≤ size
