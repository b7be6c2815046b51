-- What an event needs, when a fill is lawful for an upstream, and which runs are lawful.
use Rattle.std.specs.Prelude.{◌≡◌, ℕ, ◌+◌, ◌<◌, ◌≤◌, List, [], ◌∷◌, Some, None, IsSome, length}
use Rattle.std.specs.declared.option.Option.{Option}
use Rattle.std.specs.FinMap as fin
use Rattle.cas_model.specs.declared.call.Who.{Who}
use Rattle.cas_model.specs.declared.digest.Digest.{Digest}
use Rattle.cas_model.specs.declared.place.Place.{Place}
use Rattle.cas_model.specs.declared.place.Space.{Space}
use Rattle.cas_model.specs.declared.place.Space.TheVariants.{Objects, Actions}
use Rattle.cas_model.specs.declared.tables.Record.{Record}
use Rattle.cas_model.specs.Start.{IsFilled, IsContentFor, IsLawfulStart}
use Rattle.cas_model.specs.State.{State}
use Rattle.cas_model.specs.Tables.{Tables, HasClaim, place_of, record_at, words_at, digest_at, object_of}
use Rattle.cas_history.specs.declared.event.Act.{Act}
use Rattle.cas_history.specs.declared.event.Act.TheVariants.{Look, Bind, Read, Claim, Room, Fill}
use Rattle.cas_history.specs.declared.event.Event.{Event}
use Rattle.cas_history.specs.Run.{tables}

-- the call claimed a block of this length there, and nothing names it
pub record IsFreeBlock (s : Tables) (who : Who) (place n : ℕ) : Type 0 where
  pub claimed : HasClaim s.claims who place n
  pub no_record : record_at s.bound place ≡ None
  pub no_content : words_at s.blocks place ≡ None

-- where the digest is not bound, the event brings a record of its call's own
abbrev pub MayBind : Tables → Who → Option Place → Option Place → Type 0
MayBind s who (Some _) own = Unit {0}
MayBind s who None None = ⊥
MayBind s who None (Some own) = IsFreeBlock s who own.at 5

-- where the upstream has something, this is the same
abbrev pub Agrees : {X : Type 0} → Option X → X → Type 0
Agrees None x = Unit {0}
Agrees (Some y) x = x ≡ y

-- an object's fill is lawful: its words are a content that may lie there, of an object of this digest, and the upstream's object
-- where the upstream has the digest
pub record IsObjectRule (up : State) (s : Tables) (digest : Digest) (value : ℕ) (words : List ℕ) : Type 0 where
  pub for : IsContentFor s digest value words
  pub same : Agrees (fin.get up.objects digest) (object_of s.bound words)

-- an action's fill is lawful: the value is a filled object's record, and names the upstream's value where the upstream has the key
pub record IsActionRule (up : State) (s : Tables) (key : Digest) (value : ℕ) : Type 0 where
  pub object : IsFilled s value
  pub same : Agrees (fin.get up.cache key) (digest_at s.bound value)

-- a fill of an object's cell with a block of the call's own
pub record IsObjectFill (up : State) (s : Tables) (who : Who) (digest : Digest) (value : ℕ) (words : List ℕ) : Type 0 where
  pub free : IsFreeBlock s who value (length words)
  pub rule : IsObjectRule up s digest value words

-- a fill of an action's cell with the record of an object
pub record IsActionFill (up : State) (s : Tables) (key : Digest) (value : ℕ) (words : List ℕ) : Type 0 where
  pub no_words : words ≡ []
  pub rule : IsActionRule up s key value

abbrev pub MayFill : State → Tables → Who → Space → Digest → ℕ → List ℕ → Type 0
MayFill up s who Objects digest value words = IsObjectFill up s who digest value words
MayFill up s who Actions digest value words = IsActionFill up s digest value words

-- a fill of the cell of a bound record
abbrev pub MayFillAt : State → Tables → Who → Option Record → ℕ → List ℕ → Type 0
MayFillAt up s who None value words = ⊥
MayFillAt up s who (Some r) value words = MayFill up s who r.space r.digest value words

-- what an act of a call needs of the tables before it
abbrev pub MayHappen : State → Tables → Who → Act → Type 0
MayHappen up s who (Look space digest) = Unit {0}
MayHappen up s who (Bind space digest own) = MayBind s who (place_of s.bound space digest) own
MayHappen up s who (Read cell) = IsSome (record_at s.bound cell.at)
MayHappen up s who (Claim n) = (0 < n) × (s.counter + n ≤ s.size)
MayHappen up s who (Room n moved) = (0 < n) × (s.size < s.counter + n)
MayHappen up s who (Fill cell value words) = MayFillAt up s who (record_at s.bound cell.at) value words

-- from a lawful start, each event may happen after those before it, and each fill is lawful for this upstream
abbrev pub IsLawfulRun : State → Tables → List Event → Type 0
IsLawfulRun up start [] = IsLawfulStart start
IsLawfulRun up start (event ∷ earlier) = IsLawfulRun up start earlier × MayHappen up (tables start earlier) event.note.who event.act
