-- What holds of each run as it goes on. Events are listed with the newest first, so `more ++ seen` goes on from `seen`.
use Rattle.std.specs.Prelude.{◌≡◌, ◌≢◌, ℕ, ◌+◌, ◌<◌, ◌≤◌, ◌⊎◌, Bool, true, false, None, Some, List, [], ◌∷◌, ◌++◌}
use Rattle.std.specs.declared.option.Option.{Option}
use Rattle.cas_model.specs.declared.call.Call.{Call}
use Rattle.cas_model.specs.declared.call.Who.{Who}
use Rattle.cas_model.specs.declared.digest.Digest.{Digest}
use Rattle.cas_model.specs.declared.note.Note.{Note}
use Rattle.cas_model.specs.declared.place.Place.{Place}
use Rattle.cas_model.specs.declared.place.Space.{Space}
use Rattle.cas_model.specs.declared.tables.Record.{Record}
use Rattle.cas_model.specs.Primary.{primary}
use Rattle.cas_model.specs.Start.{IsLawfulStart, IsNamed}
use Rattle.cas_model.specs.State.{State, empty_state}
use Rattle.cas_model.specs.Tables.{Tables, HasClaim, place_of, record_at, cell_of, empty_start}
use Rattle.cas_history.specs.declared.event.Act.{Act}
use Rattle.cas_history.specs.declared.event.Act.TheVariants.{Look, Bind, Read, Claim, Room, Fill}
use Rattle.cas_history.specs.declared.event.Event.{Event}
use Rattle.cas_history.specs.Changes.{Changes}
use Rattle.cas_history.specs.Conduct.{HasConduct, CallOpen, MayAct}
use Rattle.cas_history.specs.Cost.{asked, asked_by_all, IsWithinCost, HasRoomFor}
use Rattle.cas_history.specs.End.{ended}
use Rattle.cas_history.specs.Grows.{Grows}
use Rattle.cas_history.specs.History.{history, decided, of_session, events_of}
use Rattle.cas_history.specs.Lawful.{IsLawfulRun, IsObjectRule, IsActionRule, IsFreeBlock}
use Rattle.cas_history.specs.Run.{tables}

-- ---- what one more event changes

-- each event changes what its kind changes, and nothing else
abbrev pub EventChanges : Type 0
EventChanges = (up : State) (start : Tables) (event : Event) (seen : List Event) → IsLawfulRun up start (event ∷ seen)
    → Changes (tables start seen) event.note.who event.act (tables start (event ∷ seen))

-- ---- what lasts

-- the size, each bound place, each filled cell and each content stay as they are
abbrev pub NeverChanges : Type 0
NeverChanges = (up : State) (start : Tables) (more seen : List Event) → IsLawfulRun up start (more ++ seen) → Grows (tables start seen) (tables start (more ++ seen))

-- of these, the size, bound places and filled cells stay in every run, lawful or not
abbrev pub SizeStays : Type 0
SizeStays = (start : Tables) (seen : List Event) → (tables start seen).size ≡ start.size

abbrev pub PlacesStay : Type 0
PlacesStay = (start : Tables) (more seen : List Event) (space : Space) (digest : Digest) (p : Place) → place_of (tables start seen).bound space digest ≡ Some p
    → place_of (tables start (more ++ seen)).bound space digest ≡ Some p

abbrev pub CellsStay : Type 0
CellsStay = (start : Tables) (more seen : List Event) (n : ℕ) → 0 < cell_of (tables start seen).filled n → cell_of (tables start (more ++ seen)).filled n ≡ cell_of (tables start seen).filled n

-- what was seen before is a lawful run
abbrev pub BeforeIsLawful : Type 0
BeforeIsLawful = (up : State) (start : Tables) (more seen : List Event) → IsLawfulRun up start (more ++ seen) → IsLawfulRun up start seen

-- a lawful fill of an object stays lawful as the run goes on
abbrev pub ObjectStaysLawful : Type 0
ObjectStaysLawful = (up : State) (start : Tables) (more seen : List Event) (digest : Digest) (value : ℕ) (words : List ℕ) → IsLawfulRun up start (more ++ seen)
    → IsObjectRule up (tables start seen) digest value words → IsObjectRule up (tables start (more ++ seen)) digest value words

-- and so does a lawful fill of an action
abbrev pub ActionStaysLawful : Type 0
ActionStaysLawful = (up : State) (start : Tables) (more seen : List Event) (key : Digest) (value : ℕ) → IsLawfulRun up start (more ++ seen)
    → IsActionRule up (tables start seen) key value → IsActionRule up (tables start (more ++ seen)) key value

-- each event is of another call
abbrev pub AreOfOthers : Who → List Event → Type 0
AreOfOthers who [] = Unit {0}
AreOfOthers who (e ∷ es) = (e.note.who ≢ who) × AreOfOthers who es

-- a block that a call claimed, and that nothing names, stays so while other calls go on
abbrev pub FreeBlockLasts : Type 0
FreeBlockLasts = (up : State) (start : Tables) (more seen : List Event) (who : Who) (place n : ℕ) → IsLawfulRun up start (more ++ seen) → AreOfOthers who more
    → IsFreeBlock (tables start seen) who place n → IsFreeBlock (tables start (more ++ seen)) who place n

-- ---- where blocks lie

-- the counter only grows
abbrev pub CounterGrows : Type 0
CounterGrows = (start : Tables) (more seen : List Event) → (tables start seen).counter ≤ (tables start (more ++ seen)).counter

-- the act is a refused claim that has moved the counter
abbrev pub is_moved : Act → Bool
is_moved (Room n moved) = moved
is_moved (Look space digest) = false
is_moved (Bind space digest own) = false
is_moved (Read cell) = false
is_moved (Claim n) = false
is_moved (Fill cell value words) = false

-- the act is a refused claim
abbrev pub is_refused : Act → Bool
is_refused (Room n moved) = true
is_refused (Look space digest) = false
is_refused (Bind space digest own) = false
is_refused (Read cell) = false
is_refused (Claim n) = false
is_refused (Fill cell value words) = false

-- no refused claim has moved the counter
abbrev pub NoneMoved : List Event → Type 0
NoneMoved [] = Unit {0}
NoneMoved (e ∷ es) = (is_moved e.act ≡ false) × NoneMoved es

-- the counter is at most the size while no refused claim has moved it
abbrev pub CounterFits : Type 0
CounterFits = (up : State) (start : Tables) (seen : List Event) → IsLawfulRun up start seen → NoneMoved seen → (tables start seen).counter ≤ start.size

-- all words below the counter were given, or the counter has passed the size
abbrev pub GivenOrFull : Type 0
GivenOrFull = (up : State) (start : Tables) (seen : List Event) → IsLawfulRun up start seen
    → ((tables start seen).given ≡ (tables start seen).counter) ⊎ (start.size < (tables start seen).counter)

-- the words that were given lie within the size
abbrev pub GivenFits : Type 0
GivenFits = (up : State) (start : Tables) (seen : List Event) → IsLawfulRun up start seen
    → ((tables start seen).given ≤ (tables start seen).counter) × ((tables start seen).given ≤ start.size)

-- a bound record and a content lie in the words that were given
abbrev pub NamedFits : Type 0
NamedFits = (up : State) (start : Tables) (seen : List Event) (n words : ℕ) → IsLawfulRun up start seen → IsNamed (tables start seen) n words
    → (520 ≤ n) × (n + words ≤ (tables start seen).given)

-- a bound record's five words lie within the size
abbrev pub RecordFits : Type 0
RecordFits = (up : State) (start : Tables) (seen : List Event) (n : ℕ) (r : Record) → IsLawfulRun up start seen → record_at (tables start seen).bound n ≡ Some r
    → (520 ≤ n) × (n + 5 ≤ start.size)

-- a claimed block has a word, and lies above the start's words, in those that were given and within the size
abbrev pub ClaimFits : Type 0
ClaimFits = (up : State) (start : Tables) (seen : List Event) (who : Who) (place n : ℕ) → IsLawfulRun up start seen → HasClaim (tables start seen).claims who place n
    → (0 < n) × (start.counter ≤ place) × (place + n ≤ (tables start seen).given) × (place + n ≤ start.size)

-- no two named blocks have a common word
abbrev pub NamedApart : Type 0
NamedApart = (up : State) (start : Tables) (seen : List Event) (n m a b : ℕ) → IsLawfulRun up start seen
    → IsNamed (tables start seen) n a → IsNamed (tables start seen) m b → n ≢ m → (n + a ≤ m) ⊎ (m + b ≤ n)

-- a claimed block that nothing names has no word in common with a named one
abbrev pub FreeApart : Type 0
FreeApart = (up : State) (start : Tables) (seen : List Event) (who : Who) (place n m b : ℕ) → IsLawfulRun up start seen
    → IsFreeBlock (tables start seen) who place n → IsNamed (tables start seen) m b → (place + n ≤ m) ⊎ (m + b ≤ place)

-- two claims gave one block to one call, or blocks without a common word
abbrev pub ClaimsApart : Type 0
ClaimsApart = (up : State) (start : Tables) (seen : List Event) (who him : Who) (n m a b : ℕ) → IsLawfulRun up start seen
    → HasClaim (tables start seen).claims who n a → HasClaim (tables start seen).claims him m b
    → ((who ≡ him) × (n ≡ m) × (a ≡ b)) ⊎ (n + a ≤ m) ⊎ (m + b ≤ n)

-- a refused claim says that all claims together pass the end
abbrev pub RoomIsAsked : Type 0
RoomIsAsked = (up : State) (start : Tables) (note : Note) (n : ℕ) (moved : Bool) (seen : List Event) → IsLawfulRun up start (record { note = note; act = Room n moved } ∷ seen)
    → start.size < start.counter + n + asked_by_all seen

-- ---- costs

-- the call is in the list
abbrev pub IsAmong : Who → List Who → Type 0
IsAmong who [] = ⊥
IsAmong who (w ∷ ws) = (w ≡ who) ⊎ IsAmong who ws

-- each event is of one of these calls
abbrev pub AreOf : List Who → List Event → Type 0
AreOf whos [] = Unit {0}
AreOf whos (e ∷ es) = IsAmong e.note.who whos × AreOf whos es

-- these are the calls of the list, and each asks for at most its cost
abbrev pub AskForCosts : State → (Who → Option Call) → List Event → List Who → List Call → Type 0
AskForCosts up calls seen [] [] = Unit {0}
AskForCosts up calls seen (who ∷ whos) (call ∷ rest) = (calls who ≡ Some call) × IsWithinCost up call (asked who seen) × AskForCosts up calls seen whos rest
AskForCosts up calls seen [] (call ∷ rest) = ⊥
AskForCosts up calls seen (who ∷ whos) [] = ⊥

-- no claim is refused
abbrev pub NoneRefused : List Event → Type 0
NoneRefused [] = Unit {0}
NoneRefused (e ∷ es) = (is_refused e.act ≡ false) × NoneRefused es

-- where the start has room for the costs of all calls, and each asks for at most its cost, no claim is refused
abbrev pub FullNeverComes : Type 0
FullNeverComes = (up : State) (start : Tables) (calls : Who → Option Call) (whos : List Who) (list : List Call) (seen : List Event) → IsLawfulRun up start seen → AreOf whos seen
    → AskForCosts up calls seen whos list → HasRoomFor up list start.counter start.size → NoneRefused seen

-- ---- sessions

-- each event is of another session
abbrev pub AreOfOtherSessions : ℕ → List Event → Type 0
AreOfOtherSessions session [] = Unit {0}
AreOfOtherSessions session (e ∷ es) = (e.note.who.session ≢ session) × AreOfOtherSessions session es

-- while other sessions go on, a session's conduct stays
abbrev pub OthersLeaveConduct : Type 0
OthersLeaveConduct = (up : State) (start : Tables) (calls : Who → Option Call) (session : ℕ) (more seen : List Event) → AreOfOtherSessions session more
    → HasConduct up start calls session seen → HasConduct up start calls session (more ++ seen)

-- and so do its events and its entries
abbrev pub OthersLeaveEntries : Type 0
OthersLeaveEntries = (up : State) (start : Tables) (calls : Who → Option Call) (session : ℕ) (more seen : List Event) → AreOfOtherSessions session more
    → (events_of session (more ++ seen) ≡ events_of session seen)
    × (of_session session (history up start calls (more ++ seen)) ≡ of_session session (history up start calls seen))

-- and a call that is not decided yet stays so
abbrev pub OthersLeaveOpen : Type 0
OthersLeaveOpen = (up : State) (start : Tables) (calls : Who → Option Call) (who : Who) (more seen : List Event) → AreOfOtherSessions who.session more
    → CallOpen up start calls who seen → CallOpen up start calls who (more ++ seen)

-- an event that an open call may make keeps its session's conduct, and where it decides nothing the call stays open
abbrev pub EventsKeepConduct : Type 0
EventsKeepConduct = (up : State) (start : Tables) (calls : Who → Option Call) (note : Note) (call : Call) (act : Act) (seen : List Event) → calls note.who ≡ Some call
    → MayAct up start seen note.who call note.stage act → CallOpen up start calls note.who seen
    → HasConduct up start calls note.who.session (record { note = note; act = act } ∷ seen)
    × (decided up (tables start seen) call note.stage act ≡ None → CallOpen up start calls note.who (record { note = note; act = act } ∷ seen))

-- ---- starts

-- where a lawful run ends, another may start
abbrev pub EndIsStart : Type 0
EndIsStart = (up : State) (start : Tables) (seen : List Event) → IsLawfulRun up start seen → IsLawfulStart (ended (tables start seen))

-- and it starts with the same primary state
abbrev pub EndNamesTheSame : Type 0
EndNamesTheSame = (s : Tables) → primary (ended s) ≡ primary s

-- a region of a size within the limits in which nothing is stored is a lawful start
abbrev pub EmptyIsStart : Type 0
EmptyIsStart = (size : ℕ) → 4096 ≤ size → size ≤ 67108864 → IsLawfulStart (empty_start size)

-- and its primary state is empty
abbrev pub EmptyNamesNothing : Type 0
EmptyNamesNothing = (size : ℕ) → primary (empty_start size) ≡ empty_state
