-- In which order sessions that run in turn add their events.
use Rattle.std.specs.Prelude.{◌≡◌, ℕ, ◌≤◌, List, ◌++◌, Bool, true, AllPairs}
use Rattle.cas_history.specs.declared.event.Event.{Event}
use Rattle.cas_port.specs.View.{View}

-- where the port speaks for the sessions of both events, the later one's is not lower
abbrev pub IsNotLower : (ℕ → Bool) → Event → Event → Type 0
IsNotLower speaks later earlier =
    speaks later.note.who.session ≡ true → speaks earlier.note.who.session ≡ true → earlier.note.who.session ≤ later.note.who.session

-- of any two events that were added, the newest of which stands first, the later one's session is not lower
pub record AddsInTurn (old new : View) : Type 0 where
  pub more : List Event
  pub is : new.seen ≡ more ++ old.seen
  pub order : AllPairs (IsNotLower old.speaks) more
