-- Which sessions only look and read.
use Rattle.std.specs.Prelude.{◌≡◌, ℕ, List, [], ◌∷◌, true}
use Rattle.cas_model.specs.State.{State}
use Rattle.cas_model.specs.Step.{Entry}
use Rattle.cas_history.specs.declared.event.Event.{Event}
use Rattle.graph_db.specs.Events.{is_reading}
use Rattle.unified_cas.specs.Reading.{NeedsNoChange}

-- over a primary with this state nothing had to change for these answers
abbrev pub NeedNoChange : State → List Entry → Type 0
NeedNoChange s [] = Unit {0}
NeedNoChange s (entry ∷ earlier) = NeedsNoChange s entry.call entry.reply × NeedNoChange s earlier

-- each event of the session is a look or a read
abbrev pub OnlyReads : ℕ → List Event → Type 0
OnlyReads session [] = Unit {0}
OnlyReads session (e ∷ es) = (e.note.who.session ≡ session → is_reading e.act ≡ true) × OnlyReads session es
