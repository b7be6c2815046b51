-- The contents that a run published, whose words are kept in the events of their fills.
use Rattle.std.specs.Prelude.{ℕ, zero, suc, ◌<◌, List, [], ◌∷◌, ◌++◌, cond, ◌==◌, Some, None, length}
use Rattle.std.specs.declared.option.Option.{Option}
use Rattle.cas_model.specs.declared.tables.Content.{Content}
use Rattle.cas_history.specs.declared.event.Act.{Act}
use Rattle.cas_history.specs.declared.event.Act.TheVariants.{Look, Bind, Read, Claim, Room, Fill}
use Rattle.cas_history.specs.declared.event.Event.{Event}
use Rattle.cell_port.specs.declared.shown.Shown.{Shown}
use Rattle.cell_port.specs.Tables.{PlainRows}

-- the words that an act has, none where it is no fill
abbrev pub act_words : Act → List ℕ
act_words (Look space digest) = []
act_words (Bind space digest own) = []
act_words (Read cell) = []
act_words (Claim n) = []
act_words (Room n moved) = []
act_words (Fill cell value words) = words

-- the words of the event before which so many were seen
abbrev pub words_before : List Event → ℕ → List ℕ
words_before [] n = []
words_before (e ∷ es) n = cond (length es == n) (act_words e.act) (words_before es n)

-- the contents, with the words that their events have
abbrev pub shown_in : List Event → List Shown → List Content
shown_in seen [] = []
shown_in seen (s ∷ ss) = (record { place = s.place; words = words_before seen s.before }) ∷ shown_in seen ss

-- each was published by one of so many events
abbrev pub AreBelow : ℕ → List Shown → Type 0
AreBelow n [] = Unit {0}
AreBelow n (s ∷ ss) = (s.before < n) × AreBelow n ss

-- the number of the first of them at a place
abbrev pub number_at : List Shown → ℕ → Option ℕ
number_at [] place = None
number_at (s ∷ ss) place = cond (s.place == place) (Some s.before) (number_at ss place)

-- with those that the rows have
abbrev pub contents_of : List Event → List Shown → PlainRows → List Content
contents_of seen shown r = shown_in seen shown ++ r.blocks

-- one more of them, where the cell of its fill was 0
abbrev pub shown_more : ℕ → ℕ → ℕ → List Shown → List Shown
shown_more (suc _) value n shown = shown
shown_more zero value n shown = (record { place = value; before = n }) ∷ shown
