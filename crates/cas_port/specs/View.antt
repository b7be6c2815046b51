-- What contracts see of a port.
use Rattle.std.specs.Prelude.{◌≡◌, ℕ, List, [], ◌∷◌, Bool, true, false, cond, ◌==◌, Some, None, length, map, unwrap_or, slice_set}
use Rattle.std.specs.declared.option.Option.{Option}
use Rattle.cas_model.specs.State.{State}
use Rattle.cas_model.specs.Tables.{Tables}
use Rattle.cas_model.specs.declared.call.Who.{Who}
use Rattle.cas_history.specs.declared.event.Event.{Event}
use Rattle.cas_history.specs.Run.{tables as tables_after}
use Rattle.cas_port.specs.declared.block.OpenBlock.{OpenBlock}

pub record View : Type 0 where
  -- ports of one region have one number, one start and one upstream
  pub region : ℕ
  pub start : Tables
  pub upstream : State
  -- the newest first
  pub seen : List Event
  -- by the numbers of sessions
  pub speaks : ℕ → Bool
  pub takes_memory : Bool
  -- the blocks that its claims gave and no fill has taken, the newest first
  pub opened : List OpenBlock

-- the tables after what was seen
abbrev pub tables : View → Tables
tables v = tables_after v.start v.seen

abbrev pub earlier : List Event → List Event
earlier [] = []
earlier (e ∷ es) = es

-- the tables before the newest event
abbrev pub tables_before : View → Tables
tables_before v = tables_after v.start (earlier v.seen)

-- events of sessions that the port does not speak for
abbrev pub Foreign : (ℕ → Bool) → List Event → Type 0
Foreign speaks [] = Unit {0}
Foreign speaks (e ∷ es) = (speaks e.note.who.session ≡ false) × Foreign speaks es

-- ---- open blocks

-- the words of the open block at a place, none where there is no such block
abbrev pub open_words : List OpenBlock → ℕ → List (Option ℕ)
open_words [] place = []
open_words (o ∷ os) place = cond (o.place == place) o.words (open_words os place)

-- the open blocks, with one word of the block at a place written
abbrev pub write_word : List OpenBlock → ℕ → ℕ → ℕ → List OpenBlock
write_word [] place i word = []
write_word (o ∷ os) place i word = cond (o.place == place) (record o { words = slice_set o.words i (Some word) } ∷ os) (o ∷ write_word os place i word)

-- the open blocks without that at a place
abbrev pub close_block : List OpenBlock → ℕ → List OpenBlock
close_block [] place = []
close_block (o ∷ os) place = cond (o.place == place) os (o ∷ close_block os place)

-- the block of so many words at a place is open, and this call claimed it
abbrev pub IsOpenFor : List OpenBlock → Who → ℕ → ℕ → Type 0
IsOpenFor [] who place n = ⊥
IsOpenFor (o ∷ os) who place n = cond (o.place == place) ((o.who ≡ who) × (length o.words ≡ n)) (IsOpenFor os who place n)

-- every word of the block is written
abbrev pub all_written : List (Option ℕ) → Bool
all_written [] = true
all_written (None ∷ ws) = false
all_written (Some w ∷ ws) = all_written ws

-- the words that were written
abbrev pub written_words : List (Option ℕ) → List ℕ
written_words words = map (λ w. unwrap_or w 0) words
