-- What each call of a port asks, and what it leaves.
use Rattle.std.specs.Prelude.{◌≡◌, ℕ, ◌+◌, ◌-◌, ◌*◌, ◌<◌, ◌≤◌, List, [], ◌∷◌, ◌++◌, Bool, true, false, cond, ◌==◌, ◌⊎◌, Some, IsTrue, IsSome, length, drop, slice_index}
use Rattle.std.specs.declared.option.Option.{Option}
use Rattle.std.specs.Int.{w64, from_be_bytes}
use Rattle.cas_model.specs.declared.digest.Digest.{Digest}
use Rattle.cas_model.specs.declared.note.Note.{Note}
use Rattle.cas_model.specs.declared.place.Place.{Place}
use Rattle.cas_model.specs.declared.place.Space.{Space}
use Rattle.cas_model.specs.declared.place.Space.TheVariants.{Objects, Actions}
use Rattle.cas_model.specs.declared.tables.Record.{Record}
use Rattle.cas_model.specs.Tables.{place_of, record_at, words_at, cell_of}
use Rattle.cas_history.specs.declared.event.Act.{Act}
use Rattle.cas_history.specs.declared.event.Act.TheVariants.{Look, Bind, Read, Claim, Room, Fill}
use Rattle.cas_history.specs.declared.event.Event.{Event}
use Rattle.cas_history.specs.Conduct.{IsPart}
use Rattle.cas_history.specs.Lawful.{IsLawfulRun, IsObjectRule, IsActionRule}
use Rattle.cas_port.specs.declared.block.Block.{Block}
use Rattle.cas_port.specs.declared.block.Bound.{Bound}
use Rattle.cas_port.specs.declared.block.Filled.{Filled}
use Rattle.cas_port.specs.declared.block.Filled.TheVariants.{Won, Lost}
use Rattle.cas_port.specs.declared.block.PortError.{PortError}
use Rattle.cas_port.specs.declared.block.PortError.TheVariants.{Full, Memory}
use Rattle.cas_port.specs.Blank.{none_written}
use Rattle.cas_port.specs.View.{View, tables, tables_before, Foreign, open_words, write_word, close_block, IsOpenFor, all_written, written_words}

abbrev pub event_of : Note → Act → Event
event_of note act = record { note = note; act = act }

-- the port speaks for the note's session
abbrev pub Speaks : View → Note → Type 0
Speaks v note = v.speaks note.who.session ≡ true

-- what was seen before and what is seen now are lawful runs
pub record IsLawful (old new : View) : Type 0 where
  pub was : IsLawfulRun old.upstream old.start old.seen
  pub is : IsLawfulRun new.upstream new.start new.seen

-- the steps were counted, and are at most so many more
abbrev pub Ticks : ℕ → ℕ → ℕ → Type 0
Ticks most old new = (old ≤ new) × (new ≤ old + most)

-- the port saw events of others, and then this one of its own. All else is as before
pub record Adds (old new : View) (event : Event) : Type 0 where
  pub others : List Event
  pub foreign : Foreign old.speaks others
  pub is : new ≡ record old { seen = event ∷ others ++ old.seen }

-- want of memory: nothing was added
pub record WantsMemory (old new : View) : Type 0 where
  pub same : new ≡ old
  pub takes : IsTrue old.takes_memory

-- ---- look and read

-- the answer is the place to which the digest is bound
pub record Looked (note : Note) (space : Space) (digest : Digest) (old new : View) (place : Option Place) : Type 0 where
  pub adds : Adds old new (event_of note (Look space digest))
  pub answer : place ≡ place_of (tables new).bound space digest

-- the place is that of a bound record
abbrev pub HasRecord : View → Place → Type 0
HasRecord v place = IsSome (record_at (tables v).bound place.at)

-- the answer is the value of the cell
pub record HasRead (note : Note) (cell : Place) (old new : View) (value : ℕ) : Type 0 where
  pub adds : Adds old new (event_of note (Read cell))
  pub answer : value ≡ cell_of (tables new).filled cell.at

-- ---- claim

-- a block is open at the place that the claim found, with nothing written
pub record HasClaimed (note : Note) (n : ℕ) (old new : View) (block : Block) : Type 0 where
  pub others : List Event
  pub foreign : Foreign old.speaks others
  pub is : new ≡ record old {
    seen = event_of note (Claim n) ∷ others ++ old.seen;
    opened = (record { place = block.place.at; who = note.who; words = none_written n }) ∷ old.opened;
  }
  pub place : block.place.at ≡ (tables_before new).counter
  pub length : block.length ≡ n

-- the claim was refused, with the numbers that it found, or memory was wanted
abbrev pub ClaimRefused : Note → ℕ → View → View → PortError → Type 0
ClaimRefused note n old new Memory = WantsMemory old new
ClaimRefused note n old new (Full full) =
    (moved : Bool) × Adds old new (event_of note (Room n moved))
    × (full ≡ record { at = (tables_before new).counter; asked = n; size = (tables_before new).size })

-- ---- bind

-- events of others, and claims of the note's call for records and subtries, of at most so many words together
abbrev pub BindClaims : (ℕ → Bool) → Note → List Event → ℕ → Type 0
BindClaims speaks note [] most = Unit {0}
BindClaims speaks note (e ∷ es) most =
    ((speaks e.note.who.session ≡ false) × BindClaims speaks note es most)
    ⊎ ((n : ℕ) × (e ≡ event_of note (Claim n)) × IsPart n × (n ≤ most) × BindClaims speaks note es (most - n))

-- the digest is bound to the answer's place, after claims of at most 997 words
pub record BoundTo (note : Note) (space : Space) (digest : Digest) (old new : View) (bound : Bound) : Type 0 where
  pub own : Option Place
  pub before : List Event
  pub claims : BindClaims old.speaks note before 997
  pub is : new ≡ record old { seen = event_of note (Bind space digest own) ∷ before ++ old.seen }
  pub answer : place_of (tables new).bound space digest ≡ Some bound.place
  pub level : bound.level ≤ 62

-- one of the bind's claims was refused, after others, with the numbers that it found
pub record BindFull (note : Note) (old new : View) (at asked size : ℕ) : Type 0 where
  pub moved : Bool
  pub before : List Event
  pub part : IsPart asked
  pub most : asked ≤ 997
  pub claims : BindClaims old.speaks note before (997 - asked)
  pub is : new ≡ record old { seen = event_of note (Room asked moved) ∷ before ++ old.seen }
  pub at_is : at ≡ (tables_before new).counter
  pub size_is : size ≡ (tables_before new).size

-- a claim was refused, or memory was wanted
abbrev pub BindRefused : Note → View → View → PortError → Type 0
BindRefused note old new Memory = WantsMemory old new
BindRefused note old new (Full full) = BindFull note old new full.at full.asked full.size

-- ---- write

-- the block is open, with all its words
abbrev pub IsOpen : View → Block → Type 0
IsOpen v block = length (open_words v.opened block.place.at) ≡ block.length

-- the word at the index of the block is written. All else is as before
abbrev pub HasWritten : View → View → Block → ℕ → ℕ → Type 0
HasWritten old new block index word = new ≡ record old { opened = write_word old.opened block.place.at index word }

-- ---- fill

-- the words that were written in an open block
abbrev pub words_of : View → Block → List ℕ
words_of v block = written_words (open_words v.opened block.place.at)

-- the note's call claimed the block and wrote it whole, the record is an object's, and the fill is lawful after what was seen
pub record IsWholeFill (note : Note) (cell : Place) (v : View) (block : Block) : Type 0 where
  pub opened : IsOpenFor v.opened note.who block.place.at block.length
  pub whole : all_written (open_words v.opened block.place.at) ≡ true
  pub found : Record
  pub bound : record_at (tables v).bound cell.at ≡ Some found
  pub object : found.space ≡ Objects
  pub lawful : IsObjectRule v.upstream (tables v) found.digest block.place.at (words_of v block)

-- a fill wins where the cell was 0, and loses to the value that it had
abbrev pub filled_as : ℕ → ℕ → Filled
filled_as had value = cond (had == 0) (Won value) (Lost had)

-- the block is published where the cell was 0, and is no longer open
pub record HasFilled (note : Note) (cell : Place) (old new : View) (block : Block) (filled : Filled) : Type 0 where
  pub others : List Event
  pub foreign : Foreign old.speaks others
  pub is : new ≡ record old {
    seen = event_of note (Fill cell block.place.at (words_of old block)) ∷ others ++ old.seen;
    opened = close_block old.opened block.place.at;
  }
  pub answer : filled ≡ filled_as (cell_of (tables_before new).filled cell.at) block.place.at

-- the block is abandoned, and want of memory added nothing
pub record Abandons (old new : View) (block : Block) : Type 0 where
  pub is : new ≡ record old { opened = close_block old.opened block.place.at }
  pub takes : IsTrue old.takes_memory

-- the record is an action's, and the fill is lawful after what was seen
pub record IsPlaceFill (cell : Place) (v : View) (value : Place) : Type 0 where
  pub found : Record
  pub bound : record_at (tables v).bound cell.at ≡ Some found
  pub action : found.space ≡ Actions
  pub lawful : IsActionRule v.upstream (tables v) found.digest value.at

pub record HasFilledPlace (note : Note) (cell : Place) (old new : View) (value : Place) (filled : Filled) : Type 0 where
  pub adds : Adds old new (event_of note (Fill cell value.at []))
  pub answer : filled ≡ filled_as (cell_of (tables_before new).filled cell.at) value.at

-- ---- word

-- a word of a digest: eight of its bytes, the high one first
unfoldable pub digest_word : Digest → ℕ → ℕ
digest_word digest i = from_be_bytes w64 (drop (8 * i) digest.bytes)

-- the place is that of a bound record or of a published content, which has a word at this index. A record shows four, its digest's
abbrev pub HasWord : View → Place → ℕ → Type 0
HasWord v place i =
    (IsSome (record_at (tables v).bound place.at) × (i < 4))
    ⊎ ((words : List ℕ) × (words_at (tables v).blocks place.at ≡ Some words) × (i < length words))

-- the word is that of the record's digest, or that of the content
pub record WordIs (v : View) (place : Place) (i word : ℕ) : Type 0 where
  pub of_record : (r : Record) → record_at (tables v).bound place.at ≡ Some r → i < 4 → word ≡ digest_word r.digest i
  pub of_content : (words : List ℕ) → words_at (tables v).blocks place.at ≡ Some words → i < length words → word ≡ slice_index words i
