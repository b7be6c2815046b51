-- The parts of a store and of a load.
use Rattle.std.specs.Prelude.{◌≡◌, ℕ, zero, suc, ◌<◌, List, [], ◌∷◌, true, not, ◌==◌, ◌⊎◌, IsTrue, Some, None, take, drop, length}
use Rattle.std.specs.declared.option.Option.{Option}
use Rattle.cas_model.specs.declared.call.Call.TheVariants.{Store}
use Rattle.cas_model.specs.declared.call.Reply.TheVariants as reply
use Rattle.cas_model.specs.declared.call.Who.{Who}
use Rattle.cas_model.specs.declared.digest.Digest.{Digest}
use Rattle.cas_model.specs.declared.note.Note.{Note}
use Rattle.cas_model.specs.declared.object.Object.{Object}
use Rattle.cas_model.specs.declared.place.Place.{Place}
use Rattle.cas_model.specs.declared.place.Space.TheVariants.{Objects}
use Rattle.cas_model.specs.declared.tables.Record.{Record}
use Rattle.cas_model.specs.Content.{IsContent, content_places}
use Rattle.cas_model.specs.Object.{object_digest}
use Rattle.cas_model.specs.Primary.{cell_under}
use Rattle.cas_model.specs.State.{has, AreBytes}
use Rattle.cas_model.specs.Tables.{Tables, place_of, record_at, words_at}
use Rattle.cas_history.specs.Conduct.{found_ref}
use Rattle.cas_history.specs.Cost.{object_cost}
use Rattle.cas_history.specs.History.{left_by, read_by}
use Rattle.cas_history.specs.Run.{tables as tables_after}
use Rattle.cas_port.specs.declared.block.Block.{Block}
use Rattle.cas_port.specs.declared.block.OpenBlock.{OpenBlock}
use Rattle.cas_port.specs.declared.block.PortError.{PortError}
use Rattle.cas_port.specs.declared.block.PortError.TheVariants as port
use Rattle.cas_port.specs.Calls.{IsLawful}
use Rattle.cas_port.specs.View.{View, tables}
use Rattle.graph_db.specs.declared.error.StoreError.{StoreError}
use Rattle.graph_db.specs.Events.{Ends, Last, Reads, Stops, seen_state}
use Rattle.graph_db.specs.Holds.{HasSought}
use Rattle.graph_db.specs.Stores.{object_with, HasNoRoom, IsRefused}
use Rattle.cas_model.specs.Notes.{own_note}

-- ---- looking for an object

-- what was found, and the value of the record's cell: 0 where the primary lacks the digest
pub record HasSoughtValue (note : Note) (digest : Digest) (old new : View) (value : ℕ) : Type 0 where
  pub sought : HasSought note digest old new (not (value == 0))
  pub value_is : value ≡ cell_under (tables new) Objects digest
  pub left : left_by (tables_after new.start sought.earlier) sought.act ≡ value
  pub read : read_by (tables_after new.start sought.earlier) sought.act ≡ value

-- ---- looking for the references of a store

-- what was seen is a lawful run before and after, or nothing was asked of the port
abbrev pub IsLawfulOrSame : View → View → Type 0
IsLawfulOrSame old new = (new ≡ old) ⊎ IsLawful old new

-- each digest's cell is filled
abbrev pub AreFilled : Tables → List Digest → Type 0
AreFilled s [] = Unit {0}
AreFilled s (d ∷ ds) = (0 < cell_under s Objects d) × AreFilled s ds

-- the call found all these references of its own
pub record HasRefs (who : Who) (refs : List Digest) (v : View) : Type 0 where
  pub found : (i : ℕ) → i < length refs → found_ref v.start who i v.seen ≡ true
  pub filled : AreFilled (tables v) refs

-- the call of each object with these references has only looked and read, and found all of them
pub record FindsRefs (who : Who) (all : List Digest) (old new : View) : Type 0 where
  pub reads : Reads who old new
  pub ends : (bytes : List ℕ) → Ends who (Store (object_with all bytes)) None old new 0
  pub refs : HasRefs who all new

-- the same of the first references alone
pub record FindsFirst (who : Who) (all : List Digest) (n : ℕ) (old new : View) : Type 0 where
  pub reads : Reads who old new
  pub ends : (bytes : List ℕ) → Ends who (Store (object_with all bytes)) None old new 0
  pub refs : HasRefs who (take n all) new
  pub lawful : IsLawfulOrSame old new

-- a store of each object with these references is refused
abbrev pub IsRefusedFor : Who → List Digest → View → View → StoreError → Type 0
IsRefusedFor who refs old new error = (bytes : List ℕ) → IsRefused who (object_with refs bytes) old new error

-- ---- bringing the content

-- the place of the record of a digest that is bound
abbrev pub place_number : Option Place → ℕ
place_number None = 0
place_number (Some p) = p.at

-- the places of the records of digests that are bound
abbrev pub places_in : Tables → List Digest → List ℕ
places_in s [] = []
places_in s (d ∷ ds) = place_number (place_of s.bound Objects d) ∷ places_in s ds

-- the first k words are written
abbrev pub partly : ℕ → List ℕ → List (Option ℕ)
partly k [] = []
partly zero (w ∷ ws) = None ∷ partly zero ws
partly (suc k) (w ∷ ws) = Some w ∷ partly k ws

-- a block of a call with these words
abbrev pub block_of : Block → Who → List (Option ℕ) → OpenBlock
block_of block who words = record { place = block.place.at; who = who; words = words }

-- the call's block is the newest open one, and has these words
pub record IsOpenAlone (v : View) (who : Who) (block : Block) (words : List (Option ℕ)) : Type 0 where
  pub rest : List OpenBlock
  pub is : v.opened ≡ block_of block who words ∷ rest

-- without the newest open block
abbrev pub shut : View → View
shut v = record v { opened = drop 1 v.opened }

-- the call's newest open block has these words, the others are as before, and the call's events have decided nothing and claimed nothing
pub record Writes (who : Who) (o : Object) (old new : View) (block : Block) (words : List (Option ℕ)) : Type 0 where
  pub ends : Ends who (Store o) None (shut old) (shut new) 0
  pub opened : new.opened ≡ block_of block who words ∷ drop 1 old.opened

-- the same, with some of the words, where memory was wanted
pub record WriteStops (who : Who) (o : Object) (old new : View) (block : Block) : Type 0 where
  pub takes : IsTrue old.takes_memory
  pub words : List (Option ℕ)
  pub writes : Writes who o old new block words

-- the object was brought into the primary, and the call is decided
pub record Brings (who : Who) (o : Object) (old new : View) : Type 0 where
  pub there : has (seen_state new) (object_digest o) ≡ true
  pub ends : Ends who (Store o) (Some (reply.Stored (object_digest o))) old new (object_cost o)
  pub last : Last (own_note who) (Store o) (Some (reply.Stored (object_digest o))) new

-- a claim was refused, or memory was wanted
abbrev pub BringStops : Who → Object → View → View → PortError → Type 0
BringStops who o old new (port.Full full) = HasNoRoom who o old new full.at full.asked full.size
BringStops who o old new port.Memory = Stops who (Store o) old new (object_cost o)

-- ---- reading a content

-- the words of the content at a place, none where there is no content
abbrev pub words_or : Option (List ℕ) → List ℕ
words_or None = []
words_or (Some words) = words

abbrev pub content_at : Tables → ℕ → List ℕ
content_at s n = words_or (words_at s.blocks n)

-- a record of 32 bytes is bound at this place
pub record IsWholeRecord (s : Tables) (n : ℕ) : Type 0 where
  pub found : Record
  pub is : record_at s.bound n ≡ Some found
  pub long : length found.digest.bytes ≡ 32
  pub bytes : AreBytes found.digest.bytes

abbrev pub AreWholeRecords : Tables → List ℕ → Type 0
AreWholeRecords s [] = Unit {0}
AreWholeRecords s (n ∷ ns) = IsWholeRecord s n × AreWholeRecords s ns

-- a content was published at this place, and its references are whole records
pub record HasContent (s : Tables) (n : ℕ) : Type 0 where
  pub there : words_at s.blocks n ≡ Some (content_at s n)
  pub content : IsContent (content_at s n)
  pub refs : AreWholeRecords s (content_places (content_at s n))
