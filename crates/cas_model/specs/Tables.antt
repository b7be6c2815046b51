-- The tables that a region's words stand for: which digests are bound to records, which cells are filled, and which
-- contents are published. A table is a list of rows, the newest first, and is read by its look-ups alone.
use Rattle.std.specs.Prelude.{◌≡◌, ℕ, List, [], ◌∷◌, Bool, true, false, cond, ◌&&◌, ◌⊎◌, nat_eq, ◌==◌, Some, None}
use Rattle.std.specs.declared.option.Option.{Option}
use Rattle.std.specs.Cmp.Lexicographic.{pointwise}
use Rattle.cas_model.specs.declared.call.Who.{Who}
use Rattle.cas_model.specs.declared.digest.Digest.{Digest}
use Rattle.cas_model.specs.declared.object.Object.{Object}
use Rattle.cas_model.specs.declared.place.Place.{Place}
use Rattle.cas_model.specs.declared.place.Space.{Space}
use Rattle.cas_model.specs.declared.place.Space.TheVariants.{Objects, Actions}
use Rattle.cas_model.specs.declared.tables.Cell.{Cell}
use Rattle.cas_model.specs.declared.tables.Content.{Content}
use Rattle.cas_model.specs.declared.tables.Record.{Record}
use Rattle.cas_model.specs.Content.{content_places, content_bytes}

-- a block that a claim gave, and for which call
pub record Claimed : Type 0 where
  pub who : Who
  pub place : ℕ
  pub length : ℕ

-- the tables at one moment. Sizes and places are in words
pub record Tables : Type 0 where
  pub size : ℕ
  -- the place of the next block, past the size where a refused claim has moved it
  pub counter : ℕ
  -- the end of the words that the start or a claim gave
  pub given : ℕ
  pub bound : List Record
  pub filled : List Cell
  pub blocks : List Content
  pub claims : List Claimed

-- the tables of a region of this size in which nothing is stored
abbrev pub empty_start : ℕ → Tables
empty_start size = record { size = size; counter = 520; given = 520; bound = []; filled = []; blocks = []; claims = [] }

-- ---- look-ups

abbrev pub same_space : Space → Space → Bool
same_space Objects Objects = true
same_space Actions Actions = true
same_space Objects Actions = false
same_space Actions Objects = false

abbrev pub same_digest : Digest → Digest → Bool
same_digest a b = pointwise nat_eq a.bytes b.bytes

-- the record is that of this digest in this space
abbrev pub is_for : Space → Digest → Record → Bool
is_for space digest r = same_space r.space space && same_digest r.digest digest

-- the place to which a digest is bound
abbrev pub place_of : List Record → Space → Digest → Option Place
place_of [] space digest = None
place_of (r ∷ rs) space digest = cond (is_for space digest r) (Some r.place) (place_of rs space digest)

-- the record at a place
abbrev pub record_at : List Record → ℕ → Option Record
record_at [] n = None
record_at (r ∷ rs) n = cond (r.place.at == n) (Some r) (record_at rs n)

-- the value of the cell of the record at a place, 0 where nothing filled it
abbrev pub cell_of : List Cell → ℕ → ℕ
cell_of [] n = 0
cell_of (c ∷ cs) n = cond (c.of.at == n) c.value (cell_of cs n)

-- the words of the content at a place
abbrev pub words_at : List Content → ℕ → Option (List ℕ)
words_at [] n = None
words_at (c ∷ cs) n = cond (c.place == n) (Some c.words) (words_at cs n)

-- a claim of this call gave the block of so many words at this place
abbrev pub HasClaim : List Claimed → Who → ℕ → ℕ → Type 0
HasClaim [] who place n = ⊥
HasClaim (c ∷ cs) who place n = (c ≡ record { who = who; place = place; length = n }) ⊎ HasClaim cs who place n

-- ---- what records and contents say

abbrev pub no_digest : Digest
no_digest = record { bytes = [] }

abbrev pub digest_of_record : Option Record → Digest
digest_of_record None = no_digest
digest_of_record (Some r) = r.digest

-- the digest of the record at a place
abbrev pub digest_at : List Record → ℕ → Digest
digest_at bound n = digest_of_record (record_at bound n)

-- the digests of the records at these places
abbrev pub digests_at : List Record → List ℕ → List Digest
digests_at bound [] = []
digests_at bound (n ∷ ns) = digest_at bound n ∷ digests_at bound ns

-- the object that the words of a content describe
abbrev pub object_of : List Record → List ℕ → Object
object_of bound words = record { refs = digests_at bound (content_places words); «data» = content_bytes words }
