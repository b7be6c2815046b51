-- Which tables a run may start from: those that the words of a lawful region stand for.
use Rattle.std.specs.Prelude.{◌≡◌, ◌≢◌, ℕ, ◌+◌, ◌<◌, ◌≤◌, List, [], ◌∷◌, Some, None, IsSome, length, ◌⊎◌}
use Rattle.cas_model.specs.declared.digest.Digest.{Digest}
use Rattle.cas_model.specs.declared.place.Place.{Place}
use Rattle.cas_model.specs.declared.place.Space.{Space}
use Rattle.cas_model.specs.declared.place.Space.TheVariants.{Objects, Actions}
use Rattle.cas_model.specs.declared.tables.Record.{Record}
use Rattle.cas_model.specs.Content.{IsContent, content_places}
use Rattle.cas_model.specs.Object.{object_digest}
use Rattle.cas_model.specs.Tables.{Tables, place_of, record_at, words_at, cell_of, object_of}

-- the place is that of a record in this space
pub record IsRecord (s : Tables) (space : Space) (n : ℕ) : Type 0 where
  pub found : Record
  pub is : record_at s.bound n ≡ Some found
  pub in_space : found.space ≡ space

-- the place is that of an object's record whose cell is filled
pub record IsFilled (s : Tables) (n : ℕ) : Type 0 where
  pub object : IsRecord s Objects n
  pub filled : 0 < cell_of s.filled n

-- each place is that of a filled object's record whose content lies below
abbrev pub RefsBelow : Tables → ℕ → List ℕ → Type 0
RefsBelow s value [] = Unit {0}
RefsBelow s value (n ∷ ns) = IsFilled s n × (cell_of s.filled n < value) × RefsBelow s value ns

-- the words are a content whose object has this digest, and which may lie at this place
pub record IsContentFor (s : Tables) (digest : Digest) (value : ℕ) (words : List ℕ) : Type 0 where
  pub content : IsContent words
  pub refs : RefsBelow s value (content_places words)
  pub named : object_digest (object_of s.bound words) ≡ digest

-- each digest is bound to a record of its own
pub record IsTied (bound : List Record) : Type 0 where
  pub to : (space : Space) (digest : Digest) (p : Place) → place_of bound space digest ≡ Some p
      → (r : Record) × (record_at bound p.at ≡ Some r) × (r.space ≡ space) × (r.digest ≡ digest)
  pub back : (n : ℕ) (r : Record) → record_at bound n ≡ Some r → (place_of bound r.space r.digest ≡ Some r.place) × (r.place.at ≡ n)

-- the value is what a filled cell of such a record may name
abbrev pub CellNames : Tables → Space → Digest → ℕ → Type 0
CellNames s Objects digest value = (words : List ℕ) × (words_at s.blocks value ≡ Some words) × IsContentFor s digest value words
CellNames s Actions digest value = IsFilled s value

-- a record or a block of so many words is named at this place
abbrev pub IsNamed : Tables → ℕ → ℕ → Type 0
IsNamed s n words = (IsSome (record_at s.bound n) × (words ≡ 5)) ⊎ ((ws : List ℕ) × (words_at s.blocks n ≡ Some ws) × (words ≡ length ws))

pub record IsLawfulStart (s : Tables) : Type 0 where
  pub least : 4096 ≤ s.size
  pub most : s.size ≤ 67108864
  pub counter_least : 520 ≤ s.counter
  pub counter_most : s.counter ≤ s.size
  -- the start gave the words below its counter
  pub gave : s.given ≡ s.counter
  pub tied : IsTied s.bound
  -- each filled cell is that of a bound record, and names what it may
  pub rooted : (n : ℕ) → record_at s.bound n ≡ None → cell_of s.filled n ≡ 0
  pub names : (n : ℕ) (r : Record) → record_at s.bound n ≡ Some r → 0 < cell_of s.filled n → CellNames s r.space r.digest (cell_of s.filled n)
  -- each block is named by an object's cell
  pub used : (n : ℕ) (ws : List ℕ) → words_at s.blocks n ≡ Some ws → (cell : ℕ) × IsRecord s Objects cell × (cell_of s.filled cell ≡ n)
  -- records and blocks lie in the arena, and no two have a common word
  pub within : (n words : ℕ) → IsNamed s n words → (520 ≤ n) × (n + words ≤ s.counter)
  pub apart : (n m a b : ℕ) → IsNamed s n a → IsNamed s m b → n ≢ m → (n + a ≤ m) ⊎ (m + b ≤ n)
  pub one_kind : (n : ℕ) → IsSome (record_at s.bound n) → words_at s.blocks n ≡ None
  -- no call has a block yet
  pub unclaimed : s.claims ≡ []
