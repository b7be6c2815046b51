-- The rows of filled cells, each over the rows below it: what they name, and the objects in the order in which they were filled.
use Rattle.std.specs.Prelude.{◌≡◌, ℕ, ◌<◌, List, [], ◌∷◌, ◌++◌, cond, Some, None, IsSome, reverse}
use Rattle.std.specs.declared.option.Option.{Option}
use Rattle.std.specs.List.Sorted.{IsStrictlySortedBy}
use Rattle.cas_model.specs.declared.contents.Pair.{Pair}
use Rattle.cas_model.specs.declared.digest.Digest.{Digest}
use Rattle.cas_model.specs.declared.object.Object.{Object}
use Rattle.cas_model.specs.declared.place.Space.{Space}
use Rattle.cas_model.specs.declared.place.Space.TheVariants.{Objects, Actions}
use Rattle.cas_model.specs.declared.tables.Cell.{Cell}
use Rattle.cas_model.specs.declared.tables.Content.{Content}
use Rattle.cas_model.specs.declared.tables.Record.{Record}
use Rattle.cas_model.specs.Content.{IsContent, content_places}
use Rattle.cas_model.specs.Object.{object_digest}
use Rattle.cas_model.specs.Contents.{contents_state, actions_map, pair_keys, AreLawfulContents}
use Rattle.cas_model.specs.Primary.{primary}
use Rattle.cas_model.specs.State.{digest_cmp}
use Rattle.cas_model.specs.Tables.{Tables, same_digest, same_space, record_at, words_at, cell_of, object_of, digest_at}

-- the place is that of an object's record, which the rows fill
pub record IsFilledIn (bound : List Record) (cells : List Cell) (n : ℕ) : Type 0 where
  pub found : Record
  pub is : record_at bound n ≡ Some found
  pub object : found.space ≡ Objects
  pub filled : 0 < cell_of cells n

abbrev pub AreFilledIn : List Record → List Cell → List ℕ → Type 0
AreFilledIn bound cells [] = Unit {0}
AreFilledIn bound cells (n ∷ ns) = IsFilledIn bound cells n × AreFilledIn bound cells ns

-- the words are a content of an object with this digest, whose references the rows fill
pub record NamesObject (bound : List Record) (cells : List Cell) (digest : Digest) (words : List ℕ) : Type 0 where
  pub content : IsContent words
  pub refs : AreFilledIn bound cells (content_places words)
  pub named : object_digest (object_of bound words) ≡ digest

abbrev pub RowNames : List Record → List Content → List Cell → Space → Digest → ℕ → Type 0
RowNames bound blocks cells Objects digest value = (words : List ℕ) × (words_at blocks value ≡ Some words) × NamesObject bound cells digest words
RowNames bound blocks cells Actions digest value = IsFilledIn bound cells value

-- a row fills a bound record that the rows below it do not fill
pub record IsRow (bound : List Record) (blocks : List Content) (cells : List Cell) (c : Cell) : Type 0 where
  pub empty : cell_of cells c.of.at ≡ 0
  pub some : 0 < c.value
  pub found : Record
  pub is : record_at bound c.of.at ≡ Some found
  pub names : RowNames bound blocks cells found.space found.digest c.value

abbrev pub AreRows : List Record → List Content → List Cell → Type 0
AreRows bound blocks [] = Unit {0}
AreRows bound blocks (c ∷ cs) = IsRow bound blocks cs c × AreRows bound blocks cs

-- the object whose content is at a place
abbrev pub object_with : List Record → Option (List ℕ) → List Object
object_with bound None = []
object_with bound (Some words) = object_of bound words ∷ []

-- the object that a row of an object's record names, none where the record is an action's
abbrev pub row_object : List Record → List Content → Option Record → ℕ → List Object
row_object bound blocks None value = []
row_object bound blocks (Some r) value = cond (same_space r.space Objects) (object_with bound (words_at blocks value)) []

-- the objects that the rows name, the last one filled first
abbrev pub filled_objects : List Record → List Content → List Cell → List Object
filled_objects bound blocks [] = []
filled_objects bound blocks (c ∷ cs) = row_object bound blocks (record_at bound c.of.at) c.value ++ filled_objects bound blocks cs

-- the pair that a row of an action's record names, none where the record is an object's
abbrev pub row_pair : List Record → Option Record → ℕ → List Pair
row_pair bound None value = []
row_pair bound (Some r) value = cond (same_space r.space Actions) ((record { key = r.digest; value = digest_at bound value }) ∷ []) []

-- the pairs that the rows name, the last one filled first
abbrev pub filled_pairs : List Record → List Cell → List Pair
filled_pairs bound [] = []
filled_pairs bound (c ∷ cs) = row_pair bound (record_at bound c.of.at) c.value ++ filled_pairs bound cs

-- contents hold what these tables name: the objects in the order in which they were filled, the actions by rising key
pub record HoldsContents (s : Tables) (objects : List Object) (actions : List Pair) : Type 0 where
  pub state : contents_state objects actions ≡ primary s
  pub lawful : AreLawfulContents objects actions
  pub order : objects ≡ reverse (filled_objects s.bound s.blocks s.filled)
  pub rising : IsStrictlySortedBy digest_cmp (pair_keys actions)

-- each place is that of a record
abbrev pub AreBound : List Record → List ℕ → Type 0
AreBound bound [] = Unit {0}
AreBound bound (n ∷ ns) = IsSome (record_at bound n) × AreBound bound ns

-- what a row of an object's record names can be read
abbrev pub AreReadable : List Record → List Content → Option Record → ℕ → Type 0
AreReadable bound blocks None value = Unit {0}
AreReadable bound blocks (Some r) value = r.space ≡ Objects → (words : List ℕ) → words_at blocks value ≡ Some words → AreBound bound (content_places words)

-- the pairs are those that the rows name, by rising key
pub record HoldsPairs (bound : List Record) (cells : List Cell) (pairs : List Pair) : Type 0 where
  pub state : actions_map pairs ≡ actions_map (filled_pairs bound cells)
  pub rising : IsStrictlySortedBy digest_cmp (pair_keys pairs)

-- the value of a row of an action's record is that of a record
abbrev pub HasValue : List Record → Option Record → ℕ → Type 0
HasValue bound None value = Unit {0}
HasValue bound (Some r) value = r.space ≡ Actions → IsSome (record_at bound value)

-- the value at a key, after the first of these pairs was put in
abbrev pub value_over : List Pair → Option Digest → Digest → Option Digest
value_over [] old q = old
value_over (p ∷ ps) old q = cond (same_digest q p.key) (Some p.value) old
