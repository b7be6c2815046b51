-- Words that are being built from contents.
use Rattle.std.specs.Prelude.{◌≡◌, ◌≢◌, ℕ, ◌+◌, ◌≤◌, List, [], ◌∷◌, ◌++◌, length, drop, sum, replicate}
use Rattle.cas_model.specs.declared.contents.Pair.{Pair}
use Rattle.cas_model.specs.declared.digest.Digest.{Digest}
use Rattle.cas_model.specs.declared.object.Object.{Object}
use Rattle.cas_model.specs.declared.place.Space.{Space}
use Rattle.cas_model.specs.declared.place.Space.TheVariants.{Objects, Actions}
use Rattle.cas_model.specs.Content.{content_size, content_words}
use Rattle.cas_model.specs.Contents.{object_digests, pair_keys, contents_state, AllMembers, AreStorable, ArePuttable}
use Rattle.cas_model.specs.Object.{object_digest}
use Rattle.cas_model.specs.State.{State, Member}
use Rattle.region_core.specs.Certificate.{AreContents, Names, IsCertified}
use Rattle.cas_model.specs.Claims.{record_claims, object_claims, action_claims}
use Rattle.region_core.specs.Claims.{Refuses}
use Rattle.region_core.specs.declared.insertion.BuildError.{BuildError}
use Rattle.region_core.specs.Heap.{Block, Record, Laid, memory_of}
use Rattle.region_core.specs.Holds.{IsRecord}
use Rattle.region_core.specs.Inserts.{HasJust, IsTight, SubtriesBehind}

-- the words of a region in which nothing is stored: the magic, the version, the size, the counter, and zeros
unfoldable pub empty_region : ℕ → List ℕ
empty_region size = (6000011104285311299 ∷ 1 ∷ size ∷ 520 ∷ []) ++ replicate 516 0

-- the claims of one object
abbrev pub one_object_claims : List Digest → Object → List ℕ
one_object_claims known o = record_claims known (object_digest o) ++ content_size (length o.refs) (length o.data) ∷ []

-- the place behind objects, the newest first
abbrev pub objects_end : List Object → ℕ
objects_end [] = 520
objects_end (o ∷ os) = objects_end os + sum (one_object_claims (object_digests os) o)

-- the place behind objects and pairs, the newest first
abbrev pub pairs_end : List Object → List Pair → ℕ
pairs_end objects [] = objects_end objects
pairs_end objects (p ∷ ps) = pairs_end objects ps + sum (record_claims (pair_keys ps) p.key)

-- the record of a digest begins at the place, with this cell, and the subtries behind it that it needed where the known digests had
-- records before it
pub record RecordBegins (heap : ℕ → Block) (space : Space) (known : List Digest) (digest : Digest) (place cell : ℕ) : Type 0 where
  pub here : heap place ≡ Record space digest.bytes cell
  pub subtries : SubtriesBehind heap space known digest place 62

-- an object begins at the place behind the older ones, and its content behind its record and subtries
abbrev pub ObjectBegins : (ℕ → Block) → List Object → Object → Type 0
ObjectBegins heap os o = RecordBegins heap Objects (object_digests os) (object_digest o) (objects_end os) (objects_end os + sum (record_claims (object_digests os) (object_digest o)))

abbrev pub ObjectsBegin : (ℕ → Block) → List Object → Type 0
ObjectsBegin heap [] = Unit {0}
ObjectsBegin heap (o ∷ os) = ObjectBegins heap os o × ObjectsBegin heap os

-- a pair begins at the place behind the objects and the older pairs
abbrev pub PairBegins : (ℕ → Block) → List Object → List Pair → Pair → Type 0
PairBegins heap objects ps p = (cell : ℕ) × RecordBegins heap Actions (pair_keys ps) p.key (pairs_end objects ps) cell

abbrev pub PairsBegin : (ℕ → Block) → List Object → List Pair → Type 0
PairsBegin heap objects [] = Unit {0}
PairsBegin heap objects (p ∷ ps) = PairBegins heap objects ps p × PairsBegin heap objects ps

-- a labelling of words that hold these objects and pairs, the newest first, each with its cell filled
pub record Building (heap : ℕ → Block) (words : List ℕ) (objects : List Object) (pairs : List Pair) : Type 0 where
  pub laid : Laid heap (memory_of words) (length words)
  pub contents : AreContents heap
  pub filled : (p : ℕ) (s : Space) (d : List ℕ) (c : ℕ) → heap p ≡ Record s d c → c ≢ 0
  pub tight : IsTight heap
  pub objects_are : HasJust heap Objects (object_digests objects)
  pub keys_are : HasJust heap Actions (pair_keys pairs)
  pub names : Names heap (contents_state objects pairs)
  pub long : length words ≡ pairs_end objects pairs
  pub objects_begin : ObjectsBegin heap objects
  pub pairs_begin : PairsBegin heap objects pairs

pub record IsBuilt (words : List ℕ) (objects : List Object) (pairs : List Pair) : Type 0 where
  pub heap : ℕ → Block
  pub building : Building heap words objects pairs

-- an object that can be stored after these
pub record IsNextObject (objects : List Object) (o : Object) : Type 0 where
  pub few : length o.refs ≤ 65535
  pub short : length o.data ≤ 16777215
  pub refs : AllMembers o.refs (object_digests objects)
  pub fresh : Member (object_digest o) (object_digests objects) → ⊥

-- a pair that can be put after these
pub record IsNextPair (objects : List Object) (pairs : List Pair) (p : Pair) : Type 0 where
  pub value : Member p.value (object_digests objects)
  pub fresh : Member p.key (pair_keys pairs) → ⊥

-- ---- the words of a content

-- each reference has a record
abbrev pub AreThere : (ℕ → Block) → List Digest → Type 0
AreThere heap [] = Unit {0}
AreThere heap (r ∷ rs) = ((p : ℕ) × IsRecord heap Objects r.bytes p) × AreThere heap rs

pub record HasReferences (words : List ℕ) (refs : List Digest) : Type 0 where
  pub heap : ℕ → Block
  pub laid : Laid heap (memory_of words) (length words)
  pub there : AreThere heap refs

-- the places are those of the references' records
abbrev pub ArePlaces : (ℕ → Block) → List ℕ → List Digest → Type 0
ArePlaces heap [] [] = Unit {0}
ArePlaces heap (n ∷ ns) (r ∷ rs) = IsRecord heap Objects r.bytes n × ArePlaces heap ns rs
ArePlaces heap ns rs = ⊥

-- words to which the places of references were added, as the words before them name them
pub record HasPlaces (region before after : List ℕ) (refs : List Digest) : Type 0 where
  pub places : List ℕ
  pub is : after ≡ before ++ places
  pub are : (heap : ℕ → Block) → Laid heap (memory_of region) (length region) → ArePlaces heap places refs

-- words to which the content of an object was added
pub record HasContent (before after : List ℕ) (o : Object) : Type 0 where
  pub places : List ℕ
  pub is : after ≡ before ++ content_words places o.data
  pub are : (heap : ℕ → Block) → Laid heap (memory_of before) (length before) → ArePlaces heap places o.refs

-- ---- one object and one pair more

pub record CanAddObject (words : List ℕ) (o : Object) : Type 0 where
  pub heap : ℕ → Block
  pub objects : List Object
  pub building : Building heap words objects []
  pub next : IsNextObject objects o

pub record ObjectAdded (before after : List ℕ) (objects : List Object) (o : Object) : Type 0 where
  pub built : IsBuilt after (o ∷ objects) []
  pub grown : length after ≡ length before + sum (one_object_claims (object_digests objects) o)

abbrev pub AddsObject : List ℕ → List ℕ → Object → Type 0
AddsObject before after o = (heap : ℕ → Block) (objects : List Object) → Building heap before objects [] → IsNextObject objects o → ObjectAdded before after objects o

abbrev pub RefusesObject : List ℕ → ℕ → Object → BuildError → Type 0
RefusesObject before size o error = (heap : ℕ → Block) (objects : List Object) → Building heap before objects [] → IsNextObject objects o → Refuses size (length before) (one_object_claims (object_digests objects) o) error

pub record CanAddPair (words : List ℕ) (p : Pair) : Type 0 where
  pub heap : ℕ → Block
  pub objects : List Object
  pub pairs : List Pair
  pub building : Building heap words objects pairs
  pub next : IsNextPair objects pairs p

pub record PairAdded (before after : List ℕ) (objects : List Object) (pairs : List Pair) (p : Pair) : Type 0 where
  pub built : IsBuilt after objects (p ∷ pairs)
  pub grown : length after ≡ length before + sum (record_claims (pair_keys pairs) p.key)

abbrev pub AddsPair : List ℕ → List ℕ → Pair → Type 0
AddsPair before after p = (heap : ℕ → Block) (objects : List Object) (pairs : List Pair) → Building heap before objects pairs → IsNextPair objects pairs p → PairAdded before after objects pairs p

abbrev pub RefusesPair : List ℕ → ℕ → Pair → BuildError → Type 0
RefusesPair before size p error = (heap : ℕ → Block) (objects : List Object) (pairs : List Pair) → Building heap before objects pairs → IsNextPair objects pairs p → Refuses size (length before) (record_claims (pair_keys pairs) p.key) error

-- ---- all of them

-- a list in the other order, before another
abbrev pub turned : {X : Type 0} → List X → List X → List X
turned done [] = done
turned done (x ∷ xs) = turned (x ∷ done) xs

-- the first n objects are built
pub record ObjectsAdded (words : List ℕ) (objects : List Object) (n : ℕ) : Type 0 where
  pub done : List Object
  pub built : IsBuilt words done []
  pub rest : AreStorable (object_digests done) (drop n objects)
  pub order : turned done (drop n objects) ≡ turned [] objects
  pub claims : List ℕ
  pub split : object_claims [] objects ≡ claims ++ object_claims (object_digests done) (drop n objects)
  pub long : length words ≡ 520 + sum claims

-- all objects and the first n pairs are built
pub record PairsAdded (words : List ℕ) (objects : List Object) (pairs : List Pair) (n : ℕ) : Type 0 where
  pub done : List Pair
  pub built : IsBuilt words (turned [] objects) done
  pub rest : ArePuttable (object_digests objects) (pair_keys done) (drop n pairs)
  pub order : turned done (drop n pairs) ≡ turned [] pairs
  pub claims : List ℕ
  pub split : action_claims [] pairs ≡ claims ++ action_claims (pair_keys done) (drop n pairs)
  pub long : length words ≡ 520 + sum (object_claims [] objects) + sum claims

-- some labelling of the words is a certificate that they stand for the state
pub record HasCertificate (words : List ℕ) (size : ℕ) (state : State) : Type 0 where
  pub heap : ℕ → Block
  pub certified : IsCertified heap words size state
