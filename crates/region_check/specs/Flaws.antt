-- The flaws of words, and which is the first.
use Rattle.std.specs.Prelude.{◌≡◌, ◌≢◌, ℕ, zero, suc, ◌+◌, ◌*◌, ◌/◌, ◌%◌, ◌^◌, ◌<◌, ◌≤◌, List, ◌∷◌, length, slice_index, ◌⊎◌}
use Rattle.cas_model.specs.declared.digest.Digest.{Digest}
use Rattle.cas_model.specs.declared.place.Space.{Space}
use Rattle.cas_model.specs.declared.place.Space.TheVariants.{Objects, Actions}
use Rattle.cas_model.specs.Object.{object_digest}
use Rattle.cas_model.specs.State.{State}
use Rattle.cas_model.specs.Trie.{path}
use Rattle.region_core.specs.Leads.{NamesTableAt, NamesRecordAt, IsSlot, IsRecordOf, IsFilledOf, IsContentOf, digest_there, cell_there, object_there, length_told}
use Rattle.region_core.specs.Stands.{Stands}
use Rattle.region_check.specs.declared.flaw.CheckError.{CheckError}
use Rattle.region_check.specs.declared.flaw.CheckError.TheVariants as errors
use Rattle.region_check.specs.declared.flaw.Flaw.{Flaw}
use Rattle.region_check.specs.declared.flaw.FlawKind.{FlawKind}
use Rattle.region_check.specs.declared.flaw.FlawKind.TheVariants as kinds

-- ---- what is reached

-- a slot of a trie
abbrev pub IsSlotOf : List ℕ → Space → ℕ → Type 0
IsSlotOf words space slot = (above : List ℕ) × (j : ℕ) × IsSlot words space above j slot

-- a content in the arena that the cell of an object's record names
abbrev pub IsReached : List ℕ → ℕ → ℕ → Type 0
IsReached words owner place = IsContentOf words owner place × (520 ≤ place) × (place < length words)

-- how many references and bytes the head of the content at a place tells
abbrev pub refs_told : List ℕ → ℕ → ℕ
refs_told words place = slice_index words place / 2 ^ 32

abbrev pub bytes_told : List ℕ → ℕ → ℕ
bytes_told words place = slice_index words place % 2 ^ 32

-- the place after the content's last word
abbrev pub end_told : List ℕ → ℕ → ℕ
end_told words place = place + length_told (slice_index words place)

-- ---- the header

-- one of the first eight words is not as it must be: the magic, the version, the size, the counter, and zeros
abbrev pub IsBadHead : List ℕ → ℕ → Type 0
IsBadHead words zero = slice_index words 0 ≢ 6000011104285311299
IsBadHead words (suc zero) = slice_index words 1 ≢ 1
IsBadHead words (suc (suc zero)) = (slice_index words 2 < 4096) ⊎ (67108864 < slice_index words 2)
IsBadHead words (suc (suc (suc zero))) = (slice_index words 3 < 520) ⊎ ((slice_index words 2 < slice_index words 3) ⊎ (length words < slice_index words 3))
IsBadHead words (suc (suc (suc (suc n)))) = (n < 4) × (slice_index words (4 + n) ≢ 0)

-- there are too few words, or one of the header is bad
abbrev pub BadHeader : List ℕ → ℕ → Type 0
BadHeader words place = ((length words < 520) × (place ≡ length words)) ⊎ ((520 ≤ length words) × IsBadHead words place)

-- there are more words than the counter tells
abbrev pub IsPastCounter : List ℕ → ℕ → Type 0
IsPastCounter words place = (place ≡ slice_index words 3) × (place < length words)

-- ---- what slots and cells name

-- a word that says nothing as a slot
pub record IsNoSlot (word : ℕ) : Type 0 where
  pub some : word ≢ 0
  pub no_record : (p : ℕ) → word ≢ 4 * p + 1
  pub no_table : (t : ℕ) → word ≢ 4 * t + 2

abbrev pub BadSlot : List ℕ → ℕ → Type 0
BadSlot words place = (s : Space) × IsSlotOf words s place × IsNoSlot (slice_index words place)

-- a slot's word names a record or a subtrie that does not lie in the arena
abbrev pub NamesOutside : List ℕ → ℕ → Type 0
NamesOutside words slot =
    ((p : ℕ) × (slice_index words slot ≡ 4 * p + 1) × (NamesRecordAt words slot p → ⊥)) ⊎ ((t : ℕ) × (slice_index words slot ≡ 4 * t + 2) × (NamesTableAt words slot t → ⊥))

-- a cell names a content that does not begin in the arena
abbrev pub IsCellOutside : List ℕ → ℕ → Type 0
IsCellOutside words cell = (slice_index words cell ≢ 0) × ((slice_index words cell < 520) ⊎ (length words ≤ slice_index words cell))

abbrev pub BadRange : List ℕ → ℕ → Type 0
BadRange words place =
    ((s : Space) × IsSlotOf words s place × NamesOutside words place) ⊎ ((r : ℕ) × IsRecordOf words Objects r × (place ≡ r + 4) × IsCellOutside words place)

-- a content is past the limits, or ends past the last word
abbrev pub IsTooLong : List ℕ → ℕ → Type 0
IsTooLong words place = (65535 < refs_told words place) ⊎ ((16777215 < bytes_told words place) ⊎ (length words < end_told words place))

abbrev pub BadLength : List ℕ → ℕ → Type 0
BadLength words place = (r : ℕ) × IsReached words r place × IsTooLong words place

-- ---- blocks

-- what names a block: a slot names a record or a subtrie, an object's cell a content
pub data Naming : Type 0 where
  BySlot : (slot : ℕ) → Naming
  ByCell : (cell : ℕ) → Naming

-- the block that is named begins at the place, and has so many words
abbrev pub Covers : List ℕ → Naming → ℕ → ℕ → Type 0
Covers words (BySlot slot) place size =
    ((s : Space) × IsSlotOf words s slot) × ((NamesRecordAt words slot place × (size ≡ 5)) ⊎ (NamesTableAt words slot place × (size ≡ 16)))
Covers words (ByCell cell) place size = (r : ℕ) × (cell ≡ r + 4) × IsReached words r place × (size ≡ length_told (slice_index words place))

-- the word lies in the block
abbrev pub LiesIn : List ℕ → Naming → ℕ → Type 0
LiesIn words naming word = (place : ℕ) × (size : ℕ) × Covers words naming place size × (place ≤ word) × (word < place + size)

-- the word lies in two blocks
abbrev pub IsShared : List ℕ → ℕ → Type 0
IsShared words place = (x y : Naming) × (x ≢ y) × LiesIn words x place × LiesIn words y place

-- ---- the way to a record

-- a slot of level 62 names a subtrie
abbrev pub IsTooDeep : List ℕ → List ℕ → ℕ → Type 0
IsTooDeep words above slot = (length above ≡ 62) × ((t : ℕ) × NamesTableAt words slot t)

-- a slot of level 63 at most names a record whose digest does not lead to it. Digests lead to levels up to 62 alone
abbrev pub IsAstray : List ℕ → List ℕ → ℕ → ℕ → Type 0
IsAstray words above j slot =
    (p : ℕ) × NamesRecordAt words slot p × ((length above ≡ 63) ⊎ ((length above ≤ 62) × (path (digest_there words p).bytes (suc (length above)) ≢ j ∷ above)))

abbrev pub BadPath : List ℕ → ℕ → Type 0
BadPath words place = (s : Space) × (above : List ℕ) × (j : ℕ) × IsSlot words s above j place × (IsTooDeep words above place ⊎ IsAstray words above j place)

-- ---- contents

-- the bytes after the last one, in a content's last word, are not 0
abbrev pub IsStray : List ℕ → ℕ → ℕ → Type 0
IsStray words content place =
    (place + 1 ≡ end_told words content) × (bytes_told words content % 8 ≢ 0) × (2 ^ (8 * (bytes_told words content % 8)) ≤ slice_index words place)

abbrev pub BadPadding : List ℕ → ℕ → Type 0
BadPadding words place = (r c : ℕ) × IsReached words r c × IsStray words c place

-- one of the reference words of a content
abbrev pub IsReferenceWord : List ℕ → ℕ → ℕ → Type 0
IsReferenceWord words content place = (i : ℕ) × (i < refs_told words content) × (place ≡ content + 1 + i)

-- a reference is not the record of a present object
abbrev pub BadReference : List ℕ → ℕ → Type 0
BadReference words place = (r c : ℕ) × IsReached words r c × IsReferenceWord words c place × (IsFilledOf words Objects (slice_index words place) → ⊥)

-- the content of a reference does not lie lower
abbrev pub BadOrder : List ℕ → ℕ → Type 0
BadOrder words place = (r c : ℕ) × IsReached words r c × IsReferenceWord words c place × (c ≤ cell_there words (slice_index words place))

-- an object's content has another digest than its record
abbrev pub BadDigest : List ℕ → Digest → Digest → ℕ → Type 0
BadDigest words kept found place = (c : ℕ) × IsReached words place c × (kept ≡ digest_there words place) × (found ≡ object_digest (object_there words c)) × (kept ≢ found)

-- the value of an action is not the record of a present object
abbrev pub BadValue : List ℕ → ℕ → Type 0
BadValue words place = (r : ℕ) × IsRecordOf words Actions r × (place ≡ r + 4) × (slice_index words place ≢ 0) × (IsFilledOf words Objects (slice_index words place) → ⊥)

-- ---- the table of flaws

abbrev pub HasKind : List ℕ → FlawKind → ℕ → Type 0
HasKind words kinds.Header place = BadHeader words place
HasKind words kinds.Slot place = BadSlot words place
HasKind words kinds.Range place = BadRange words place
HasKind words kinds.Overlap place = IsShared words place
HasKind words kinds.Path place = BadPath words place
HasKind words kinds.Length place = BadLength words place
HasKind words kinds.Padding place = BadPadding words place
HasKind words kinds.Reference place = BadReference words place
HasKind words kinds.Order place = BadOrder words place
HasKind words (kinds.DigestDiffers kept found) place = BadDigest words kept found place
HasKind words kinds.ActionValue place = BadValue words place
HasKind words kinds.PastCounter place = IsPastCounter words place

-- the order in which kinds are looked for
abbrev pub turn : FlawKind → ℕ
turn kinds.Header = 1
turn kinds.PastCounter = 2
turn kinds.Slot = 3
turn kinds.Range = 4
turn kinds.Length = 5
turn kinds.Overlap = 6
turn kinds.Path = 7
turn kinds.Padding = 8
turn kinds.Reference = 9
turn kinds.Order = 10
turn (kinds.DigestDiffers kept found) = 11
turn kinds.ActionValue = 12

-- no flaw has an earlier turn, and none of the same turn is lower
pub record IsFirstFlaw (words : List ℕ) (flaw : Flaw) : Type 0 where
  pub here : HasKind words flaw.kind flaw.place
  pub first : (k : FlawKind) (p : ℕ) → HasKind words k p → (turn flaw.kind < turn k) ⊎ ((turn flaw.kind ≡ turn k) × (flaw.place ≤ p))

-- why words are refused: their first flaw, and then they stand for no state; or there is no memory
abbrev pub Refuses : List ℕ → CheckError → Type 0
Refuses words (errors.Flaw flaw) = IsFirstFlaw words flaw × ((size : ℕ) (state : State) → Stands words size state → ⊥)
Refuses words errors.Memory = Unit {0}
