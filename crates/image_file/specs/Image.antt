-- The image of words, and why bytes are none.
use Rattle.std.specs.Prelude.{◌≡◌, ◌≢◌, ℕ, ◌-◌, ◌/◌, ◌%◌, ◌<◌, ◌≤◌, List, ◌++◌, length, take, drop, slice_index}
use Rattle.sha2.specs.Sha256.{sha256}
use Rattle.cas_model.specs.declared.digest.Digest.{Digest}
use Rattle.cas_model.specs.Content.{bytes_of, words_from}
use Rattle.cas_model.specs.State.{State}
use Rattle.region_check.specs.Flaws.{IsFirstFlaw}
use Rattle.region_core.specs.Stands.{AreWords, Stands}
use Rattle.image_file.specs.declared.error.ImageError.{ImageError}
use Rattle.image_file.specs.declared.error.ImageError.TheVariants as errors

-- the image of words: their bytes, and the sum of these
abbrev pub image_bytes : List ℕ → List ℕ
image_bytes words = bytes_of words ++ sha256 (bytes_of words)

-- ---- the parts of an image

-- the bytes before the sum
abbrev pub body_of : List ℕ → List ℕ
body_of bytes = take (length bytes - 32) bytes

abbrev pub sum_of : List ℕ → List ℕ
sum_of bytes = drop (length bytes - 32) bytes

-- the words that an image's bytes are, without the sum
abbrev pub image_words : List ℕ → List ℕ
image_words bytes = words_from (length (body_of bytes) / 8) (body_of bytes)

-- there are as many bytes as an image may have
pub record HasLength (bytes : List ℕ) : Type 0 where
  pub long : length bytes ≤ 536870944
  pub short : 4192 ≤ length bytes
  pub whole : length bytes % 8 ≡ 0

-- and the last 32 bytes are the sum of those before them
pub record HasSum (bytes : List ℕ) : Type 0 where
  pub fits : HasLength bytes
  pub sum : sum_of bytes ≡ sha256 (body_of bytes)

-- ---- refusals: no two of them hold of one list of bytes, but for want of memory

pub record IsRagged (bytes : List ℕ) : Type 0 where
  pub long : length bytes ≤ 536870944
  pub short : 4192 ≤ length bytes
  pub ragged : length bytes % 8 ≢ 0

pub record HasOtherSum (bytes : List ℕ) (kept found : Digest) : Type 0 where
  pub fits : HasLength bytes
  pub kept_is : kept.bytes ≡ sum_of bytes
  pub found_is : found.bytes ≡ sha256 (body_of bytes)
  pub differ : sum_of bytes ≢ sha256 (body_of bytes)

pub record HasOtherVersion (bytes : List ℕ) (version : ℕ) : Type 0 where
  pub sum : HasSum bytes
  pub is : version ≡ slice_index (image_words bytes) 1
  pub other : version ≢ 1

-- why bytes are no image: each flaw is the first of the words, which stand for no state
abbrev pub RefusesImage : List ℕ → ImageError → Type 0
RefusesImage bytes errors.Long = 536870944 < length bytes
RefusesImage bytes errors.Short = length bytes < 4192
RefusesImage bytes errors.Ragged = IsRagged bytes
RefusesImage bytes (errors.Sum kept found) = HasOtherSum bytes kept found
RefusesImage bytes (errors.Version version) = HasOtherVersion bytes version
RefusesImage bytes (errors.Flaw flaw) = HasSum bytes × (slice_index (image_words bytes) 1 ≡ 1) × IsFirstFlaw (image_words bytes) flaw × ((size : ℕ) (state : State) → Stands (image_words bytes) size state → ⊥)
RefusesImage bytes errors.Memory = Unit {0}

-- ---- laws

-- words have one image
abbrev pub OneImage : Type 0
OneImage = (words others : List ℕ) → AreWords words → AreWords others → image_bytes words ≡ image_bytes others → words ≡ others

-- the image of words that stand for a state is refused for want of memory alone
abbrev pub LawfulImagesAreRead : Type 0
LawfulImagesAreRead = (words : List ℕ) (size : ℕ) (state : State) (error : ImageError) → AreWords words → Stands words size state → RefusesImage (image_bytes words) error → error ≡ errors.Memory

-- ---- the parts of reading

-- this is the body of bytes with the right length and sum
pub record IsWhole (bytes body : List ℕ) : Type 0 where
  pub sum : HasSum bytes
  pub is : body ≡ body_of bytes

-- why bytes have not the length or the sum of an image
abbrev pub RefusesSum : List ℕ → ImageError → Type 0
RefusesSum bytes errors.Long = 536870944 < length bytes
RefusesSum bytes errors.Short = length bytes < 4192
RefusesSum bytes errors.Ragged = IsRagged bytes
RefusesSum bytes (errors.Sum kept found) = HasOtherSum bytes kept found
RefusesSum bytes (errors.Version version) = ⊥
RefusesSum bytes (errors.Flaw flaw) = ⊥
RefusesSum bytes errors.Memory = ⊥
