-- The texts of ids.
use Rattle.std.specs.Prelude.{◌≡◌, ◌≢◌, ◌⊎◌, ℕ, ◌<◌, List, ◌++◌, codes, Ok, false, length, slice_index, take, drop}
use Rattle.std.specs.List.{AllPass}
use Rattle.hex.specs.Hex.{encode_lower, decode_of, is_hex_digit, IsBytes}
use Rattle.hex.specs.declared.error.FromHexError.{FromHexError}
use Rattle.hex.specs.declared.error.FromHexError.TheVariants.{InvalidHexCharacter, OddLength, InvalidStringLength, OutOfMemory}
use Rattle.cas_model.specs.Object.{key_digest}
use Rattle.cas_model.specs.declared.digest.Digest.{Digest}
use Rattle.cas_model.specs.declared.id.IdError.{IdError}
use Rattle.cas_model.specs.declared.id.IdError.TheVariants.{BadPrefix, BadLength, BadDigit}

abbrev pub id_prefix : List ℕ
id_prefix = codes "llvmcas://"

-- the prefix and 64 lower-case hexadecimal digits
abbrev pub id_text : Digest → List ℕ
id_text digest = id_prefix ++ encode_lower digest.bytes

-- the text begins with the prefix
pub record HasPrefix (text : List ℕ) : Type 0 where
  pub is : take 10 text ≡ id_prefix

-- what stands after the prefix
abbrev pub digits_of : List ℕ → List ℕ
digits_of text = drop 10 text

-- the text is the prefix and 64 digits, in either case, of this digest
pub record IsIdOf (digest : Digest) (text : List ℕ) : Type 0 where
  pub begins : HasPrefix text
  pub long : length (digits_of text) ≡ 64
  pub digits : decode_of (digits_of text) ≡ Ok digest.bytes

-- the text of a digest is read back: it is the id of this digest, and of no other
abbrev pub IdsAreReadBack : Type 0
IdsAreReadBack = (digest : Digest) → length digest.bytes ≡ 32 → IsBytes digest.bytes
    → IsIdOf digest (id_text digest) × ((other : Digest) → IsIdOf other (id_text digest) → other ≡ digest)

-- the text is no id, for this reason: no two of them hold of one text
abbrev pub IsRefused : IdError → List ℕ → Type 0
IsRefused BadPrefix text = ¬ HasPrefix text
IsRefused BadLength text = HasPrefix text × (length (digits_of text) ≢ 64)
IsRefused (BadDigit k) text =
    HasPrefix text × (length (digits_of text) ≡ 64) × (k < 64)
    × (is_hex_digit (slice_index (digits_of text) k) ≡ false) × AllPass is_hex_digit (take k (digits_of text))

-- ---- keys

abbrev pub action_prefix : List ℕ
action_prefix = codes "action:"

-- the text begins with `action:`
pub record NamesAction (text : List ℕ) : Type 0 where
  pub is : take 7 text ≡ action_prefix

-- the text is `action:` and a text of this digest, or else the id of this digest
abbrev pub IsKeyOf : Digest → List ℕ → Type 0
IsKeyOf digest text = (NamesAction text × (digest ≡ key_digest (drop 7 text))) ⊎ ((¬ NamesAction text) × IsIdOf digest text)

-- the text is no key: it does not begin with `action:`, and is no id for this reason
abbrev pub IsRefusedKey : IdError → List ℕ → Type 0
IsRefusedKey error text = (¬ NamesAction text) × IsRefused error text

-- the index of the digit that the decoder of hexadecimal text refused, 0 for its other errors
abbrev pub digit_index : FromHexError → ℕ
digit_index (InvalidHexCharacter c k) = k
digit_index OddLength = 0
digit_index InvalidStringLength = 0
digit_index OutOfMemory = 0

-- the decoder's error as that of an id
abbrev pub refusal_of : FromHexError → IdError
refusal_of (InvalidHexCharacter c k) = BadDigit k
refusal_of OddLength = BadLength
refusal_of InvalidStringLength = BadLength
refusal_of OutOfMemory = BadLength
