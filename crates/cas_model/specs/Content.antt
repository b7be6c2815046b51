-- The words of a content block: the numbers of references and bytes, the places of the references, the data.
use Rattle.std.specs.Prelude.{◌≡◌, ℕ, zero, suc, ◌+◌, ◌*◌, ◌/◌, ◌%◌, ◌^◌, ◌≤◌, List, [], ◌∷◌, ◌++◌, length, take, drop}
use Rattle.std.specs.Int.{w64, to_le_bytes, from_le_bytes}

abbrev pub content_size : ℕ → ℕ → ℕ
content_size refs len = 1 + refs + (len + 7) / 8

abbrev pub content_head : ℕ → ℕ → ℕ
content_head refs len = refs * 2 ^ 32 + len

-- one word of the data, with zeros past its end
abbrev pub data_word_at : List ℕ → ℕ → ℕ
data_word_at bytes i = from_le_bytes w64 (drop (8 * i) bytes)

-- n words of the data
abbrev pub words_from : ℕ → List ℕ → List ℕ
words_from zero bytes = []
words_from (suc n) bytes = from_le_bytes w64 bytes ∷ words_from n (drop 8 bytes)

abbrev pub data_words : List ℕ → List ℕ
data_words bytes = words_from ((length bytes + 7) / 8) bytes

abbrev pub content_words : List ℕ → List ℕ → List ℕ
content_words places bytes = content_head (length places) (length bytes) ∷ places ++ data_words bytes

-- the bytes of words, the low one first
abbrev pub bytes_of : List ℕ → List ℕ
bytes_of [] = []
bytes_of (w ∷ ws) = to_le_bytes w64 w ++ bytes_of ws

-- what the first word says, and what the words after it hold
abbrev pub content_places : List ℕ → List ℕ
content_places [] = []
content_places (head ∷ words) = take (head / 2 ^ 32) words

abbrev pub content_bytes : List ℕ → List ℕ
content_bytes [] = []
content_bytes (head ∷ words) = take (head % 2 ^ 32) (bytes_of (drop (head / 2 ^ 32) words))

-- the words are a content within the limits
pub record IsContent (words : List ℕ) : Type 0 where
  pub is : words ≡ content_words (content_places words) (content_bytes words)
  pub few_refs : length (content_places words) ≤ 65535
  pub short : length (content_bytes words) ≤ 16777215
