-- Where a digest leads in a trie, and how many subtries a set of digests needs.
use Rattle.std.specs.Prelude.{◌≡◌, ℕ, ◌+◌, ◌/◌, ◌%◌, ◌<◌, List, [], ◌∷◌, length, cond, ◌==◌, nat_eq, slice_index, zero, suc, count_by}
use Rattle.std.specs.Cmp.Lexicographic.{pointwise}
use Rattle.cas_model.specs.declared.digest.Digest.{Digest}

-- 32 bytes
pub record IsDigest (bytes : List ℕ) : Type 0 where
  pub long : length bytes ≡ 32
  pub small : (i : ℕ) → slice_index bytes i < 256

-- a half of a byte, the high one first
abbrev pub nibble : List ℕ → ℕ → ℕ
nibble bytes n = cond (n % 2 == 0) (slice_index bytes (n / 2) / 16) (slice_index bytes (n / 2) % 16)

-- the index of a digest at a level: its first byte, and then one nibble a level
unfoldable pub index_of : List ℕ → ℕ → ℕ
index_of bytes zero = slice_index bytes 0
index_of bytes (suc level) = nibble bytes (level + 2)

-- the indexes that lead to a level, the last one first
abbrev pub path : List ℕ → ℕ → List ℕ
path bytes zero = []
path bytes (suc level) = index_of bytes level ∷ path bytes level

-- how many of the digests the same indexes lead to this level as the digest
abbrev pub sharing : List Digest → Digest → ℕ → ℕ
sharing ds d level = count_by (λ e. pointwise nat_eq (path e.bytes level) (path d.bytes level)) ds

-- at how many of the levels from 1 to n just one of the digests shares the indexes of a new one: there the new one needs a
-- subtrie that was not needed before
abbrev pub new_subtries : List Digest → Digest → ℕ → ℕ
new_subtries ds d zero = 0
new_subtries ds d (suc n) = cond (sharing ds d (suc n) == 1) 1 0 + new_subtries ds d n

-- how many subtries a trie of these digests has, no two of them equal: one for each level from 1 to 62 and each list of indexes
-- to it that at least two digests share
abbrev pub subtries : List Digest → ℕ
subtries [] = 0
subtries (d ∷ ds) = new_subtries ds d 62 + subtries ds
