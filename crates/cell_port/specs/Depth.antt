-- How deep a digest's way in a trie is shared with those of others.
use Rattle.std.specs.Prelude.{ℕ, zero, suc, List, map, Bool, cond, nat_eq}
use Rattle.std.specs.Cmp.Lexicographic.{pointwise}
use Rattle.cas_model.specs.declared.digest.Digest.{Digest}
use Rattle.cas_model.specs.Trie.{path, new_subtries}

-- both digests lead by the same indexes to this level
abbrev pub shares : Digest → Digest → ℕ → Bool
shares e d level = pointwise nat_eq (path e.bytes level) (path d.bytes level)

-- the deepest level down to this one to which both lead by the same indexes
abbrev pub shared : Digest → Digest → ℕ → ℕ
shared e d zero = zero
shared e d (suc n) = cond (shares e d (suc n)) (suc n) (shared e d n)

-- the deepest of all levels
unfoldable pub shared_level : Digest → Digest → ℕ
shared_level e d = shared e d 62

-- the digests of these bytes
abbrev pub digests_of : List (List ℕ) → List Digest
digests_of keys = map (λ bytes. record { bytes = bytes }) keys

-- how many subtries a digest needs that these digests do not need already
unfoldable pub needed_beside : List Digest → Digest → ℕ
needed_beside ds d = new_subtries ds d 62
