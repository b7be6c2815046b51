-- The claims that are made as contents are stored in their order, and the first of them that is refused.
use Rattle.std.specs.Prelude.{◌≡◌, ℕ, ◌+◌, ◌*◌, ◌<◌, ◌≤◌, List, [], ◌∷◌, ◌++◌, length, replicate, sum}
use Rattle.cas_model.specs.declared.contents.Pair.{Pair}
use Rattle.cas_model.specs.declared.digest.Digest.{Digest}
use Rattle.cas_model.specs.declared.object.Object.{Object}
use Rattle.cas_model.specs.declared.place.Full.{Full}
use Rattle.cas_model.specs.declared.tables.Content.{Content}
use Rattle.cas_model.specs.Content.{content_size}
use Rattle.cas_model.specs.Object.{object_digest}
use Rattle.cas_model.specs.Trie.{new_subtries, subtries}

-- the claims for the record of a digest, where these digests have records: the record itself, and the subtries
abbrev pub record_claims : List Digest → Digest → List ℕ
record_claims known d = 5 ∷ replicate (new_subtries known d 62) 16

-- the claims of objects after those with the digests that are known: for each its record, its subtries and its content
abbrev pub object_claims : List Digest → List Object → List ℕ
object_claims known [] = []
object_claims known (o ∷ os) = record_claims known (object_digest o) ++ content_size (length o.refs) (length o.data) ∷ object_claims (object_digest o ∷ known) os

-- the claims of pairs after those with the keys that are known: for each its record and its subtries
abbrev pub action_claims : List Digest → List Pair → List ℕ
action_claims known [] = []
action_claims known (p ∷ ps) = record_claims known p.key ++ action_claims (p.key ∷ known) ps

abbrev pub contents_claims : List Object → List Pair → List ℕ
contents_claims objects actions = object_claims [] objects ++ action_claims [] actions

-- of these claims, made one after the other from a place on, this is the first that passes the end
pub record IsFirstRefused (size start : ℕ) (claims : List ℕ) (full : Full) : Type 0 where
  pub earlier : List ℕ
  pub later : List ℕ
  pub is : claims ≡ earlier ++ full.asked ∷ later
  pub at_is : full.at ≡ start + sum earlier
  pub fits : full.at ≤ size
  pub past : size < full.at + full.asked
  pub size_is : full.size ≡ size

-- claims of these words, made one after the other from a place on, end at or below the size
abbrev pub Fit : ℕ → ℕ → List ℕ → Type 0
Fit size start claims = start + sum claims ≤ size

-- ---- words, whatever the order of the claims

-- the words of the records of so many digests of one space, and of the subtries that these need
abbrev pub record_words : List Digest → ℕ
record_words ds = 5 * length ds + 16 * subtries ds

-- the words of contents
abbrev pub block_words : List Content → ℕ
block_words [] = 0
block_words (c ∷ cs) = length c.words + block_words cs
