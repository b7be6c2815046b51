-- How many subtries a digest needs beside those that are bound.
use Rattle.std.specs.Prelude.{ℕ, List, [], ◌∷◌, cond}
use Rattle.cas_model.specs.declared.digest.Digest.{Digest}
use Rattle.cas_model.specs.declared.place.Space.{Space}
use Rattle.cas_model.specs.declared.tables.Record.{Record}
use Rattle.cas_model.specs.Tables.{same_space}
use Rattle.cas_model.specs.Trie.{new_subtries}

-- the digests that are bound in a space, the newest first
abbrev pub bound_in : Space → List Record → List Digest
bound_in space [] = []
bound_in space (r ∷ rs) = cond (same_space r.space space) (r.digest ∷ bound_in space rs) (bound_in space rs)

-- how many subtries a digest needs that the bound digests of its space do not need already
unfoldable pub needed : List Record → Space → Digest → ℕ
needed bound space digest = new_subtries (bound_in space bound) digest 62
