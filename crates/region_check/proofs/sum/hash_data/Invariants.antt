use Rattle.std.proofs.Common.{ℕ, List, ◌*◌, ◌++◌, take}
use Rattle.sha2.specs.Hashers.{Holds256}
use Rattle.cas_model.specs.Content.{bytes_of}
use Rattle.region_check.proofs.sum.hash_data.Given as goal

abbrev pub invariant-loop-piece : goal.invariant-loop-piece
invariant-loop-piece l = (m : List ℕ) → Holds256 l.fn.hasher m → Holds256 l.hasher (m ++ take (256 * l.piece) (bytes_of l.words))
