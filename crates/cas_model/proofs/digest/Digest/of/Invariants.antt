use Rattle.std.proofs.Common.{◌++◌, take, length}
use Rattle.sha2.specs.Hashers.{Holds256}
use Rattle.cas_model.specs.Object.{le64, ref_bytes}
use Rattle.cas_model.proofs.digest.Digest.of.Given as goal

-- the hasher holds the number of references and the bytes of those taken so far
abbrev pub invariant-loop-r : goal.invariant-loop-r
invariant-loop-r l = Holds256 l.hasher (le64 (length l.refs) ++ ref_bytes (take l.r-index l.refs))
