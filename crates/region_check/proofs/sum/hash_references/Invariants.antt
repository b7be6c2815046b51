use Rattle.std.proofs.Common.{ℕ, List, ◌++◌, take}
use Rattle.sha2.specs.Hashers.{Holds256}
use Rattle.cas_model.specs.Object.{ref_bytes}
use Rattle.region_core.specs.Leads.{digests_there}
use Rattle.region_check.proofs.sum.hash_references.Given as goal

abbrev pub invariant-loop-place : goal.invariant-loop-place
invariant-loop-place l = (m : List ℕ) → Holds256 l.fn.hasher m → Holds256 l.hasher (m ++ ref_bytes (digests_there l.words (take l.place-index l.places)))
