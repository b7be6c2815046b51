use Rattle.std.proofs.Common.{◌≡◌, ◌+◌, ◌++◌, vec_len, vec_capacity, take}
use Rattle.cas_outside.proofs.plan.append.Given as goal

-- the bytes so far are there, and the room stays
abbrev pub invariant-loop-byte : goal.invariant-loop-byte
invariant-loop-byte l = (l.bytes.items ≡ l.fn.bytes.items ++ take l.byte-index l.more) × (vec_capacity l.bytes ≡ vec_capacity l.fn.bytes)
    × (vec_len l.bytes ≡ vec_len l.fn.bytes + l.byte-index)
