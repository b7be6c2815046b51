-- Lists of bytes, place by place.
use Rattle.std.proofs.Common.{ℕ, zero, suc, ◌<◌, List, [], ◌∷◌, get_or, arith}
use Rattle.cas_model.specs.State.{AreBytes}

pub bytes-at : (bytes : List ℕ) → AreBytes bytes → (i : ℕ) → get_or bytes i 0 < 256
bytes-at [] all i = omega arith
bytes-at (b ∷ bs) all zero = all.0
bytes-at (b ∷ bs) all (suc i) = bytes-at bs all.1 i
