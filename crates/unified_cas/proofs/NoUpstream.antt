-- Where there is no upstream, nothing is in it.
use Rattle.std.proofs.Common.{◌≡◌, false, None, is_some, ap}
use Rattle.std.specs.FinMap as fin
use Rattle.cas_model.specs.declared.digest.Digest.{Digest}
use Rattle.cas_model.specs.State.{IsClosed, digest_cmp, empty_state, has}

pub empty-has : (d : Digest) → has empty_state d ≡ false
empty-has d = ap is_some (fin.get-empty digest_cmp d)

pub empty-key : (k : Digest) → fin.get empty_state.cache k ≡ None
empty-key k = fin.get-empty digest_cmp k

pub empty-closed : IsClosed empty_state
empty-closed = record {
  objects = λ d o at. absurd (cc (at, fin.get-empty digest_cmp d));
  cache = λ k d at. absurd (cc (at, empty-key k));
}
