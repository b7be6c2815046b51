-- The text of an id gives its digest back.
use Rattle.std.proofs.Common.{refl, ap, arith}
use Rattle.hex.specs.Hex.{lower_digits}
use Rattle.hex.proofs.HexLemmas.{decode_of-encode_lower, decode_of-same, length-encode_with}
use Rattle.cas_model.specs.Id.{IdsAreReadBack}

pub ids-read-back : IdsAreReadBack
ids-read-back digest long small = (
  record {
    begins = record { is = refl };
    long = (let twice = length-encode_with lower_digits digest.bytes in omega (arith, twice, long));
    digits = decode_of-encode_lower digest.bytes small;
  },
  λ other is. ap (λ bytes. record { bytes = bytes }) (decode_of-same _ _ _ is.digits (decode_of-encode_lower digest.bytes small)),
)
