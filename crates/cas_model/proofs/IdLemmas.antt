-- What the decoder of hexadecimal text refuses, as refusals of an id.
use Rattle.std.proofs.Common.{◌≡◌, ℕ, ◌/◌, ◌%◌, ◌<◌, ◌^◌, true, false, ◌⊎◌, inl, inr, List, length, take, slice_index, Result, Ok, Err, sym, ap, zero-add, nat_eq, ◌∙◌, arith}
use Rattle.std.proofs.lemmas.Bool.{cases_eq}
use Rattle.std.specs.List.{AllPass}
use Rattle.hex.specs.Hex.{decode_sized, is_hex_digit}
use Rattle.hex.specs.declared.error.FromHexError.{FromHexError}
use Rattle.hex.specs.declared.error.FromHexError.TheVariants.{InvalidHexCharacter, InvalidStringLength, OddLength}
use Rattle.hex.proofs.HexLemmas.{decode_of-err, decode_sized-twice, decode_sized-odd, decode_sized-other}
use Rattle.std.specs.Prelude.{MatchResult}
use Rattle.std.specs.Cmp.Lexicographic.{pointwise, bytes_decides}
use Rattle.cas_model.specs.Id.{id_prefix, HasPrefix, IsRefused, digits_of, refusal_of, digit_index}

-- the digit that is refused lies among 64
pub refused-index : (s : List ℕ) (e : FromHexError) → decode_sized s 32 ≡ Err e → (length s ≡ 64) ⊎ ((e ≡ OddLength) ⊎ (e ≡ InvalidStringLength))
refused-index s e h =
    elim (cases_eq (length s) 64) [
      | inl long ↦ inl long
      | inr other ↦ elim (cases_eq (length s % 2) 1) [
        | inl odd ↦ inr (inl (cc (decode_sized-odd s 32 odd, h)))
        | inr even ↦
            let z : length s % 2 ≡ 0 = omega arith in
            let half : length s / 2 ≡ 32 → ⊥ = λ (k : length s / 2 ≡ 32). other (omega arith) in
            inr (inr (cc (decode_sized-other s 32 z half, h)))
      ]
    ]

-- the first of 64 digits that is none is named
digit-refused : (s : List ℕ) (e : FromHexError) → length s ≡ 64 → decode_sized s 32 ≡ Err e
    → (k : ℕ) × (e ≡ InvalidHexCharacter (slice_index s k) k) × (k < 64) × (is_hex_digit (slice_index s k) ≡ false) × AllPass is_hex_digit (take k s)
digit-refused s e long h =
    elim (decode_of-err s e (sym (decode_sized-twice s 32 long) ∙ h)) [
      | inl odd ↦ absurd (omega (arith, odd.0))
      | inr at ↦ (at.0, at.1 ∙ ap (InvalidHexCharacter (slice_index s at.0)) (zero-add at.0), omega (arith, at.2), at.3, at.4)
    ]

pub refused-fits : (s : List ℕ) (e : FromHexError) → decode_sized s 32 ≡ Err e → digit_index e < 2 ^ 32
refused-fits s e h =
    elim (refused-index s e h) [
      | inl long ↦ let at = digit-refused s e long h in rw (at.1) (omega (arith, at.2))
      | inr other ↦ elim other [ inl odd ↦ rw odd (omega arith) | inr short ↦ rw short (omega arith) ]
    ]

-- what the decoder refuses is refused for this reason
refused : (text : List ℕ) (e : FromHexError) → HasPrefix text → decode_sized (digits_of text) 32 ≡ Err e → IsRefused (refusal_of e) text
refused text e begins h =
    elim (cases_eq (length (digits_of text)) 64) [
      | inl long ↦ let at = digit-refused (digits_of text) e long h in
          rw (at.1) (begins, long, at.2, at.3, at.4)
      | inr other ↦ elim (refused-index (digits_of text) e h) [
        | inl long ↦ absurd (other long)
        | inr which ↦ elim which [ inl odd ↦ rw odd (begins, other) | inr short ↦ rw short (begins, other) ]
      ]
    ]

-- a decoder that answers an error has met that error
pub met : (d : Result (List ℕ) FromHexError) (r : Result (Unit {0}) FromHexError) (out : List ℕ) (e : FromHexError)
    → MatchResult d (λ bytes. (r ≡ Ok tt) × (out ≡ bytes)) (λ e. r ≡ Err e) → r ≡ Err e → d ≡ Err e
met (Ok bytes) r out e h is = cc (h.0, is)
met (Err own) r out e h is = cc (h, is)

begins : (text : List ℕ) → pointwise nat_eq (take 10 text) id_prefix ≡ true → HasPrefix text
begins text h = record { is = (bytes_decides (take 10 text) id_prefix).0 h }

-- what stands after the prefix is refused for this reason
pub refused-rest : (text rest : List ℕ) (e : FromHexError) → pointwise nat_eq (take 10 text) id_prefix ≡ true → rest ≡ digits_of text
    → decode_sized rest 32 ≡ Err e → IsRefused (refusal_of e) text
refused-rest text rest e same is h = refused text e (begins text same) (ap (λ s. decode_sized s 32) (sym is) ∙ h)
