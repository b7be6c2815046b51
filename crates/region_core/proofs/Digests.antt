-- Digests and their words.
use Rattle.std.proofs.Common.{◌≡◌, ℕ, ◌+◌, ◌*◌, ◌/◌, ◌%◌, ◌^◌, ◌<◌, List, get_or, zero, suc, refl, sym, ap, ◌∙◌, arith}
use Rattle.std.specs.Int.{w64, to_be_bytes, from_be_bytes}
use Rattle.std.proofs.lemmas.Nat.{from_be_bytes-to_be_bytes_8, be_bytes_8}
use Rattle.std.proofs.lemmas.List.{ext_get_or}
use Rattle.cas_model.specs.Trie.{IsDigest}
use Rattle.region_core.specs.Words.{eight, word_of, words_of}

-- eight bytes of a digest that begin within it
pub eight_small : (d : List ℕ) (i k : ℕ) → IsDigest d → get_or (eight d i) k 0 < 256
eight_small d i zero digest = digest.small i
eight_small d i (suc zero) digest = digest.small (i + 1)
eight_small d i (suc (suc zero)) digest = digest.small (i + 2)
eight_small d i (suc (suc (suc zero))) digest = digest.small (i + 3)
eight_small d i (suc (suc (suc (suc zero)))) digest = digest.small (i + 4)
eight_small d i (suc (suc (suc (suc (suc zero))))) digest = digest.small (i + 5)
eight_small d i (suc (suc (suc (suc (suc (suc zero)))))) digest = digest.small (i + 6)
eight_small d i (suc (suc (suc (suc (suc (suc (suc zero))))))) digest = digest.small (i + 7)
eight_small d i (suc (suc (suc (suc (suc (suc (suc (suc n)))))))) digest = omega arith

pub eight_back : (d : List ℕ) (k : ℕ) → IsDigest d → to_be_bytes w64 (word_of d k) ≡ eight d (8 * k)
unfolding word_of
eight_back d k digest = be_bytes_8 (eight d (8 * k)) (from_be_bytes w64 (eight d (8 * k))) refl (λ i. eight_small d (8 * k) i digest) refl

same_eight : (d e : List ℕ) (k : ℕ) → IsDigest d → IsDigest e → word_of d k ≡ word_of e k → eight d (8 * k) ≡ eight e (8 * k)
same_eight d e k hd he h = sym (eight_back d k hd) ∙ ap (to_be_bytes w64) h ∙ eight_back e k he

-- the byte at r within the eight from i on
byte_in : (d : List ℕ) (i r : ℕ) → r < 8 → get_or (eight d i) r 0 ≡ get_or d (i + r) 0
byte_in d i zero h = ap (λ x. get_or d x 0) (omega arith)
byte_in d i (suc zero) h = refl
byte_in d i (suc (suc zero)) h = refl
byte_in d i (suc (suc (suc zero))) h = refl
byte_in d i (suc (suc (suc (suc zero)))) h = refl
byte_in d i (suc (suc (suc (suc (suc zero))))) h = refl
byte_in d i (suc (suc (suc (suc (suc (suc zero)))))) h = refl
byte_in d i (suc (suc (suc (suc (suc (suc (suc zero))))))) h = refl
byte_in d i (suc (suc (suc (suc (suc (suc (suc (suc n)))))))) h = absurd (omega arith)

word_at : (d e : List ℕ) (k : ℕ) → words_of d ≡ words_of e → k < 4 → word_of d k ≡ word_of e k
word_at d e zero h hk = ap (λ xs. get_or xs 0 0) h
word_at d e (suc zero) h hk = ap (λ xs. get_or xs 1 0) h
word_at d e (suc (suc zero)) h hk = ap (λ xs. get_or xs 2 0) h
word_at d e (suc (suc (suc zero))) h hk = ap (λ xs. get_or xs 3 0) h
word_at d e (suc (suc (suc (suc n)))) h hk = absurd (omega arith)

-- digests with the same words are the same
pub same_digest : (d e : List ℕ) → IsDigest d → IsDigest e → words_of d ≡ words_of e → d ≡ e
same_digest d e hd he h =
    ext_get_or 0 d e (hd.long ∙ sym he.long) (λ i hi.
    let k : i / 8 < 4 = omega (arith, hd.long) in
    let place : 8 * (i / 8) + i % 8 ≡ i = omega arith in
    ap (λ x. get_or d x 0) (sym place)
    ∙ sym (byte_in d (8 * (i / 8)) (i % 8) (omega arith))
    ∙ ap (λ xs. get_or xs (i % 8) 0) (same_eight d e (i / 8) hd he (word_at d e (i / 8) h k))
    ∙ byte_in e (8 * (i / 8)) (i % 8) (omega arith)
    ∙ ap (λ x. get_or e x 0) place)

-- eight bytes that a number gave
pub number_back : (bs : List ℕ) (n : ℕ) → bs ≡ to_be_bytes w64 n → n < 2 ^ 64 → from_be_bytes w64 (eight bs 0) ≡ n
number_back bs n e h = ap (λ xs. from_be_bytes w64 (eight xs 0)) e ∙ from_be_bytes-to_be_bytes_8 n h
