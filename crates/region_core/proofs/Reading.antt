-- Four words of a record and the digest in them.
use Rattle.std.proofs.Common.{◌≡◌, ℕ, ◌+◌, List, [], ◌∷◌, ◌++◌, length, get_or, refl, ap, ◌∙◌, arith}
use Rattle.std.specs.Int.{w64, to_be_bytes}
use Rattle.cas_model.specs.Trie.{IsDigest}
use Rattle.region_core.specs.Words.{eight, words_of, HasWords}
use Rattle.region_core.specs.Leads.{digest_there}
use Rattle.region_core.proofs.Digests.{eight_back}

len : (n : ℕ) → length (to_be_bytes w64 n) ≡ 8
len n = refl

whole : (d : List ℕ) → length d ≡ 32 → eight d 0 ++ eight d 8 ++ eight d 16 ++ eight d 24 ≡ d
whole (a0 ∷ a1 ∷ a2 ∷ a3 ∷ a4 ∷ a5 ∷ a6 ∷ a7 ∷ b0 ∷ b1 ∷ b2 ∷ b3 ∷ b4 ∷ b5 ∷ b6 ∷ b7 ∷ c0 ∷ c1 ∷ c2 ∷ c3 ∷ c4 ∷ c5 ∷ c6 ∷ c7 ∷ d0 ∷ d1 ∷ d2 ∷ d3 ∷ d4 ∷ d5 ∷ d6 ∷ d7 ∷ []) h = refl
whole d h = absurd (omega arith)

-- the words of a digest give it back
pub digest_held-there : (words d : List ℕ) (p : ℕ) → IsDigest d → HasWords words p (words_of d) → digest_there words p ≡ record { bytes = d }
unfolding digest_there
digest_held-there words d p digest has =
    let one = ap (to_be_bytes w64) has.0 ∙ eight_back d 0 digest in
    let two = ap (to_be_bytes w64) has.1 ∙ eight_back d 1 digest in
    let three = ap (to_be_bytes w64) has.2 ∙ eight_back d 2 digest in
    let four = ap (to_be_bytes w64) has.3 ∙ eight_back d 3 digest in
    let all : to_be_bytes w64 (get_or words p 0) ++ to_be_bytes w64 (get_or words (p + 1) 0) ++ to_be_bytes w64 (get_or words (p + 2) 0) ++ to_be_bytes w64 (get_or words (p + 3) 0) ≡ d =
    (λ i. one i ++ two i ++ three i ++ four i) ∙ whole d digest.long in
    λ i. record { bytes = all i }
