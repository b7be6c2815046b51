-- The words of data, and the bytes that they hold.
use Rattle.std.proofs.Common.{◌≡◌, ◌≢◌, ℕ, zero, suc, ◌+◌, ◌-◌, ◌*◌, ◌/◌, ◌%◌, ◌^◌, ◌<◌, List, [], ◌∷◌, ◌++◌, length, get_or, take, drop, inl, inr, refl, sym, ap, ◌∙◌, subst, arith}
use Rattle.std.specs.Int.{w64, to_le_bytes, from_le_bytes}
use Rattle.std.proofs.lemmas.Bool.{cases_lt}
use Rattle.std.proofs.lemmas.List.{length-drop, get_or-drop}
use Rattle.std.proofs.lemmas.Nat.{from_le_bytes-to_le_bytes_8}
use Rattle.cas_model.specs.Content.{words_from, bytes_of, content_bytes}

-- the first bytes of one word
few_bytes : (w n : ℕ) → 0 < n → n < 8 → w < 2 ^ (8 * n) → from_le_bytes w64 (take n (to_le_bytes w64 w)) ≡ w
few_bytes w zero some short small = absurd (omega arith)
few_bytes w (suc zero) some short small = omega arith
few_bytes w (suc (suc zero)) some short small = omega arith
few_bytes w (suc (suc (suc zero))) some short small = omega arith
few_bytes w (suc (suc (suc (suc zero)))) some short small = omega arith
few_bytes w (suc (suc (suc (suc (suc zero))))) some short small = omega arith
few_bytes w (suc (suc (suc (suc (suc (suc zero)))))) some short small = omega arith
few_bytes w (suc (suc (suc (suc (suc (suc (suc zero))))))) some short small = omega arith
few_bytes w (suc (suc (suc (suc (suc (suc (suc (suc n)))))))) some short small = absurd (omega arith)

whole_word : (w : ℕ) (rest : List ℕ) → w < 2 ^ 64 → from_le_bytes w64 (to_le_bytes w64 w ++ rest) ≡ w
whole_word w rest small = from_le_bytes-to_le_bytes_8 w small

-- words whose last one has no stray bits are those of their bytes
pub refill : (ws : List ℕ) (n : ℕ) → length ws ≡ (n + 7) / 8 → ((i : ℕ) → get_or ws i 0 < 2 ^ 64) → ((k : ℕ) → length ws ≡ suc k → n % 8 ≢ 0 → get_or ws k 0 < 2 ^ (8 * (n % 8))) → words_from (length ws) (take n (bytes_of ws)) ≡ ws
refill [] n long small last = refl
refill (w ∷ ws) n long small last = elim (cases_lt n 8) [
  | inl short ↦ one ws long last short
  | inr more ↦ rest (n - 8) (omega (arith, more)) (refill ws (n - 8))
]
  where
    one : (vs : List ℕ) → length (w ∷ vs) ≡ (n + 7) / 8 → ((k : ℕ) → length (w ∷ vs) ≡ suc k → n % 8 ≢ 0 → get_or (w ∷ vs) k 0 < 2 ^ (8 * (n % 8))) → n < 8 → words_from (length (w ∷ vs)) (take n (bytes_of (w ∷ vs))) ≡ w ∷ vs
    one [] long last short =
        let some : 0 < n = omega arith in
        let same : n % 8 ≡ n = omega arith in
        let fits : w < 2 ^ (8 * (n % 8)) = last 0 refl (λ e. omega arith) in
        let fits_n : w < 2 ^ (8 * n) = subst (λ m. w < 2 ^ (8 * m)) same fits in
        ap (λ v. v ∷ []) (few_bytes w n some short fits_n)
    one (v ∷ vs) long last short = absurd (omega arith)

    rest : (m : ℕ) → n ≡ suc (suc (suc (suc (suc (suc (suc (suc m))))))) → (length ws ≡ (m + 7) / 8 → ((i : ℕ) → get_or ws i 0 < 2 ^ 64) → ((k : ℕ) → length ws ≡ suc k → m % 8 ≢ 0 → get_or ws k 0 < 2 ^ (8 * (m % 8))) → words_from (length ws) (take m (bytes_of ws)) ≡ ws) → words_from (length (w ∷ ws)) (take n (bytes_of (w ∷ ws))) ≡ w ∷ ws
    rest m is again =
        let more : words_from (length ws) (take m (bytes_of ws)) ≡ ws = again (omega (arith, long, is)) (λ i. small (suc i)) (λ k e odd. shorter m k is e odd) in
        ap (λ z. words_from (length (w ∷ ws)) (take z (bytes_of (w ∷ ws)))) is ∙ (λ i. whole_word w (take m (bytes_of ws)) (small 0) i ∷ more i)
      where
        shorter : (m k : ℕ) → n ≡ suc (suc (suc (suc (suc (suc (suc (suc m))))))) → length ws ≡ suc k → m % 8 ≢ 0 → get_or ws k 0 < 2 ^ (8 * (m % 8))
        shorter m k is e odd =
            let same : n % 8 ≡ m % 8 = omega arith in
            subst (λ z. get_or ws k 0 < 2 ^ (8 * z)) same (last (suc k) (ap suc e) (λ z. odd (sym same ∙ z)))

abbrev pub AreSmall : List ℕ → Type 0
AreSmall bytes = (i : ℕ) → get_or bytes i 0 < 256

-- fewer than eight bytes make a small number
few_small : (bytes : List ℕ) → length bytes < 8 → AreSmall bytes → from_le_bytes w64 bytes < 2 ^ (8 * length bytes)
few_small [] short small = omega arith
few_small (a ∷ []) short small = omega (arith, small 0)
few_small (a ∷ b ∷ []) short small = omega (arith, small 0, small 1)
few_small (a ∷ b ∷ c ∷ []) short small = omega (arith, small 0, small 1, small 2)
few_small (a ∷ b ∷ c ∷ d ∷ []) short small = omega (arith, small 0, small 1, small 2, small 3)
few_small (a ∷ b ∷ c ∷ d ∷ e ∷ []) short small = omega (arith, small 0, small 1, small 2, small 3, small 4)
few_small (a ∷ b ∷ c ∷ d ∷ e ∷ f ∷ []) short small = omega (arith, small 0, small 1, small 2, small 3, small 4, small 5)
few_small (a ∷ b ∷ c ∷ d ∷ e ∷ f ∷ g ∷ []) short small = omega (arith, small 0, small 1, small 2, small 3, small 4, small 5, small 6)
few_small (a ∷ b ∷ c ∷ d ∷ e ∷ f ∷ g ∷ h ∷ bytes) short small = absurd (omega arith)

-- the last word of data that ends inside it has no stray bits
pub last_small : (k : ℕ) (bytes : List ℕ) → suc k ≡ (length bytes + 7) / 8 → length bytes % 8 ≢ 0 → AreSmall bytes → get_or (words_from (suc k) bytes) k 0 < 2 ^ (8 * (length bytes % 8))
last_small zero bytes long odd small =
    let short : length bytes < 8 = omega (arith, long, odd) in
    let same : length bytes ≡ length bytes % 8 = omega (arith, short) in
    subst (λ n. from_le_bytes w64 bytes < 2 ^ (8 * n)) same (few_small bytes short small)
last_small (suc k) bytes long odd small =
    let rest : length (drop 8 bytes) ≡ length bytes - 8 = length-drop 8 bytes in
    let same : length (drop 8 bytes) % 8 ≡ length bytes % 8 = omega (arith, rest, long) in
    subst (λ n. get_or (words_from (suc k) (drop 8 bytes)) k 0 < 2 ^ (8 * n)) same
    (last_small k (drop 8 bytes) (omega (arith, rest, long)) (λ e. odd (sym same ∙ e)) (λ i. subst (λ z. z < 256) (sym (get_or-drop 8 bytes i 0)) (small (8 + i))))

-- the bytes of words are small
byte_small : (w i : ℕ) → get_or (to_le_bytes w64 w) i 0 < 256
byte_small w zero = omega arith
byte_small w (suc zero) = omega arith
byte_small w (suc (suc zero)) = omega arith
byte_small w (suc (suc (suc zero))) = omega arith
byte_small w (suc (suc (suc (suc zero)))) = omega arith
byte_small w (suc (suc (suc (suc (suc zero))))) = omega arith
byte_small w (suc (suc (suc (suc (suc (suc zero)))))) = omega arith
byte_small w (suc (suc (suc (suc (suc (suc (suc zero))))))) = omega arith
byte_small w (suc (suc (suc (suc (suc (suc (suc (suc i)))))))) = omega arith

append_small : (xs ys : List ℕ) → AreSmall xs → AreSmall ys → AreSmall (xs ++ ys)
append_small [] ys a b i = b i
append_small (x ∷ xs) ys a b zero = a zero
append_small (x ∷ xs) ys a b (suc i) = append_small xs ys (λ k. a (suc k)) b i

bytes_small : (ws : List ℕ) → AreSmall (bytes_of ws)
bytes_small [] i = omega arith
bytes_small (w ∷ ws) i = append_small (to_le_bytes w64 w) (bytes_of ws) (byte_small w) (bytes_small ws) i

pub some_small : (n : ℕ) (bytes : List ℕ) → AreSmall bytes → AreSmall (take n bytes)
some_small zero bytes a i = omega arith
some_small (suc n) [] a i = omega arith
some_small (suc n) (b ∷ bytes) a zero = a zero
some_small (suc n) (b ∷ bytes) a (suc i) = some_small n bytes (λ k. a (suc k)) i

pub content_small : (ws : List ℕ) → AreSmall (content_bytes ws)
content_small [] i = omega arith
content_small (h ∷ ws) i = some_small (h % 2 ^ 32) (bytes_of (drop (h / 2 ^ 32) ws)) (bytes_small (drop (h / 2 ^ 32) ws)) i
