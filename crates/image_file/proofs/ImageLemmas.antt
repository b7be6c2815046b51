-- The bytes of words, and the words of bytes.
use Rattle.std.proofs.Common.{◌≡◌, ◌≢◌, ℕ, zero, suc, ◌+◌, ◌*◌, ◌-◌, ◌/◌, ◌%◌, ◌^◌, ◌<◌, ◌≤◌, List, [], ◌∷◌, ◌++◌, length, take, drop, get_or, slice_index, refl, ap, sym, ◌∙◌, subst, add-one, append_assoc, arith, w64}
use Rattle.std.specs.Int.{to_le_bytes, from_le_bytes}
use Rattle.std.proofs.lemmas.List.{drop-drop, length-append, length-take-le, take-append-drop}
use Rattle.std.proofs.lemmas.Nat.{from_le_bytes-to_le_bytes_8}
use Rattle.std.proofs.Math.Seq.{drop-cons, take_all, take-append_seam, drop-append_seam}
use Rattle.sha2.specs.Sha256.{sha256}
use Rattle.sha2.proofs.Facts256.{length-sha256}
use Rattle.cas_model.specs.Content.{bytes_of, words_from}
use Rattle.cas_model.specs.State.{State}
use Rattle.cas_model.proofs.ContentLemmas.{recovered, EachIsByte}
use Rattle.region_core.specs.Stands.{AreWords, Stands}
use Rattle.region_check.specs.Flaws.{Refuses}
use Rattle.region_check.specs.declared.flaw.CheckError.TheVariants as check
use Rattle.region_check.specs.declared.flaw.Flaw.{Flaw}
use Rattle.image_file.specs.declared.error.ImageError.{ImageError}
use Rattle.image_file.specs.declared.error.ImageError.TheVariants as errors
use Rattle.image_file.specs.Image.{image_bytes, body_of, sum_of, image_words, HasLength, HasOtherVersion, IsWhole, RefusesImage}

-- ---- writing

pub bytes-more : (words : List ℕ) (i : ℕ) (word other : ℕ) (bytes after whole : List ℕ) → i < length words → word ≡ get_or words i other → bytes ++ bytes_of (drop i words) ≡ whole
    → after ≡ bytes ++ to_le_bytes w64 word → after ++ bytes_of (drop (i + 1) words) ≡ whole
bytes-more words i word other bytes after whole lt at so_far is =
    let here : drop i words ≡ word ∷ drop (i + 1) words = drop-cons words i other lt ∙ ap (λ z. z ∷ drop (suc i) words) (sym at) ∙ ap (λ n. word ∷ drop n words) (sym (add-one i)) in
    ap (λ xs. xs ++ bytes_of (drop (i + 1) words)) is ∙ append_assoc bytes (to_le_bytes w64 word) (bytes_of (drop (i + 1) words))
    ∙ sym (ap (λ ws. bytes ++ bytes_of ws) here) ∙ so_far

-- words that stand for a state are at most as many as the largest region has
pub at-most : (words given : List ℕ) (size : ℕ) (state : State) → Stands words size state → given ≡ words → length given ≤ 67108864
at-most words given size state stands is =
    let same : length given ≡ length words = ap length is in
    let a = stands.headed.within in
    let b = stands.headed.most in
    omega (arith, same, a, b)

-- ---- lengths

pub length-bytes : (words : List ℕ) → length (bytes_of words) ≡ 8 * length words
length-bytes [] = refl
length-bytes (w ∷ ws) = let rest = length-bytes ws in let whole = length-append (to_le_bytes w64 w) (bytes_of ws) in omega (arith, rest, whole)

-- ---- reading

pub words-back : (words : List ℕ) → ((i : ℕ) → slice_index words i < 2 ^ 64) → words_from (length words) (bytes_of words) ≡ words
words-back [] small = refl
words-back (w ∷ ws) small =
    let first : from_le_bytes w64 (to_le_bytes w64 w ++ bytes_of ws) ≡ w = from_le_bytes-to_le_bytes_8 w (small 0) in
    let rest = words-back ws (λ i. small (suc i)) in
    ap (λ x. x ∷ words_from (length ws) (bytes_of ws)) first ∙ ap (λ xs. w ∷ xs) rest

length-words_from : (n : ℕ) (bytes : List ℕ) → length (words_from n bytes) ≡ n
length-words_from zero bytes = refl
length-words_from (suc n) bytes = ap suc (length-words_from n (drop 8 bytes))

-- bytes in eights are those of their words
pub bytes-back : (bytes : List ℕ) → length bytes % 8 ≡ 0 → EachIsByte bytes → bytes_of (words_from (length bytes / 8) bytes) ≡ bytes
bytes-back bytes whole small =
    let n = length bytes / 8 in
    let fits : length bytes ≤ 8 * n = omega (arith, whole) in
    let long : length (bytes_of (words_from n bytes)) ≤ length bytes = (let e = length-bytes (words_from n bytes) in let m = length-words_from n bytes in omega (arith, e, m)) in
    sym (take_all (length bytes) (bytes_of (words_from n bytes)) long) ∙ recovered n bytes fits small

-- one more word of bytes
words-next : (n : ℕ) (bytes : List ℕ) → words_from (suc n) bytes ≡ words_from n bytes ++ from_le_bytes w64 (drop (8 * n) bytes) ∷ []
words-next zero bytes = refl
words-next (suc n) bytes =
    let deeper : drop (8 * n) (drop 8 bytes) ≡ drop (8 * suc n) bytes = (let e : 8 + 8 * n ≡ 8 * suc n = omega arith in drop-drop (8 * n) 8 bytes ∙ ap (λ k. drop k bytes) e) in
    ap (λ ws. from_le_bytes w64 bytes ∷ ws) (words-next n (drop 8 bytes) ∙ ap (λ bs. words_from n (drop 8 bytes) ++ from_le_bytes w64 bs ∷ []) deeper)

pub word-more : (words after bytes : List ℕ) (i word : ℕ) → words ≡ words_from i bytes → word ≡ from_le_bytes w64 (drop (8 * i) bytes) → after ≡ words ++ word ∷ [] → after ≡ words_from (i + 1) bytes
word-more words after bytes i word so_far word_is is =
    is ∙ ap (λ ws. ws ++ word ∷ []) so_far ∙ ap (λ w. words_from i bytes ++ w ∷ []) word_is ∙ sym (words-next i bytes) ∙ ap (λ n. words_from n bytes) (sym (add-one i))

-- ---- an image

pub body-length : (bytes : List ℕ) → HasLength bytes → length (body_of bytes) ≡ length bytes - 32
body-length bytes fits = length-take-le (length bytes - 32) bytes (omega arith)

taken-small : (n : ℕ) (bytes : List ℕ) → EachIsByte bytes → EachIsByte (take n bytes)
taken-small zero bytes small i = omega arith
taken-small (suc n) [] small i = small i
taken-small (suc n) (b ∷ bytes) small zero = small 0
taken-small (suc n) (b ∷ bytes) small (suc i) = taken-small n bytes (λ k. small (suc k)) i

pub whole-image : (bytes body words : List ℕ) → IsWhole bytes body → EachIsByte bytes → words ≡ words_from (length body / 8) body → bytes ≡ image_bytes words
whole-image bytes body words whole all is =
    let small : EachIsByte body = subst EachIsByte (sym whole.is) (taken-small (length bytes - 32) bytes all) in
    let fits = whole.sum.fits in
    let long : length body ≡ length bytes - 32 = ap length whole.is ∙ body-length bytes fits in
    let eights : length body % 8 ≡ 0 = (let a = fits.whole in let b = fits.short in omega (arith, long, a, b)) in
    let back : bytes_of words ≡ body = ap bytes_of is ∙ bytes-back body eights small in
    let parts : bytes ≡ body_of bytes ++ sum_of bytes = sym (take-append-drop (length bytes - 32) bytes) in
    parts ∙ ap (λ xs. body_of bytes ++ xs) whole.sum.sum ∙ ap (λ xs. xs ++ sha256 xs) (sym whole.is ∙ sym back)

-- the words of a whole image are as many as those of an empty region at least, and the first of its refusals
pub many-words : (bytes body words : List ℕ) → IsWhole bytes body → words ≡ words_from (length body / 8) body → 520 ≤ length words
many-words bytes body words whole is =
    let fits = whole.sum.fits in
    let short = fits.short in
    let long : length body ≡ length bytes - 32 = ap length whole.is ∙ body-length bytes fits in
    let count : length words ≡ length body / 8 = ap length is ∙ length-words_from (length body / 8) body in
    omega (arith, short, long, count)

same-words : (bytes body words : List ℕ) → IsWhole bytes body → words ≡ words_from (length body / 8) body → words ≡ image_words bytes
same-words bytes body words whole is = is ∙ ap (λ bs. words_from (length bs / 8) bs) whole.is

-- the second word, whatever is said of those past the end
pub second : (words : List ℕ) (other : ℕ) → 520 ≤ length words → get_or words 1 other ≡ slice_index words 1
second [] other many = absurd (omega (arith, many))
second (a ∷ []) other many = absurd (omega (arith, many))
second (a ∷ b ∷ words) other many = refl

pub other-version : (bytes body words : List ℕ) (version : ℕ) → IsWhole bytes body → words ≡ words_from (length body / 8) body → version ≡ slice_index words 1 → version ≢ 1 → HasOtherVersion bytes version
other-version bytes body words version whole is there other =
    record { sum = whole.sum; is = there ∙ ap (λ ws. slice_index ws 1) (same-words bytes body words whole is); other = other }

pub has-flaw : (bytes body words : List ℕ) (version : ℕ) (flaw : Flaw) → IsWhole bytes body → words ≡ words_from (length body / 8) body → version ≡ slice_index words 1 → version ≡ 1
    → Refuses words (check.Flaw flaw) → RefusesImage bytes (errors.Flaw flaw)
has-flaw bytes body words version flaw whole is there one refused =
    let same = same-words bytes body words whole is in
    let h = subst (λ ws. Refuses ws (check.Flaw flaw)) same refused in
    (whole.sum, ap (λ ws. slice_index ws 1) (sym same) ∙ sym there ∙ one, h.0, h.1)

body-image : (words : List ℕ) → body_of (image_bytes words) ≡ bytes_of words
body-image words =
    let whole = length-append (bytes_of words) (sha256 (bytes_of words)) in
    let sum = length-sha256 (bytes_of words) in
    let n : length (image_bytes words) - 32 ≡ length (bytes_of words) = omega (arith, whole, sum) in
    ap (λ k. take k (image_bytes words)) n ∙ take-append_seam (bytes_of words) (sha256 (bytes_of words))

sum-image : (words : List ℕ) → sum_of (image_bytes words) ≡ sha256 (bytes_of words)
sum-image words =
    let whole = length-append (bytes_of words) (sha256 (bytes_of words)) in
    let sum = length-sha256 (bytes_of words) in
    let n : length (image_bytes words) - 32 ≡ length (bytes_of words) = omega (arith, whole, sum) in
    ap (λ k. drop k (image_bytes words)) n ∙ drop-append_seam (bytes_of words) (sha256 (bytes_of words))

words-image : (words : List ℕ) → AreWords words → image_words (image_bytes words) ≡ words
words-image words are =
    let long = length-bytes words in
    let n : length (bytes_of words) / 8 ≡ length words = omega (arith, long) in
    ap (λ bs. words_from (length bs / 8) bs) (body-image words) ∙ ap (λ k. words_from k (bytes_of words)) n ∙ words-back words are.small

pub one-image : (words others : List ℕ) → AreWords words → AreWords others → image_bytes words ≡ image_bytes others → words ≡ others
one-image words others are too same = sym (words-image words are) ∙ ap image_words same ∙ words-image others too

image-length : (words : List ℕ) → length (image_bytes words) ≡ 8 * length words + 32
image-length words =
    let whole = length-append (bytes_of words) (sha256 (bytes_of words)) in
    let sum = length-sha256 (bytes_of words) in
    let long = length-bytes words in
    omega (arith, whole, sum, long)

pub lawful-read : (words : List ℕ) (size : ℕ) (state : State) (error : ImageError) → AreWords words → Stands words size state → RefusesImage (image_bytes words) error → error ≡ errors.Memory
lawful-read words size state errors.Long are stands h =
    let n = image-length words in let a = stands.headed.within in let b = stands.headed.most in absurd (omega (arith, h, n, a, b))
lawful-read words size state errors.Short are stands h = let n = image-length words in let a = stands.headed.long in absurd (omega (arith, h, n, a))
lawful-read words size state errors.Ragged are stands h = let n = image-length words in let r = h.ragged in absurd (r (omega (arith, n)))
lawful-read words size state (errors.Sum kept found) are stands h = absurd (h.differ (sum-image words ∙ sym (ap sha256 (body-image words))))
lawful-read words size state (errors.Version version) are stands h =
    absurd (h.other (h.is ∙ ap (λ ws. slice_index ws 1) (words-image words are) ∙ stands.headed.version))
lawful-read words size state (errors.Flaw flaw) are stands h = absurd (h.3 size state (subst (λ ws. Stands ws size state) (sym (words-image words are)) stands))
lawful-read words size state errors.Memory are stands h = refl
