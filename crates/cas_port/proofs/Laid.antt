-- The words of an open block, as they are kept.
use Rattle.std.proofs.Common.{◌≡◌, ℕ, suc, ◌+◌, ◌-◌, ◌<◌, ◌≤◌, List, [], ◌∷◌, ◌++◌, Some, None, length, map, set, unwrap_or, refl, ap, sym, ◌∙◌, arith}
use Rattle.std.specs.declared.option.Option.{Option}
use Rattle.std.proofs.lemmas.List.{append_assoc, append-nil, length-append, length-map, length-replicate, length-set, map-append, map-set, replicate-append-replicate, set-append_left, set-append_right}
use Rattle.std.proofs.Math.Seq.{set-append_seam}
use Rattle.cas_port.specs.Blank.{none_written, laid}
use Rattle.cas_port.specs.View.{written_words}

pub length-laid : (ws : List ℕ) (later : List (Option ℕ)) (n : ℕ) → length ws + length later ≤ n → length (laid ws later n) ≡ n
length-laid ws later n fits =
    let front : length (map Some ws) ≡ length ws = length-map ws Some in
    let rest : length (none_written (n - (length ws + length later))) ≡ n - (length ws + length later) = length-replicate (n - (length ws + length later)) None in
    let both : length (map Some ws ++ later) ≡ length (map Some ws) + length later = length-append (map Some ws) later in
    let all : length (laid ws later n) ≡ length (map Some ws ++ later) + length (none_written (n - (length ws + length later))) =
    length-append (map Some ws ++ later) (none_written (n - (length ws + length later))) in
    omega (arith, front, rest, both, all, fits)

-- a word is written again
pub laid-first : (ws : List ℕ) (later : List (Option ℕ)) (n i w : ℕ) → i < length ws → laid (set ws i w) later n ≡ set (laid ws later n) i (Some w)
laid-first ws later n i w lt =
    let front : length (map Some ws) ≡ length ws = length-map ws Some in
    let both : length (map Some ws ++ later) ≡ length (map Some ws) + length later = length-append (map Some ws) later in
    let none = none_written (n - (length ws + length later)) in
    ap (λ (k : ℕ). map Some (set ws i w) ++ later ++ none_written (n - (k + length later))) (length-set ws i w)
    ∙ ap (λ (xs : List (Option ℕ)). xs ++ later ++ none) (map-set Some ws i w)
    ∙ ap (λ (xs : List (Option ℕ)). xs ++ none) (sym (set-append_left (map Some ws) later i (Some w) (omega (arith, front, lt))))
    ∙ sym (set-append_left (map Some ws ++ later) none i (Some w) (omega (arith, front, both, lt)))

-- the next word is written
pub laid-next : (ws : List ℕ) (n w : ℕ) → length ws < n → laid (ws ++ w ∷ []) [] n ≡ set (laid ws [] n) (length ws) (Some w)
laid-next ws n w lt =
    let m = n - (length ws + 1) in
    let front : length (map Some ws) ≡ length ws = length-map ws Some in
    let long : length (ws ++ w ∷ []) ≡ length ws + 1 = length-append ws (w ∷ []) in
    let fewer : n - (length (ws ++ w ∷ []) + 0) ≡ m = omega (arith, long) in
    let more : n - (length ws + 0) ≡ suc m = omega (arith, lt) in
    let split : map Some (ws ++ w ∷ []) ≡ map Some ws ++ Some w ∷ [] = map-append Some ws (w ∷ []) in
    let seam : set (map Some ws ++ None ∷ none_written m) (length (map Some ws)) (Some w) ≡ map Some ws ++ Some w ∷ none_written m =
    set-append_seam (map Some ws) None (none_written m) (Some w) in
    ap (λ (xs : List (Option ℕ)). xs ++ none_written (n - (length (ws ++ w ∷ []) + 0))) (append-nil (map Some (ws ++ w ∷ [])))
    ∙ ap (λ (k : ℕ). map Some (ws ++ w ∷ []) ++ none_written k) fewer
    ∙ ap (λ (xs : List (Option ℕ)). xs ++ none_written m) split
    ∙ append_assoc (map Some ws) (Some w ∷ []) (none_written m)
    ∙ sym seam
    ∙ ap (λ (k : ℕ). set (map Some ws ++ None ∷ none_written m) k (Some w)) front
    ∙ sym (ap (λ (k : ℕ). set (map Some ws ++ none_written k) (length ws) (Some w)) more)
    ∙ sym (ap (λ (xs : List (Option ℕ)). set (xs ++ none_written (n - (length ws + 0))) (length ws) (Some w)) (append-nil (map Some ws)))

-- the same words are kept with more of those that are not written
pub laid-more : (ws : List ℕ) (later : List (Option ℕ)) (n k : ℕ) → length ws + length later + k ≤ n → laid ws (later ++ none_written k) n ≡ laid ws later n
laid-more ws later n k fits =
    let long : length (later ++ none_written k) ≡ length later + length (none_written k) = length-append later (none_written k) in
    let none : length (none_written k) ≡ k = length-replicate k None in
    let m = n - (length ws + length (later ++ none_written k)) in
    let whole : k + m ≡ n - (length ws + length later) = omega (arith, long, none, fits) in
    ap (λ (xs : List (Option ℕ)). xs ++ none_written m) (sym (append_assoc (map Some ws) later (none_written k)))
    ∙ append_assoc (map Some ws ++ later) (none_written k) (none_written m)
    ∙ ap (λ (xs : List (Option ℕ)). map Some ws ++ later ++ xs) (replicate-append-replicate k m None)
    ∙ ap (λ (j : ℕ). map Some ws ++ later ++ none_written j) whole

-- a word is written before its turn
pub laid-later : (ws : List ℕ) (later : List (Option ℕ)) (n i w : ℕ) → i < length later → laid ws (set later i (Some w)) n ≡ set (laid ws later n) (length ws + i) (Some w)
laid-later ws later n i w lt =
    let front : length (map Some ws) ≡ length ws = length-map ws Some in
    let both : length (map Some ws ++ later) ≡ length (map Some ws) + length later = length-append (map Some ws) later in
    let none = none_written (n - (length ws + length later)) in
    let at : length ws + i - length ws ≡ i = omega arith in
    ap (λ (k : ℕ). map Some ws ++ set later i (Some w) ++ none_written (n - (length ws + k))) (length-set later i (Some w))
    ∙ ap (λ (k : ℕ). map Some ws ++ set later k (Some w) ++ none) (sym at)
    ∙ ap (λ (xs : List (Option ℕ)). xs ++ none) (sym (set-append_right (map Some ws) later (length ws) (length ws + i) (Some w) front (omega arith)))
    ∙ sym (set-append_left (map Some ws ++ later) none (length ws + i) (Some w) (omega (arith, front, both, lt)))

words-some : (ws : List ℕ) → written_words (map Some ws) ≡ ws
words-some [] = refl
words-some (w ∷ ws) = ap (λ (os : List ℕ). w ∷ os) (words-some ws)

-- the words with those after them are the block's
pub laid-words : (ws : List ℕ) (later : List (Option ℕ)) (n : ℕ) → length ws + length later ≤ n
    → ws ++ written_words (later ++ none_written (n - length ws - length later)) ≡ written_words (laid ws later n)
laid-words ws later n fits =
    let same : n - length ws - length later ≡ n - (length ws + length later) = omega (arith, fits) in
    let none = none_written (n - (length ws + length later)) in
    ap (λ (k : ℕ). ws ++ written_words (later ++ none_written k)) same
    ∙ sym (ap (λ (xs : List ℕ). xs ++ written_words (later ++ none)) (words-some ws))
    ∙ sym (map-append (λ (w : Option ℕ). unwrap_or w 0) (map Some ws) (later ++ none))
    ∙ sym (ap written_words (append_assoc (map Some ws) later none))

-- ---- the steps of a write

pub laid-room : (view : List (Option ℕ)) (ws : List ℕ) (later : List (Option ℕ)) (n i : ℕ) → laid ws later n ≡ view → length ws + length later ≤ n → i < length view → i < n
laid-room view ws later n i is fits lt = omega (arith, lt, ap length is, length-laid ws later n fits)

pub laid-pushed : (ws new : List ℕ) (later : List (Option ℕ)) (n i w : ℕ) → new ≡ ws ++ w ∷ [] → length later ≡ 0 → i ≡ length ws → i < n → laid new later n ≡ set (laid ws later n) i (Some w)
laid-pushed ws new [] n i w is none at lt =
    ap (λ (xs : List ℕ). laid xs [] n) is ∙ laid-next ws n w (omega (arith, at, lt)) ∙ ap (λ (k : ℕ). set (laid ws [] n) k (Some w)) (sym at)
laid-pushed ws new (x ∷ xs) n i w is none at lt = absurd (omega (arith, none))

pub laid-before : (ws : List ℕ) (later new : List (Option ℕ)) (n i j w : ℕ) → new ≡ later ++ none_written (j + 1 - length later) → i ≡ length ws + j → i < n → length ws + length later ≤ n
    → laid ws (set new j (Some w)) n ≡ set (laid ws later n) i (Some w)
laid-before ws later new n i j w is at lt fits =
    let k = j + 1 - length later in
    let long : length (later ++ none_written k) ≡ length later + length (none_written k) = length-append later (none_written k) in
    let none : length (none_written k) ≡ k = length-replicate k None in
    ap (λ (xs : List (Option ℕ)). laid ws (set xs j (Some w)) n) is
    ∙ laid-later ws (later ++ none_written k) n j w (omega (arith, long, none))
    ∙ ap (λ (xs : List (Option ℕ)). set xs (length ws + j) (Some w)) (laid-more ws later n k (omega (arith, at, lt, fits)))
    ∙ ap (λ (m : ℕ). set (laid ws later n) m (Some w)) (sym at)
