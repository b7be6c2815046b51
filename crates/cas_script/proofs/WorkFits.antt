-- A workload is within the limits of a script.
use Rattle.std.proofs.Common.{◌≡◌, ℕ, zero, suc, ◌+◌, ◌^◌, ◌<◌, ◌≤◌, List, [], ◌∷◌, ◌++◌, map, length, codes, decimal, refl, arith, length-append}
use Rattle.std.specs.List.{range_with_len, AllByRecursion}
use Rattle.std.proofs.lemmas.Fmt.{length-decimal-le}
use Rattle.std.proofs.lemmas.List.FromFn.{length-map-range_with_len}
use Rattle.cas_script.specs.Limits.{FitsLine, FitsSession, FitsScript}
use Rattle.cas_script.specs.Workload.{header_line, header_lines, header_digests, work_line, work_number, work_lines, work_session, workload_script}

-- what holds of each index holds of each item
all-range : {X : Type 0} (P : X → Type 0) (f : ℕ → X) (a n : ℕ) → ((k : ℕ) → k < a + n → P (f k)) → AllByRecursion P (map f (range_with_len a n))
all-range P f a zero each = tt
all-range P f a (suc n) each = (each a (omega arith), all-range P f (a + 1) n (λ k below. each k (omega arith)))

all-append : {X : Type 0} (P : X → Type 0) (xs ys : List X) → AllByRecursion P xs → AllByRecursion P ys → AllByRecursion P (xs ++ ys)
all-append P [] ys first rest = rest
all-append P (x ∷ xs) ys first rest = (first.0, all-append P xs ys first.1 rest)

-- a short word and a number
name-short : (word : List ℕ) (number : ℕ) → length word ≤ 7 → number < 10 ^ 6 → length (word ++ decimal number) ≤ 16777215
name-short word number short small =
    let digits : length (decimal number) ≤ 6 = length-decimal-le 6 number (omega arith) small (omega arith) in
    let all : length (word ++ decimal number) ≡ length word + length (decimal number) = length-append word (decimal number) in
    omega arith

header-fits : (number : ℕ) → number < 4 → FitsLine (header_line number)
header-fits number small = record { few = omega arith; short = name-short (codes "header-") number (omega arith) (omega arith) }

digests-few : length header_digests ≤ 65535
unfolding header_digests
digests-few = omega arith

work-fits : (number : ℕ) → number < 10 ^ 6 → FitsLine (work_line number)
work-fits number small = record { few = digests-few; short = name-short (codes "work-") number (omega arith) small }

headers-fit : AllByRecursion FitsLine header_lines
unfolding header_lines
headers-fit = all-range FitsLine header_line 0 4 header-fits

headers-four : length header_lines ≡ 4
unfolding header_lines
headers-four = refl

session-fits : (rounds session : ℕ) → rounds ≤ 65532 → FitsSession (work_session rounds session)
session-fits rounds session few = record {
  few =
      let all : length (header_lines ++ work_lines rounds session rounds) ≡ length header_lines + length (work_lines rounds session rounds) = length-append header_lines (work_lines rounds session rounds) in
      let many : length (work_lines rounds session rounds) ≡ rounds = length-map-range_with_len _ 0 rounds in
      omega (arith, headers-four);
  each = all-append FitsLine header_lines (work_lines rounds session rounds) headers-fit
      (all-range FitsLine (λ (round : ℕ). work_line (work_number rounds session round)) 0 rounds
      (λ round below. work-fits (work_number rounds session round) (omega arith)));
}

-- the script of at most 65,532 rounds
pub workload-fits : (rounds : ℕ) → rounds ≤ 65532 → FitsScript (workload_script rounds)
unfolding workload_script
workload-fits rounds few = record {
  few = omega arith;
  each = all-range FitsSession (work_session rounds) 0 8 (λ session below. session-fits rounds session few);
}
