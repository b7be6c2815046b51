-- The pieces of a text that is cut at its first mark.
use Rattle.std.proofs.Common.{◌≡◌, ◌∙◌, ap, ℕ, suc, ◌+◌, ◌<◌, ◌≤◌, Bool, true, false, ◌==◌, List, [], ◌∷◌, Some, None, length, slice_range, length-take, take, drop, get_or, refl, sym, arith}
use Rattle.std.specs.List.{All, count_by}
use Rattle.std.proofs.Math.Seq.{split_at}
use Rattle.std.proofs.lemmas.List.{get_or-take}
use Rattle.std.proofs.lemmas.List.Elements.{All-from_get_or}
use Rattle.std.proofs.lemmas.List.Splits.{slice_split_at, slice_split_none, length-slice_split}
use Rattle.std.proofs.lemmas.Slice.{between_to_end}
use Rattle.memchr.specs.Find.{IsFirstByte, is_byte, Nowhere, Passes}
use Rattle.cas_script.specs.Text.{pieces}

-- a test that is not true is false
pub false_from_not : (b : Bool) → ¬ (b ≡ true) → b ≡ false
false_from_not true not = absurd (not refl)
false_from_not false not = refl

-- bytes among which no mark stands
none_before : (mark : ℕ) (text : List ℕ) (at : ℕ) → Nowhere (Passes (is_byte mark) text) 0 at → at ≤ length text
    → All (λ b. (b == mark) ≡ false) (take at text)
none_before mark text at none fits =
    All-from_get_or (λ b. (b == mark) ≡ false) (take at text) 0 (λ i below.
    let short : i < at = omega (arith, length-take at text) in
    let same = get_or-take at text i 0 short in
    rw same (false_from_not _ (none i (omega arith) short)))

pub pieces_at : (mark : ℕ) (text : List ℕ) (at : ℕ) → IsFirstByte (is_byte mark) text (Some at)
    → pieces mark text ≡ take at text ∷ pieces mark (drop (suc at) text)
pieces_at mark text at first =
    let high = first.0.high in
    ap (pieces mark) (split_at text at 0 high)
    ∙ slice_split_at (λ b. b == mark) (take at text) (get_or text at 0) (drop (suc at) text)
    (none_before mark text at first.0.before (omega arith)) first.1

pub pieces_none : (mark : ℕ) (text : List ℕ) → IsFirstByte (is_byte mark) text None → pieces mark text ≡ text ∷ []
pieces_none mark text none =
    slice_split_none (λ b. b == mark) text (All-from_get_or (λ b. (b == mark) ≡ false) text 0 (λ i below.
    false_from_not _ (none i (omega arith) below)))

-- what stands after a byte, as a slice to the end
pub to_end : (mark : ℕ) (text : List ℕ) (at : ℕ)
    → take at text ∷ pieces mark (drop (suc at) text) ≡ take at text ∷ pieces mark (slice_range text (at + 1) (length text))
to_end mark text at =
    let next : suc at ≡ at + 1 = omega arith in
    ap (λ n. take at text ∷ pieces mark (drop n text)) next
    ∙ ap (λ rest. take at text ∷ pieces mark rest) (sym (between_to_end text (at + 1) (length text) (omega arith)))

-- the number of pieces
pub count_is : (mark : ℕ) (text : List ℕ) → count_by (λ b. b == mark) text + 1 ≡ length (pieces mark text)
count_is mark text = sym (length-slice_split (λ b. b == mark) text)
