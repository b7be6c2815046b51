-- Numbers in decimal digits, without a sign or a leading zero.
use Rattle.std.proofs.Common.{◌≡◌, ◌≢◌, ℕ, zero, suc, ◌^◌, ◌<◌, ◌≤◌, List, [], ◌∷◌, true, Ok, Err, get_or, length, refl, ap, sym, subst, ◌∙◌, arith}
use Rattle.std.proofs.lemmas.Fmt.{IsAscii-decimal, decimal_injective, decimal_is_IsNumeral, decimal_digit, decimal_nonempty, decimal-digits_value, first_decimal, parse-decimal}
use Rattle.std.proofs.lemmas.Str.Parse.{IsNumeralModel, digit_at, numerals_by_value, parse_plain, tells_digits}
use Rattle.std.specs.Fmt.{decimal}
use Rattle.std.specs.Int.{IsInRange}
use Rattle.std.specs.Str.{IsAscii, IsUtf8}
use Rattle.std.proofs.lemmas.Str.{IsUtf8-from_ascii}
use Rattle.std.specs.Str.Parse.{AllDigits, ParsesUnsigned, digits_value}
use Rattle.std.specs.declared.result.Result.{Result}
use Rattle.cas_model.specs.Decimal.{IsNumberWithin, leads}

own : IsNumeralModel (AllDigits 10) (digits_value 10)
own = numerals_by_value (AllDigits 10) tells_digits

led : (text : List ℕ) → 0 < length text → 48 ≤ get_or text 0 0 → get_or text 0 0 ≤ 57 → (1 < length text → 49 ≤ get_or text 0 0) → leads text ≡ true
led [] some low high more = absurd (omega arith)
led (digit ∷ []) some low high more = grind arith
led (first ∷ next ∷ bytes) some low high more = let above : 49 ≤ first = more (omega arith) in grind arith

leads-low : (text : List ℕ) → leads text ≡ true → 48 ≤ get_or text 0 0
leads-low [] is = cc is
leads-low (digit ∷ []) is = grind arith
leads-low (first ∷ next ∷ bytes) is = grind arith

leads-more : (text : List ℕ) → leads text ≡ true → get_or text 0 0 ≡ 48 → length text ≡ 1
leads-more [] is zero_first = cc is
leads-more (digit ∷ []) is zero_first = refl
leads-more (first ∷ next ∷ bytes) is zero_first = absurd (grind arith)

-- a number's digits lead
zero-leads : leads (decimal 0) ≡ true
zero-leads = let digits : decimal 0 ≡ 48 ∷ [] = decimal_digit 0 (omega arith) in subst (λ (ds : List ℕ). leads ds ≡ true) (sym digits) refl

decimal-leads : (number : ℕ) → number < 2 ^ 64 → leads (decimal number) ≡ true
decimal-leads zero small = zero-leads
decimal-leads (suc number) small =
    let some : 0 < length (decimal (suc number)) = decimal_nonempty (suc number) small in
    let first : IsInRange 48 57 (get_or (decimal (suc number)) 0 0) = digit_at (decimal (suc number)) 0 (decimal_is_IsNumeral (suc number) small).0.1 some in
    let above : 48 < get_or (decimal (suc number)) 0 0 = first_decimal (suc number) (omega arith) small in
    led (decimal (suc number)) some first.0 first.1 (λ more. above)

-- a text that leads and was read as a number is this number
pub number-read : {E : Type 0} (text : List ℕ) (r : Result ℕ E) (number : ℕ) → leads text ≡ true → ParsesUnsigned 64 10 text r → r ≡ Ok number → text ≡ decimal number
number-read {E} text (Ok n) number lead parsed is =
    let low = leads-low text lead in
    let plain : get_or text 0 0 ≢ 43 = λ e. absurd (omega arith) in
    let good = parse_plain own {E = E} 64 text (Ok n) parsed plain in
    let same : n ≡ number = cc is in
    sym (ap decimal (sym same ∙ good.1) ∙ decimal-digits_value own text good.0.0 good.0.1 (leads-more text lead) good.0.2)
number-read text (Err e) number lead parsed is = cc is

-- a text that is a number leads, and is read as it
pub number-leads : (least most number : ℕ) (text : List ℕ) → most < 2 ^ 64 → IsNumberWithin least most text number → leads text ≡ true
number-leads least most number text small is =
    let high = is.high in
    subst (λ (ds : List ℕ). leads ds ≡ true) (sym is.digits) (decimal-leads number (omega arith))

pub number-parses : {E : Type 0} (least most number : ℕ) (text : List ℕ) (r : Result ℕ E) → most < 2 ^ 64 → IsNumberWithin least most text number → ParsesUnsigned 64 10 text r → r ≡ Ok number
number-parses least most number text r small is parsed =
    let high = is.high in
    parse-decimal 64 number text r (omega arith) (omega arith) is.digits parsed

-- and it is text
pub number-utf8 : (least most number : ℕ) (text : List ℕ) → most < 2 ^ 64 → IsNumberWithin least most text number → IsUtf8 text
number-utf8 least most number text small is =
    let high = is.high in
    IsUtf8-from_ascii text (subst IsAscii (sym is.digits) (IsAscii-decimal number (omega arith)))

-- a text is one number
pub number-one : (least most m n : ℕ) (text : List ℕ) → most < 2 ^ 64 → IsNumberWithin least most text m → IsNumberWithin least most text n → m ≡ n
number-one least most m n text small is also =
    let a = is.high in
    let b = also.high in
    decimal_injective m n (omega arith) (omega arith) (sym is.digits ∙ also.digits)
