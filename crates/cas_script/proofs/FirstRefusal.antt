-- A text is refused at one line, for one reason.
use Rattle.std.proofs.Common.{◌≡◌, ◌⊎◌, inl, inr, ◌∙◌, sym, ap, subst, ℕ, ◌+◌, List, [], ◌∷◌, ◌++◌, map, length, Ok, Err, refl}
use Rattle.std.specs.declared.option.Option.{Option}
use Rattle.std.specs.declared.result.Result.{Result}
use Rattle.cas_model.specs.declared.digest.Digest.{Digest}
use Rattle.cas_script.specs.declared.script.Session.{Session}
use Rattle.cas_script.specs.declared.verb.Verb.{Verb}
use Rattle.cas_script.specs.declared.verb.Verb.TheVariants as verb
use Rattle.cas_script.specs.declared.error.LineKind.{LineKind}
use Rattle.cas_script.specs.declared.error.LineKind.TheVariants as kinds
use Rattle.cas_script.specs.declared.error.ScriptError.{ScriptError}
use Rattle.cas_script.specs.declared.error.ScriptError.TheVariants as errors
use Rattle.cas_script.specs.Verbs.{count_check}
use Rattle.cas_script.specs.Arguments.{IsNumber, IsNoBack, IsNoName, IsKey, IsNoKey, IsData, IsNoData, AreNoNames}
use Rattle.cas_script.specs.Lines.{stored_by, AreNoArguments}
use Rattle.cas_script.specs.Grammar.{ReadsLines}
use Rattle.cas_script.specs.FirstRefused.{last_lines, Then, session_check, bare_check, place_check, IsRefusedVerb, IsRefusedCall, Unknown, Opening, Speaking, IsRefusedLine, IsRefusedAt, OnLine}
use Rattle.cas_script.proofs.Names.{back_one, no_name, no_key, no_data}
use Rattle.cas_script.proofs.LineForms.{verb_one, no_session_word}
use Rattle.cas_script.proofs.Refused.{reads_one, lines_refused}

-- digits that are refused write no number, or one at which nothing was stored
no_back_cases : (kind : LineKind) (stored : List (Option Digest)) (digits : List ℕ) → IsNoBack stored digits kind
    → ((kind ≡ kinds.BadId) × ((number : ℕ) → ¬ IsNumber digits number)) ⊎ ((kind ≡ kinds.BadReference) × ((number : ℕ) × IsNumber digits number))
no_back_cases kinds.BadId stored digits bad = inl (refl, bad)
no_back_cases kinds.BadReference stored digits bad = inr (refl, (bad.0, bad.1))
no_back_cases kinds.BadVerb stored digits bad = absurd bad
no_back_cases kinds.BadArguments stored digits bad = absurd bad
no_back_cases kinds.BadData stored digits bad = absurd bad
no_back_cases kinds.NoSession stored digits bad = absurd bad
no_back_cases kinds.TooManySessions stored digits bad = absurd bad
no_back_cases kinds.TooManyLines stored digits bad = absurd bad
no_back_cases kinds.TooManyRefs stored digits bad = absurd bad

no_back_one : (j k : LineKind) (stored : List (Option Digest)) (xs ys : List ℕ) → xs ≡ ys → IsNoBack stored xs j → IsNoBack stored ys k → j ≡ k
no_back_one j k stored xs ys same bad also =
    elim (no_back_cases j stored xs bad) [
      | inl none ↦ elim (no_back_cases k stored ys also) [
        | inl other ↦ none.0 ∙ sym other.0
        | inr number ↦ absurd (none.1 number.1.0 (subst (λ ds. IsNumber ds number.1.0) (sym same) number.1.1))
      ]
      | inr number ↦ elim (no_back_cases k stored ys also) [
        | inl none ↦ absurd (none.1 number.1.0 (subst (λ ds. IsNumber ds number.1.0) same number.1.1))
        | inr other ↦ number.0 ∙ sym other.0
      ]
    ]

no_name_one : (stored : List (Option Digest)) (token : List ℕ) (j k : LineKind) → IsNoName stored token j → IsNoName stored token k → j ≡ k
no_name_one stored token j k bad also =
    elim bad [
      | inl form ↦ elim also [
        | inl other ↦ form.1 ∙ sym other.1
        | inr back ↦ absurd (form.0.no_back back.0 back.1)
      ]
      | inr back ↦ elim also [
        | inl form ↦ absurd (form.0.no_back back.0 back.1)
        | inr other ↦ no_back_one j k stored back.0 other.0 (back_one token back.0 other.0 back.1 other.1) back.2 other.2
      ]
    ]

no_names_one : (stored : List (Option Digest)) (tokens : List (List ℕ)) (j k : LineKind) → AreNoNames stored tokens j → AreNoNames stored tokens k
    → j ≡ k
no_names_one stored [] j k bad also = absurd bad
no_names_one stored (token ∷ tokens) j k bad also =
    elim bad [
      | inl here ↦ elim also [
        | inl other ↦ no_name_one stored token j k here other
        | inr later ↦ absurd (no_name stored token j later.0.0 here later.0.1)
      ]
      | inr later ↦ elim also [
        | inl here ↦ absurd (no_name stored token k later.0.0 here later.0.1)
        | inr other ↦ no_names_one stored tokens j k later.1 other.1
      ]
    ]

-- data and then references
no_object_one : (stored : List (Option Digest)) (token : List ℕ) (tokens : List (List ℕ)) (j k : LineKind)
    → IsNoData token j ⊎ (((bytes : List ℕ) × IsData token bytes) × AreNoNames stored tokens j)
    → IsNoData token k ⊎ (((bytes : List ℕ) × IsData token bytes) × AreNoNames stored tokens k) → j ≡ k
no_object_one stored token tokens j k bad also =
    elim bad [
      | inl here ↦ elim also [
        | inl other ↦ here.0 ∙ sym other.0
        | inr later ↦ absurd (no_data token j later.0.0 here later.0.1)
      ]
      | inr later ↦ elim also [
        | inl here ↦ absurd (no_data token k later.0.0 here later.0.1)
        | inr other ↦ no_names_one stored tokens j k later.1 other.1
      ]
    ]

-- a key and then something else
after_key_one : (stored : List (Option Digest)) (token : List ℕ) (rest : LineKind → Type 0) (j k : LineKind) → (rest j → rest k → j ≡ k)
    → IsNoKey stored token j ⊎ (((key : Digest) × IsKey stored token key) × rest j)
    → IsNoKey stored token k ⊎ (((key : Digest) × IsKey stored token key) × rest k) → j ≡ k
after_key_one stored token rest j k one bad also =
    elim bad [
      | inl here ↦ elim also [
        | inl other ↦ no_name_one stored token j k here.0 other.0
        | inr later ↦ absurd (no_key stored token j later.0.0 here later.0.1)
      ]
      | inr later ↦ elim also [
        | inl here ↦ absurd (no_key stored token k later.0.0 here later.0.1)
        | inr other ↦ one later.1 other.1
      ]
    ]

no_arguments_one : (stored : List (Option Digest)) (v : Verb) (arguments : List (List ℕ)) (j k : LineKind) → AreNoArguments stored v arguments j
    → AreNoArguments stored v arguments k → j ≡ k
no_arguments_one stored verb.Store [] j k bad also = absurd bad
no_arguments_one stored verb.Store (first ∷ rest) j k bad also = no_object_one stored first rest j k bad also
no_arguments_one stored verb.Load [] j k bad also = absurd bad
no_arguments_one stored verb.Load (first ∷ rest) j k bad also = no_name_one stored first j k bad also
no_arguments_one stored verb.Put [] j k bad also = absurd bad
no_arguments_one stored verb.Put (first ∷ []) j k bad also = absurd bad
no_arguments_one stored verb.Put (first ∷ second ∷ rest) j k bad also =
    after_key_one stored first (IsNoName stored second) j k (no_name_one stored second j k) bad also
no_arguments_one stored verb.Get [] j k bad also = absurd bad
no_arguments_one stored verb.Get (first ∷ rest) j k bad also = no_name_one stored first j k bad.0 also.0
no_arguments_one stored verb.Act [] j k bad also = absurd bad
no_arguments_one stored verb.Act (first ∷ []) j k bad also = absurd bad
no_arguments_one stored verb.Act (first ∷ second ∷ rest) j k bad also =
    after_key_one stored first (λ kind. IsNoData second kind ⊎ (((bytes : List ℕ) × IsData second bytes) × AreNoNames stored rest kind)) j k
    (no_object_one stored second rest j k) bad also

then_one : (r : Result (Unit {0}) LineKind) (rest : LineKind → Type 0) (j k : LineKind) → (rest j → rest k → j ≡ k) → Then r rest j → Then r rest k
    → j ≡ k
then_one (Ok x) rest j k one bad also = one bad also
then_one (Err first) rest j k one bad also = bad ∙ sym also

verb_kind_one : (sessions : List Session) (v : Verb) (arguments : List (List ℕ)) (j k : LineKind) → IsRefusedVerb sessions v arguments j
    → IsRefusedVerb sessions v arguments k → j ≡ k
verb_kind_one sessions v arguments j k bad also =
    then_one (place_check sessions) (Then (count_check v (length arguments)) (AreNoArguments (map stored_by (last_lines sessions)) v arguments)) j k
    (then_one (count_check v (length arguments)) (AreNoArguments (map stored_by (last_lines sessions)) v arguments) j k
    (no_arguments_one (map stored_by (last_lines sessions)) v arguments j k)) bad also

call_kind_one : (sessions : List Session) (first : List ℕ) (arguments : List (List ℕ)) (j k : LineKind) → IsRefusedCall sessions first arguments j
    → IsRefusedCall sessions first arguments k → j ≡ k
call_kind_one sessions first arguments j k (Unknown session none is) (Unknown session' none' also) = is ∙ sym also
call_kind_one sessions first arguments j k (Unknown session none is) (Opening word also) = absurd (session word)
call_kind_one sessions first arguments j k (Unknown session none is) (Speaking v word also) = absurd (none v word)
call_kind_one sessions first arguments j k (Opening word is) (Unknown session none also) = absurd (session word)
call_kind_one sessions first arguments j k (Opening word is) (Opening word' also) =
    then_one (session_check sessions) (Then (bare_check arguments) (λ _. ⊥)) j k
    (then_one (bare_check arguments) (λ _. ⊥) j k (λ bad _. absurd bad)) is also
call_kind_one sessions first arguments j k (Opening word is) (Speaking v word' also) = absurd (no_session_word v (sym word ∙ word'))
call_kind_one sessions first arguments j k (Speaking v word is) (Unknown session none also) = absurd (none v word)
call_kind_one sessions first arguments j k (Speaking v word is) (Opening word' also) = absurd (no_session_word v (sym word' ∙ word))
call_kind_one sessions first arguments j k (Speaking v word is) (Speaking w word' also) =
    let same = verb_one w v (sym word' ∙ word) in
    verb_kind_one sessions v arguments j k is (subst (λ u. IsRefusedVerb sessions u arguments k) same also)

line_kind_one : (sessions : List Session) (line : List ℕ) (j k : LineKind) → IsRefusedLine sessions line j → IsRefusedLine sessions line k → j ≡ k
line_kind_one sessions line j k bad also =
    let tokens : also.first ∷ also.arguments ≡ bad.first ∷ bad.arguments = sym also.tokens ∙ bad.tokens in
    let first : also.first ≡ bad.first = cc (tokens) in
    let arguments : also.arguments ≡ bad.arguments = cc (tokens) in
    call_kind_one sessions bad.first bad.arguments j k bad.refused
    (subst (λ w. IsRefusedCall sessions w bad.arguments k) first
    (subst (λ list. IsRefusedCall sessions also.first list k) arguments also.refused))

-- two places in one list are one, or one is before the other
data Places {X : Type 0} (xs : List X) (x : X) (ys : List X) (y : X) : Type 0 where
  Same : xs ≡ ys → x ≡ y → Places xs x ys y
  Earlier : (between : List X) → ys ≡ xs ++ x ∷ between → Places xs x ys y
  Later : (between : List X) → xs ≡ ys ++ y ∷ between → Places xs x ys y

places_next : {X : Type 0} (a b : X) (xs : List X) (x : X) (ys : List X) (y : X) → a ≡ b → Places xs x ys y → Places (a ∷ xs) x (b ∷ ys) y
places_next a b xs x ys y head (Same same is) = Same (cc (head, same)) is
places_next a b xs x ys y head (Earlier between is) = Earlier between (cc (head, is))
places_next a b xs x ys y head (Later between is) = Later between (cc (head, is))

places : {X : Type 0} (xs : List X) (x : X) (us : List X) (ys : List X) (y : X) (vs : List X) → xs ++ x ∷ us ≡ ys ++ y ∷ vs → Places xs x ys y
places [] x us [] y vs same = Same refl (cc)
places [] x us (b ∷ ys) y vs same =
    let head : x ≡ b = cc in
    Earlier ys (ap (λ z. z ∷ ys) (sym head))
places (a ∷ xs) x us [] y vs same =
    let head : a ≡ y = cc in
    Later xs (ap (λ z. z ∷ xs) head)
places (a ∷ xs) x us (b ∷ ys) y vs same =
    let head : a ≡ b = cc in
    let rest : xs ++ x ∷ us ≡ ys ++ y ∷ vs = cc in
    places_next a b xs x ys y head (places xs x us ys y vs rest)

one_place : (text : List ℕ) (m n : ℕ) (j k : LineKind) (is : IsRefusedAt text m j) (also : IsRefusedAt text n k)
    → Places is.before is.line also.before also.line → (m ≡ n) × (j ≡ k)
one_place text m n j k is also (Same same line) =
    let sessions = reads_one is.before is.sessions also.sessions is.reads (subst (λ list. ReadsLines list also.sessions) (sym same) also.reads) in
    let other = subst (λ s. IsRefusedLine s is.line k) (sym sessions) (subst (λ l. IsRefusedLine also.sessions l k) (sym line) also.refused) in
    (is.place ∙ ap (λ list. length list + 1) same ∙ sym also.place, line_kind_one is.sessions is.line j k is.refused other)
one_place text m n j k is also (Earlier between same) =
    absurd (lines_refused is.before is.line between is.sessions also.sessions j is.reads is.refused
    (subst (λ list. ReadsLines list also.sessions) same also.reads))
one_place text m n j k is also (Later between same) =
    absurd (lines_refused also.before also.line between also.sessions is.sessions k also.reads also.refused
    (subst (λ list. ReadsLines list is.sessions) same is.reads))

pub refused_one : (text : List ℕ) (m n : ℕ) (j k : LineKind) → IsRefusedAt text m j → IsRefusedAt text n k → (m ≡ n) × (j ≡ k)
refused_one text m n j k is also =
    one_place text m n j k is also (places is.before is.line is.after also.before also.line also.after (sym is.lines ∙ also.lines))

pub only_refusal : (text : List ℕ) (error : ScriptError) → OnLine (IsRefusedAt text) error
    → OnLine (λ number kind. (n : ℕ) (k : LineKind) → IsRefusedAt text n k → (n ≡ number) × (k ≡ kind)) error
only_refusal text (errors.Line number kind) is = λ n k also. refused_one text n number k kind also is
only_refusal text errors.TooLong is = tt
only_refusal text errors.Memory is = tt
