-- What ids, references, keys and data stand for is one thing, and not refused.
use Rattle.std.proofs.Common.{◌≡◌, inl, inr, ◌∙◌, sym, ap, subst, ℕ, ◌-◌, ◌%◌, ◌<◌, List, [], ◌∷◌, length, take, drop, slice_index, slice_get, refl, arith}
use Rattle.std.specs.declared.option.Option.{Option}
use Rattle.std.proofs.lemmas.Bool.{both_ways}
use Rattle.hex.specs.Hex.{decode_of}
use Rattle.hex.proofs.HexLemmas.{decode_of-even, decode_pairs-ok}
use Rattle.cas_model.specs.declared.digest.Digest.{Digest}
use Rattle.cas_model.specs.declared.id.IdError.{IdError}
use Rattle.cas_model.specs.declared.id.IdError.TheVariants.{BadPrefix, BadLength, BadDigit}
use Rattle.cas_model.specs.Object.{key_digest}
use Rattle.cas_model.specs.Id.{IsIdOf, IsRefused, digits_of}
use Rattle.cas_script.specs.declared.error.LineKind.{LineKind}
use Rattle.cas_script.specs.declared.error.LineKind.TheVariants as kinds
use Rattle.cas_model.proofs.DecimalLemmas.{number-one}
use Rattle.cas_script.specs.Arguments.{IsNumber, HasStored, IsBackOf, IsNoBack, IsBack, IsName, IsNoName, IsAction, IsKey, IsNoKey, IsData, IsNoData, AreNames, AreNoNames}

-- what is refused as an id is the id of no digest
pub no_id : (error : IdError) (token : List ℕ) → IsRefused error token → (digest : Digest) → ¬ IsIdOf digest token
no_id BadPrefix token refused digest id = refused id.begins
no_id BadLength token refused digest id = refused.1 id.long
no_id (BadDigit k) token refused digest id =
    let long = id.long in
    let even : length (digits_of token) % 2 ≡ 0 = omega arith in
    let pairs = sym (decode_of-even (digits_of token) even) ∙ id.digits in
    let each = (decode_pairs-ok 0 (digits_of token) digest.bytes pairs).0 in
    let below : k < length (digits_of token) = omega (arith, refused.2) in
    both_ways _ refused.3 (each k 0 below)

-- the digest of these bytes
abbrev digest_from : List ℕ → Digest
digest_from bytes = record { bytes = bytes }

-- a text is the id of one digest
id_one : (a b : Digest) (token : List ℕ) → IsIdOf a token → IsIdOf b token → a ≡ b
id_one a b token is also =
    let bytes : a.bytes ≡ b.bytes = cc (is.digits, also.digits) in
    ap digest_from bytes

-- an id does not begin with `%`
id_not_back : (digest : Digest) (token digits : List ℕ) → IsIdOf digest token → IsBack token digits → ⊥
id_not_back digest token digits id back =
    let first = ap (λ (s : List ℕ). slice_index s 0) (sym (ap (take 10) back) ∙ id.begins.is) in
    absurd (omega (arith, first))

-- an id does not begin with `action:`
id_not_action : (digest : Digest) (token text : List ℕ) → IsIdOf digest token → IsAction token text → ⊥
id_not_action digest token text id action =
    let first = ap (λ (s : List ℕ). slice_index s 0) (sym (ap (take 10) action) ∙ id.begins.is) in
    absurd (omega (arith, first))

back_not_action : (token digits text : List ℕ) → IsBack token digits → IsAction token text → ⊥
back_not_action token digits text back action =
    let first = ap (λ (s : List ℕ). slice_index s 0) (sym back ∙ action) in
    absurd (omega (arith, first))

pub back_one : (token xs ys : List ℕ) → IsBack token xs → IsBack token ys → xs ≡ ys
back_one token xs ys is also = ap (drop 1) (sym is ∙ also)

action_one : (token xs ys : List ℕ) → IsAction token xs → IsAction token ys → xs ≡ ys
action_one token xs ys is also = ap (drop 7) (sym is ∙ also)

pub number_one : (xs ys : List ℕ) (m n : ℕ) → xs ≡ ys → IsNumber xs m → IsNumber ys n → m ≡ n
number_one xs ys m n same is also = number-one 1 99999 m n ys (omega arith) (subst (λ ds. IsNumber ds m) same is) also

stored_one : (stored : List (Option Digest)) (m n : ℕ) (a b : Digest) → m ≡ n → HasStored stored m a → HasStored stored n b → a ≡ b
stored_one stored m n a b same is also =
    let at = ap (λ k. slice_get stored (k - 1)) same in
    cc (at, is, also)

-- a token names one digest
pub name_one : (stored : List (Option Digest)) (token : List ℕ) (a b : Digest) → IsName stored token a → IsName stored token b → a ≡ b
name_one stored token a b is also =
    elim is [
      | inl id ↦ elim also [
        | inl other ↦ id_one a b token id other
        | inr back ↦ absurd (id_not_back a token back.0 id back.1)
      ]
      | inr back ↦ elim also [
        | inl id ↦ absurd (id_not_back b token back.0 id back.1)
        | inr other ↦
            let digits = back_one token back.0 other.0 back.1 other.1 in
            let number = number_one back.0 other.0 back.2.0 other.2.0 digits back.2.1 other.2.1 in
            stored_one stored back.2.0 other.2.0 a b number back.2.2 other.2.2
      ]
    ]

-- digits that are refused write the number of no line that has stored an object
no_back : (kind : LineKind) (stored : List (Option Digest)) (xs ys : List ℕ) (digest : Digest) → xs ≡ ys
    → IsNoBack stored xs kind → IsBackOf stored ys digest → ⊥
no_back kinds.BadId stored xs ys digest same bad is = bad is.0 (subst (λ ds. IsNumber ds is.0) (sym same) is.1)
no_back kinds.BadReference stored xs ys digest same bad is =
    let number = number_one xs ys bad.0 is.0 same bad.1 is.1 in
    bad.2 digest (ap (λ k. slice_get stored (k - 1)) number ∙ is.2)
no_back kinds.BadVerb stored xs ys digest same bad is = bad
no_back kinds.BadArguments stored xs ys digest same bad is = bad
no_back kinds.BadData stored xs ys digest same bad is = bad
no_back kinds.NoSession stored xs ys digest same bad is = bad
no_back kinds.TooManySessions stored xs ys digest same bad is = bad
no_back kinds.TooManyLines stored xs ys digest same bad is = bad
no_back kinds.TooManyRefs stored xs ys digest same bad is = bad

-- a token that is refused as a name names nothing
pub no_name : (stored : List (Option Digest)) (token : List ℕ) (kind : LineKind) (digest : Digest) → IsNoName stored token kind
    → IsName stored token digest → ⊥
no_name stored token kind digest bad is =
    elim bad [
      | inl form ↦ elim is [ inl id ↦ form.0.no_id digest id | inr back ↦ form.0.no_back back.0 back.1 ]
      | inr refused ↦ elim is [
        | inl id ↦ id_not_back digest token refused.0 id refused.1
        | inr back ↦ no_back kind stored refused.0 back.0 digest (back_one token refused.0 back.0 refused.1 back.1) refused.2 back.2
      ]
    ]

name_not_action : (stored : List (Option Digest)) (token text : List ℕ) (digest : Digest) → IsName stored token digest → IsAction token text → ⊥
name_not_action stored token text digest is action =
    elim is [
      | inl id ↦ id_not_action digest token text id action
      | inr back ↦ back_not_action token back.0 text back.1 action
    ]

-- a token is one key
pub key_one : (stored : List (Option Digest)) (token : List ℕ) (a b : Digest) → IsKey stored token a → IsKey stored token b → a ≡ b
key_one stored token a b is also =
    elim is [
      | inl name ↦ elim also [
        | inl other ↦ name_one stored token a b name other
        | inr action ↦ absurd (name_not_action stored token action.0 a name action.1)
      ]
      | inr action ↦ elim also [
        | inl name ↦ absurd (name_not_action stored token action.0 b name action.1)
        | inr other ↦ action.2 ∙ ap key_digest (action_one token action.0 other.0 action.1 other.1) ∙ sym other.2
      ]
    ]

pub no_key : (stored : List (Option Digest)) (token : List ℕ) (kind : LineKind) (digest : Digest) → IsNoKey stored token kind
    → IsKey stored token digest → ⊥
no_key stored token kind digest bad is =
    elim is [ inl name ↦ no_name stored token kind digest bad.0 name | inr action ↦ bad.1 action.0 action.1 ]

-- two texts that begin differently are not one
differ : (xs ys : List ℕ) → xs ≡ ys → slice_index xs 0 ≡ slice_index ys 0
differ xs ys same = ap (λ (s : List ℕ). slice_index s 0) same

-- a token is data of one kind
pub data_one : (token xs ys : List ℕ) → IsData token xs → IsData token ys → xs ≡ ys
data_one token xs ys is also =
    elim is [
      | inl none ↦ elim also [
        | inl other ↦ none.1 ∙ sym other.1
        | inr rest ↦ elim rest [
          | inl text ↦ let first = differ _ _ (sym none.0 ∙ text) in absurd (omega (arith, first))
          | inr digits ↦ let first = differ _ _ (sym none.0 ∙ digits.1) in absurd (omega (arith, first))
        ]
      ]
      | inr some ↦ elim some [
        | inl text ↦ elim also [
          | inl none ↦ let first = differ _ _ (sym text ∙ none.0) in absurd (omega (arith, first))
          | inr rest ↦ elim rest [
            | inl other ↦ ap (drop 2) (sym text ∙ other)
            | inr digits ↦ let first = differ _ _ (sym text ∙ digits.1) in absurd (omega (arith, first))
          ]
        ]
        | inr digits ↦ elim also [
          | inl none ↦ let first = differ _ _ (sym digits.1 ∙ none.0) in absurd (omega (arith, first))
          | inr rest ↦ elim rest [
            | inl text ↦ let first = differ _ _ (sym digits.1 ∙ text) in absurd (omega (arith, first))
            | inr other ↦
                let same = ap (λ (s : List ℕ). decode_of (drop 2 s)) (sym digits.1 ∙ other.1) in
                cc (same, digits.2, other.2)
          ]
        ]
      ]
    ]

pub no_data : (token : List ℕ) (kind : LineKind) (bytes : List ℕ) → IsNoData token kind → IsData token bytes → ⊥
no_data token kind bytes bad is = bad.1 bytes is

pub names_one : (stored : List (Option Digest)) (tokens : List (List ℕ)) (xs ys : List Digest) → AreNames stored tokens xs
    → AreNames stored tokens ys → xs ≡ ys
names_one stored [] [] [] is also = refl
names_one stored [] [] (y ∷ ys) is also = absurd also
names_one stored [] (x ∷ xs) ys is also = absurd is
names_one stored (token ∷ tokens) [] ys is also = absurd is
names_one stored (token ∷ tokens) (x ∷ xs) [] is also = absurd also
names_one stored (token ∷ tokens) (x ∷ xs) (y ∷ ys) is also =
    let first = name_one stored token x y is.0 also.0 in
    let rest = names_one stored tokens xs ys is.1 also.1 in
    cc

pub no_names : (stored : List (Option Digest)) (tokens : List (List ℕ)) (kind : LineKind) (xs : List Digest)
    → AreNoNames stored tokens kind → AreNames stored tokens xs → ⊥
no_names stored [] kind xs bad is = bad
no_names stored (token ∷ tokens) kind [] bad is = is
no_names stored (token ∷ tokens) kind (x ∷ xs) bad is =
    elim bad [
      | inl first ↦ no_name stored token kind x first is.0
      | inr later ↦ no_names stored tokens kind xs later.1 is.1
    ]
