-- What a line stands for is one thing, and not refused.
use Rattle.std.proofs.Common.{◌≡◌, inl, inr, ◌∙◌, sym, ap, subst, ℕ, ◌-◌, ◌≤◌, Bool, true, false, ◌==◌, nat_le, if◌then◌else◌, List, [], ◌∷◌, Ok, Err, length, slice_index, refl, arith}
use Rattle.std.specs.declared.option.Option.{Option}
use Rattle.std.specs.declared.result.Result.{Result}
use Rattle.std.specs.List.{join_with_byte}
use Rattle.std.proofs.lemmas.Bool.{leb-true, le-leb, eqb-true}
use Rattle.std.proofs.lemmas.List.Splits.{join_with_byte-slice_split}
use Rattle.cas_model.specs.declared.digest.Digest.{Digest}
use Rattle.cas_script.specs.declared.script.Line.{Line}
use Rattle.cas_script.specs.declared.script.Line.TheVariants.{Store, Load, Put, Get, Act}
use Rattle.cas_script.specs.declared.verb.Verb.{Verb}
use Rattle.cas_script.specs.declared.verb.Verb.TheVariants as verb
use Rattle.cas_script.specs.declared.error.LineKind.{LineKind}
use Rattle.cas_script.specs.declared.error.LineKind.TheVariants.{BadArguments, TooManyRefs}
use Rattle.cas_script.specs.Text.{tokens_of}
use Rattle.cas_script.specs.Verbs.{verb_word, session_word, leading, fits_count, count_check}
use Rattle.cas_script.specs.Arguments.{IsName, IsNoName, IsKey, IsNoKey, IsData, AreNames}
use Rattle.cas_script.specs.Lines.{verb_of, AreArguments, IsLine, IsLineOf, AreNoArguments}
use Rattle.cas_script.proofs.Names.{name_one, no_name, key_one, no_key, data_one, no_data, names_one, no_names}

-- the verb whose word begins with this byte
verb_from : ℕ → Verb
verb_from b = if b == 115 then verb.Store else if b == 108 then verb.Load else if b == 112 then verb.Put else if b == 103 then verb.Get else verb.Act

verb_back : (v : Verb) → verb_from (slice_index (verb_word v) 0) ≡ v
unfolding verb_from
verb_back verb.Store = refl
verb_back verb.Load = refl
verb_back verb.Put = refl
verb_back verb.Get = refl
verb_back verb.Act = refl

-- verbs with one word are one
pub verb_one : (v w : Verb) → verb_word v ≡ verb_word w → v ≡ w
verb_one v w same = sym (verb_back v) ∙ ap (λ (s : List ℕ). verb_from (slice_index s 0)) same ∙ verb_back w

-- the word of a session is the word of no verb
pub no_session_word : (v : Verb) → session_word ≡ verb_word v → ⊥
no_session_word verb.Store same = absurd (omega (arith, ap (λ (s : List ℕ). slice_index s 1) same))
no_session_word verb.Load same = absurd (omega (arith, ap (λ (s : List ℕ). slice_index s 0) same))
no_session_word verb.Put same = absurd (omega (arith, ap (λ (s : List ℕ). slice_index s 0) same))
no_session_word verb.Get same = absurd (omega (arith, ap (λ (s : List ℕ). slice_index s 0) same))
no_session_word verb.Act same = absurd (omega (arith, ap (λ (s : List ℕ). slice_index s 0) same))

-- an error is no success
abbrev pub refused : LineKind → Result (Unit {0}) LineKind
refused kind = Err kind

abbrev pub pass : Result (Unit {0}) LineKind
pass = Ok tt

pub err_not_ok : (kind : LineKind) → refused kind ≡ pass → ⊥
err_not_ok kind same = cc

passed : (b c : Bool) → (if b then (if c then pass else refused TooManyRefs) else refused BadArguments) ≡ pass
    → (b ≡ true) × (c ≡ true)
passed true true same = (refl, refl)
passed true false same = absurd (err_not_ok TooManyRefs same)
passed false c same = absurd (err_not_ok BadArguments same)

-- a number of arguments that is not refused
pub counted : (v : Verb) (n : ℕ) → count_check v n ≡ Ok tt → (fits_count v n ≡ true) × (n - leading v ≤ 65535)
counted v n same =
    let both = passed (fits_count v n) (nat_le (n - leading v) 65535) same in
    (both.0, leb-true _ _ both.1)

pub count_from : (v : Verb) (n : ℕ) → fits_count v n ≡ true → n - leading v ≤ 65535 → count_check v n ≡ Ok tt
count_from v n fits few = rw (fits, le-leb _ _ few) refl

the_one : (mark : ℕ) (parts : List (List ℕ)) (text : List ℕ) → length parts ≡ 1 → join_with_byte mark parts ≡ text → parts ≡ text ∷ []
the_one mark [] text one joined = absurd (omega arith)
the_one mark (part ∷ []) text one joined = ap (λ p. p ∷ []) joined
the_one mark (part ∷ next ∷ rest) text one joined = absurd (omega arith)

-- a text with one token is that token
pub one_token : (text : List ℕ) → length (tokens_of text) ≡ 1 → tokens_of text ≡ text ∷ []
one_token text one = the_one 32 (tokens_of text) text one (join_with_byte-slice_split 32 text)

-- a line whose one token is this word is this word
pub bare_line : (line word : List ℕ) → tokens_of line ≡ word ∷ [] → line ≡ word
bare_line line word tokens = sym (join_with_byte-slice_split 32 line) ∙ ap (join_with_byte 32) tokens

store_one : (stored : List (Option Digest)) (arguments : List (List ℕ)) (refs : List Digest) (bytes : List ℕ) (refs' : List Digest) (bytes' : List ℕ)
    → AreArguments stored arguments (Store refs bytes) → AreArguments stored arguments (Store refs' bytes') → Store refs bytes ≡ Store refs' bytes'
store_one stored [] refs bytes refs' bytes' is also = absurd is
store_one stored (first ∷ rest) refs bytes refs' bytes' is also =
    let a = data_one first bytes bytes' is.0 also.0 in
    let b = names_one stored rest refs refs' is.1.1 also.1.1 in
    cc

load_one : (stored : List (Option Digest)) (arguments : List (List ℕ)) (digest digest' : Digest)
    → AreArguments stored arguments (Load digest) → AreArguments stored arguments (Load digest') → Load digest ≡ Load digest'
load_one stored [] digest digest' is also = absurd is
load_one stored (first ∷ []) digest digest' is also = ap Load (name_one stored first digest digest' is also)
load_one stored (first ∷ second ∷ rest) digest digest' is also = absurd is

put_one : (stored : List (Option Digest)) (arguments : List (List ℕ)) (key value key' value' : Digest)
    → AreArguments stored arguments (Put key value) → AreArguments stored arguments (Put key' value') → Put key value ≡ Put key' value'
put_one stored [] key value key' value' is also = absurd is
put_one stored (first ∷ []) key value key' value' is also = absurd is
put_one stored (first ∷ second ∷ []) key value key' value' is also =
    let a = key_one stored first key key' is.0 also.0 in
    let b = name_one stored second value value' is.1 also.1 in
    cc
put_one stored (first ∷ second ∷ third ∷ rest) key value key' value' is also = absurd is

get_one : (stored : List (Option Digest)) (arguments : List (List ℕ)) (key key' : Digest)
    → AreArguments stored arguments (Get key) → AreArguments stored arguments (Get key') → Get key ≡ Get key'
get_one stored [] key key' is also = absurd is
get_one stored (first ∷ []) key key' is also = ap Get (key_one stored first key key' is also)
get_one stored (first ∷ second ∷ rest) key key' is also = absurd is

act_one : (stored : List (Option Digest)) (arguments : List (List ℕ)) (key : Digest) (refs : List Digest) (bytes : List ℕ)
    (key' : Digest) (refs' : List Digest) (bytes' : List ℕ)
    → AreArguments stored arguments (Act key refs bytes) → AreArguments stored arguments (Act key' refs' bytes') → Act key refs bytes ≡ Act key' refs' bytes'
act_one stored [] key refs bytes key' refs' bytes' is also = absurd is
act_one stored (first ∷ []) key refs bytes key' refs' bytes' is also = absurd is
act_one stored (first ∷ second ∷ rest) key refs bytes key' refs' bytes' is also =
    let a = key_one stored first key key' is.0 also.0 in
    let b = data_one second bytes bytes' is.1 also.1 in
    let d = names_one stored rest refs refs' is.2.1 also.2.1 in
    cc

-- the same arguments of the same verb are one line
pub arguments_one : (stored : List (Option Digest)) (arguments : List (List ℕ)) (a b : Line) → verb_of a ≡ verb_of b → AreArguments stored arguments a → AreArguments stored arguments b → a ≡ b
arguments_one stored arguments (Store refs bytes) (Store refs' bytes') same is also = store_one stored arguments refs bytes refs' bytes' is also
arguments_one stored arguments (Store refs bytes) (Load digest') same is also = cc same
arguments_one stored arguments (Store refs bytes) (Put key' value') same is also = cc same
arguments_one stored arguments (Store refs bytes) (Get key') same is also = cc same
arguments_one stored arguments (Store refs bytes) (Act key' refs' bytes') same is also = cc same
arguments_one stored arguments (Load digest) (Store refs' bytes') same is also = cc same
arguments_one stored arguments (Load digest) (Load digest') same is also = load_one stored arguments digest digest' is also
arguments_one stored arguments (Load digest) (Put key' value') same is also = cc same
arguments_one stored arguments (Load digest) (Get key') same is also = cc same
arguments_one stored arguments (Load digest) (Act key' refs' bytes') same is also = cc same
arguments_one stored arguments (Put key value) (Store refs' bytes') same is also = cc same
arguments_one stored arguments (Put key value) (Load digest') same is also = cc same
arguments_one stored arguments (Put key value) (Put key' value') same is also = put_one stored arguments key value key' value' is also
arguments_one stored arguments (Put key value) (Get key') same is also = cc same
arguments_one stored arguments (Put key value) (Act key' refs' bytes') same is also = cc same
arguments_one stored arguments (Get key) (Store refs' bytes') same is also = cc same
arguments_one stored arguments (Get key) (Load digest') same is also = cc same
arguments_one stored arguments (Get key) (Put key' value') same is also = cc same
arguments_one stored arguments (Get key) (Get key') same is also = get_one stored arguments key key' is also
arguments_one stored arguments (Get key) (Act key' refs' bytes') same is also = cc same
arguments_one stored arguments (Act key refs bytes) (Store refs' bytes') same is also = cc same
arguments_one stored arguments (Act key refs bytes) (Load digest') same is also = cc same
arguments_one stored arguments (Act key refs bytes) (Put key' value') same is also = cc same
arguments_one stored arguments (Act key refs bytes) (Get key') same is also = cc same
arguments_one stored arguments (Act key refs bytes) (Act key' refs' bytes') same is also = act_one stored arguments key refs bytes key' refs' bytes' is also

-- a text is one line
pub line_one : (stored : List (Option Digest)) (text : List ℕ) (a b : Line) → IsLine stored text a → IsLine stored text b → a ≡ b
line_one stored text a b is also =
    let tokens = sym is.tokens ∙ also.tokens in
    let words : verb_word (verb_of a) ≡ verb_word (verb_of b) = cc (tokens) in
    let arguments : also.arguments ≡ is.arguments = cc (tokens) in
    arguments_one stored is.arguments a b (verb_one _ _ words) is.are (subst (λ list. AreArguments stored list b) arguments also.are)

-- a line's arguments are as many as its word may have
pub line_counted : (stored : List (Option Digest)) (arguments : List (List ℕ)) (line : Line) → AreArguments stored arguments line
    → count_check (verb_of line) (length arguments) ≡ Ok tt
line_counted stored [] (Store refs bytes) is = absurd is
line_counted stored (first ∷ rest) (Store refs bytes) is =
    let few = is.1.0 in
    count_from verb.Store (length (first ∷ rest)) (le-leb 1 (length (first ∷ rest)) (omega arith)) (omega arith)
line_counted stored [] (Load digest) is = absurd is
line_counted stored (first ∷ []) (Load digest) is = refl
line_counted stored (first ∷ second ∷ rest) (Load digest) is = absurd is
line_counted stored [] (Put key value) is = absurd is
line_counted stored (first ∷ []) (Put key value) is = absurd is
line_counted stored (first ∷ second ∷ []) (Put key value) is = refl
line_counted stored (first ∷ second ∷ third ∷ rest) (Put key value) is = absurd is
line_counted stored [] (Get key) is = absurd is
line_counted stored (first ∷ []) (Get key) is = refl
line_counted stored (first ∷ second ∷ rest) (Get key) is = absurd is
line_counted stored [] (Act key refs bytes) is = absurd is
line_counted stored (first ∷ []) (Act key refs bytes) is = absurd is
line_counted stored (first ∷ second ∷ rest) (Act key refs bytes) is =
    let few = is.2.0 in
    count_from verb.Act (length (first ∷ second ∷ rest)) (le-leb 2 (length (first ∷ second ∷ rest)) (omega arith)) (omega arith)

-- arguments of which one is refused are those of no line
pub no_arguments : (stored : List (Option Digest)) (arguments : List (List ℕ)) (line : Line) (kind : LineKind)
    → AreNoArguments stored (verb_of line) arguments kind → AreArguments stored arguments line → ⊥
no_arguments stored [] (Store refs bytes) kind bad is = is
no_arguments stored (first ∷ rest) (Store refs bytes) kind bad is =
    elim bad [
      | inl here ↦ no_data first kind bytes here is.0
      | inr later ↦ no_names stored rest kind refs later.1 is.1.1
    ]
no_arguments stored [] (Load digest) kind bad is = is
no_arguments stored (first ∷ []) (Load digest) kind bad is = no_name stored first kind digest bad is
no_arguments stored (first ∷ second ∷ rest) (Load digest) kind bad is = is
no_arguments stored [] (Put key value) kind bad is = is
no_arguments stored (first ∷ []) (Put key value) kind bad is = is
no_arguments stored (first ∷ second ∷ []) (Put key value) kind bad is =
    elim bad [
      | inl here ↦ no_key stored first kind key here is.0
      | inr later ↦ no_name stored second kind value later.1 is.1
    ]
no_arguments stored (first ∷ second ∷ third ∷ rest) (Put key value) kind bad is = is
no_arguments stored [] (Get key) kind bad is = is
no_arguments stored (first ∷ []) (Get key) kind bad is = no_key stored first kind key bad is
no_arguments stored (first ∷ second ∷ rest) (Get key) kind bad is = is
no_arguments stored [] (Act key refs bytes) kind bad is = is
no_arguments stored (first ∷ []) (Act key refs bytes) kind bad is = is
no_arguments stored (first ∷ second ∷ rest) (Act key refs bytes) kind bad is =
    elim bad [
      | inl here ↦ no_key stored first kind key here is.0
      | inr later ↦ elim later.1 [
        | inl there ↦ no_data second kind bytes there is.1
        | inr last ↦ no_names stored rest kind refs last.1 is.2.1
      ]
    ]

-- the arguments of each verb, from the tokens that were cut
pub load_from : (stored : List (Option Digest)) (rest : List ℕ) (digest : Digest) → count_check verb.Load (length (tokens_of rest)) ≡ Ok tt
    → IsName stored rest digest → IsLineOf stored verb.Load (tokens_of rest) (Load digest)
load_from stored rest digest count is =
    let one = one_token rest (eqb-true _ 1 (counted verb.Load _ count).0) in
    record { word = refl; are = subst (λ list. AreArguments stored list (Load digest)) (sym one) is }

pub get_from : (stored : List (Option Digest)) (rest : List ℕ) (key : Digest) → count_check verb.Get (length (tokens_of rest)) ≡ Ok tt
    → IsKey stored rest key → IsLineOf stored verb.Get (tokens_of rest) (Get key)
get_from stored rest key count is =
    let one = one_token rest (eqb-true _ 1 (counted verb.Get _ count).0) in
    record { word = refl; are = subst (λ list. AreArguments stored list (Get key)) (sym one) is }

pub no_load : (stored : List (Option Digest)) (rest : List ℕ) (kind : LineKind) → count_check verb.Load (length (tokens_of rest)) ≡ Ok tt
    → IsNoName stored rest kind → AreNoArguments stored verb.Load (tokens_of rest) kind
no_load stored rest kind count bad =
    let one = one_token rest (eqb-true _ 1 (counted verb.Load _ count).0) in
    subst (λ list. AreNoArguments stored verb.Load list kind) (sym one) bad

pub no_get : (stored : List (Option Digest)) (rest : List ℕ) (kind : LineKind) → count_check verb.Get (length (tokens_of rest)) ≡ Ok tt
    → IsNoKey stored rest kind → AreNoArguments stored verb.Get (tokens_of rest) kind
no_get stored rest kind count bad =
    let one = one_token rest (eqb-true _ 1 (counted verb.Get _ count).0) in
    subst (λ list. AreNoArguments stored verb.Get list kind) (sym one) bad

-- the second of two tokens has no space
pub second_of : (rest first second : List ℕ) → count_check verb.Put (length (tokens_of rest)) ≡ Ok tt
    → tokens_of rest ≡ first ∷ tokens_of second → tokens_of rest ≡ first ∷ second ∷ []
second_of rest first second count tokens =
    let two = eqb-true (length (tokens_of rest)) 2 (counted verb.Put _ count).0 in
    let long = ap length tokens in
    let one : length (tokens_of second) ≡ 1 = omega arith in
    tokens ∙ ap (λ list. first ∷ list) (one_token second one)

pub put_from : (stored : List (Option Digest)) (rest first second : List ℕ) (key value : Digest)
    → count_check verb.Put (length (tokens_of rest)) ≡ Ok tt → tokens_of rest ≡ first ∷ tokens_of second
    → IsKey stored first key → IsName stored second value → IsLineOf stored verb.Put (tokens_of rest) (Put key value)
put_from stored rest first second key value count tokens is also = record {
  word = refl;
  are = subst (λ list. AreArguments stored list (Put key value)) (sym (second_of rest first second count tokens)) (is, also);
}

pub no_put : (stored : List (Option Digest)) (rest first second : List ℕ) (key : Digest) (kind : LineKind)
    → count_check verb.Put (length (tokens_of rest)) ≡ Ok tt → tokens_of rest ≡ first ∷ tokens_of second
    → IsKey stored first key → IsNoName stored second kind → AreNoArguments stored verb.Put (tokens_of rest) kind
no_put stored rest first second key kind count tokens is bad =
    subst (λ list. AreNoArguments stored verb.Put list kind) (sym (second_of rest first second count tokens)) (inr ((key, is), bad))

pub act_from : (stored : List (Option Digest)) (rest first more second : List ℕ) (tokens : List (List ℕ)) (key : Digest)
    (refs : List Digest) (bytes : List ℕ)
    → count_check verb.Act (length (tokens_of rest)) ≡ Ok tt → tokens_of rest ≡ first ∷ tokens_of more → tokens_of more ≡ second ∷ tokens
    → IsKey stored first key → IsData second bytes → AreNames stored tokens refs
    → IsLineOf stored verb.Act (tokens_of rest) (Act key refs bytes)
act_from stored rest first more second tokens key refs bytes count one two is also are =
    let all = one ∙ ap (λ list. first ∷ list) two in
    let few : length (tokens_of rest) - 2 ≤ 65535 = (counted verb.Act _ count).1 in
    let long : length (tokens_of rest) ≡ length (first ∷ second ∷ tokens) = ap length all in
    record {
      word = refl;
      are = subst (λ list. AreArguments stored list (Act key refs bytes)) (sym all) (is, also, (omega arith, are));
    }
