-- Words and operands, one after the other.
use Rattle.std.proofs.Common.{◌≡◌, ℕ, zero, suc, ◌+◌, ◌-◌, ◌<◌, ◌≤◌, List, [], ◌∷◌, ◌++◌, Bool, true, false, cond, codes, Some, None, Ok, Err, length, take, drop, get_or, refl, ap, sym, subst, ◌∙◌, add-one, arith}
use Rattle.std.proofs.lemmas.List.{take_more, take_all, length-take-le, length_push}
use Rattle.std.proofs.lemmas.Option.{slice_get-get_or}
use Rattle.std.specs.Prelude.{String, is_ok, is_err, if◌then◌else◌}
use Rattle.std.specs.declared.option.Option.{Option}
use Rattle.std.specs.declared.result.Result.{Result}
use Rattle.std.specs.String.{string_bytes}
use Rattle.std.specs.declared.alloc.Global.{Global}
use Rattle.cas_model.specs.declared.digest.Digest.{Digest}
use Rattle.cas_model.specs.declared.id.IdError.{IdError}
use Rattle.command_line.specs.declared.refusal.WordsError.{WordsError}
use Rattle.command_line.specs.declared.refusal.WordsError.TheVariants as refusal
use Rattle.command_line.specs.declared.refusal.UsageKind.TheVariants as usage
use Rattle.command_line.specs.declared.command.Options.{Options}
use Rattle.command_line.specs.declared.command.Verb.{Verb}
use Rattle.command_line.specs.declared.command.Verb.TheVariants.{MakeBlob, MakeNode, CatNodeData, LsNodeRefs, PutCacheKey, GetCacheResult, Batch, Workload, Validate, Prune}
use Rattle.command_line.specs.Refusals.{AreRefused, OperandsRefused}
use Rattle.command_line.specs.Splitting.{IsNamed}
use Rattle.command_line.specs.Words.{AreOperands, IsBadOperand, IsCommand, IsFirstBad, IsNamedBy, IsOperand, Names, is_key, is_word, operands_of, takes, verb_of}

-- ---- slices of words

-- the first item, and those after it
pub first-rest : {X : Type 0} (xs : List X) (x : X) → 1 ≤ length xs → x ≡ get_or xs 0 x → xs ≡ x ∷ take (length xs - 1) (drop 1 xs)
first-rest [] x some is = absurd (omega arith)
first-rest {X} (y ∷ ys) x some is = ap (λ (z : X). z ∷ ys) (sym is) ∙ ap (λ (l : List X). x ∷ l) (sym (take_all (suc (length ys) - 1) ys (omega arith)))

-- ---- the command

pub command-word : (words : List (String Global)) (word : String Global) (verb : Verb) → 1 ≤ length words → word ≡ get_or words 0 word → is_word word (codes "--workload") ≡ false
    → verb_of word ≡ Some verb → IsCommand words verb (take (length words - 1) (drop 1 words))
command-word words word verb some is other named =
    let rest : List (String Global) = take (length words - 1) (drop 1 words) in
    subst (λ (ws : List (String Global)). IsCommand ws verb rest) (sym (first-rest words word some is))
    (subst (λ (b : Bool). IsNamedBy b word rest verb rest) (sym other) (named, refl))

pub names-of : (words : List (String Global)) (verb : Verb) (rest : List (String Global)) (count : ℕ) (options : Options) → IsNamed words verb rest count options
    → Names words verb (operands_of rest) options
names-of words verb rest count options named = record { rest = rest; begin = named.begin; are = refl; have = named.have }

-- a word alone names no workload
not-workload : (b : Bool) (verb : Verb) (other : Option Verb) (rounds : ℕ) → ¬ (verb ≡ Workload rounds) → ¬ (other ≡ Some (Workload rounds)) → ¬ (cond b (Some verb) other ≡ Some (Workload rounds))
not-workload true verb other rounds not_it not_other is = not_it (cc is)
not-workload false verb other rounds not_it not_other is = not_other is

alone : (word : String Global) (rounds : ℕ) → ¬ (verb_of word ≡ Some (Workload rounds))
alone word rounds =
    not-workload (is_word word (codes "--make-blob")) MakeBlob _ rounds (λ e. cc e)
    (not-workload (is_word word (codes "--make-node")) MakeNode _ rounds (λ e. cc e)
    (not-workload (is_word word (codes "--cat-node-data")) CatNodeData _ rounds (λ e. cc e)
    (not-workload (is_word word (codes "--ls-node-refs")) LsNodeRefs _ rounds (λ e. cc e)
    (not-workload (is_word word (codes "--put-cache-key")) PutCacheKey _ rounds (λ e. cc e)
    (not-workload (is_word word (codes "--get-cache-result")) GetCacheResult _ rounds (λ e. cc e)
    (not-workload (is_word word (codes "--batch")) Batch _ rounds (λ e. cc e)
    (not-workload (is_word word (codes "--validate")) Validate _ rounds (λ e. cc e)
    (not-workload (is_word word (codes "--prune")) Prune None rounds (λ e. cc e) (λ e. cc e)))))))))

-- ---- operands

one-more : (verb : Verb) (k : ℕ) (digests : List Digest) (words : List (String Global)) (digest : Digest) (word : String Global) → AreOperands verb k digests words
    → IsOperand (is_key verb (k + length words)) digest (string_bytes word) → AreOperands verb k (digests ++ digest ∷ []) (words ++ word ∷ [])
one-more verb k [] [] digest word are is = (subst (λ n. IsOperand (is_key verb n) digest (string_bytes word)) (omega arith) is, tt)
one-more verb k (d ∷ ds) (w ∷ ws) digest word are is =
    (are.0, one-more verb (suc k) ds ws digest word are.1 (subst (λ n. IsOperand (is_key verb n) digest (string_bytes word)) (omega arith) is))
one-more verb k [] (w ∷ ws) digest word are is = absurd are
one-more verb k (d ∷ ds) [] digest word are is = absurd are

pub operands-more : (verb : Verb) (digests : List Digest) (words : List (String Global)) (i : ℕ) (digest : Digest) (word other : String Global) → i < length words → word ≡ get_or words i other
    → AreOperands verb 0 digests (take i words) → (key : Bool) (text : List ℕ) → key ≡ is_key verb i → text ≡ string_bytes word → IsOperand key digest text
    → AreOperands verb 0 (digests ++ digest ∷ []) (take (i + 1) words)
operands-more verb digests words i digest word other lt at are key text key_is text_is reads =
    let is : IsOperand (is_key verb i) digest (string_bytes word) = subst (λ k. IsOperand k digest (string_bytes word)) key_is (subst (λ s. IsOperand key digest s) text_is reads) in
    let many : length (take i words) ≡ i = length-take-le i words (omega (arith, lt)) in
    subst (λ ws. AreOperands verb 0 (digests ++ digest ∷ []) ws) (sym (take_more words i other lt ∙ ap (λ w. take i words ++ w ∷ []) (sym at)))
    (one-more verb 0 digests (take i words) digest word are (subst (λ n. IsOperand (is_key verb n) digest (string_bytes word)) (let e : i ≡ 0 + length (take i words) = omega (arith, many) in e) is))

pub operands-all : (verb : Verb) (digests : List Digest) (words : List (String Global)) (i : ℕ) → length words ≤ i → AreOperands verb 0 digests (take i words) → AreOperands verb 0 digests words
operands-all verb digests words i le are = subst (AreOperands verb 0 digests) (take_all i words le) are

pub first-bad : (verb : Verb) (digests : List Digest) (words : List (String Global)) (i : ℕ) (error : IdError) (word other : String Global) → i < length words → word ≡ get_or words i other
    → AreOperands verb 0 digests (take i words) → (key : Bool) (text : List ℕ) → key ≡ is_key verb i → text ≡ string_bytes word → IsBadOperand key error text → IsFirstBad verb words i error
first-bad verb digests words i error word other lt at are key text key_is text_is refused =
    let bad : IsBadOperand (is_key verb i) error (string_bytes word) = subst (λ k. IsBadOperand k error (string_bytes word)) key_is (subst (λ s. IsBadOperand key error s) text_is refused) in
    record { digests = digests; earlier = are; word = word; at = slice_get-get_or words i other lt ∙ ap Some (sym at); bad = bad }

-- there are as many digests as operands
pub same-length : (verb : Verb) (k : ℕ) (digests : List Digest) (words : List (String Global)) → AreOperands verb k digests words → length digests ≡ length words
same-length verb k [] [] are = refl
same-length verb k (d ∷ ds) (w ∷ ws) are = ap suc (same-length verb (suc k) ds ws are.1)
same-length verb k [] (w ∷ ws) are = absurd are
same-length verb k (d ∷ ds) [] are = absurd are

pub takes-digests : (verb : Verb) (digests : List Digest) (words : List (String Global)) → AreOperands verb 0 digests words → takes verb (length words) ≡ true → takes verb (length digests) ≡ true
takes-digests verb digests words are count = subst (λ n. takes verb n ≡ true) (sym (same-length verb 0 digests words are)) count

-- a push that is no error
pub pushed : {U E : Type 0} (result : Result U E) (new old : List Digest) (digest : Digest) (failed : Bool) → failed ≡ is_err result → failed ≡ false
    → new ≡ (if is_ok result then old ++ digest ∷ [] else old) → new ≡ old ++ digest ∷ []
pushed (Ok u) new old digest failed value none is = is
pushed (Err e) new old digest failed value none is = absurd (cc (value, none))

-- ---- operands among options

drop-first : {X : Type 0} (xs : List X) (n : ℕ) (x : X) (rest : List X) → drop n xs ≡ x ∷ rest → n < length xs
drop-first [] zero x rest is = cc is
drop-first [] (suc n) x rest is = cc is
drop-first (y ∷ ys) zero x rest is = omega arith
drop-first (y ∷ ys) (suc n) x rest is = let below = drop-first ys n x rest is in omega (arith, below)

drop-item : {X : Type 0} (xs : List X) (n : ℕ) (x : X) (rest : List X) → drop n xs ≡ x ∷ rest → x ≡ get_or xs n x
drop-item [] zero x rest is = refl
drop-item [] (suc n) x rest is = refl
drop-item (y ∷ ys) zero x rest is = cc is
drop-item (y ∷ ys) (suc n) x rest is = drop-item ys n x rest is

drop-next : {X : Type 0} (xs : List X) (n : ℕ) (x : X) (rest : List X) → drop n xs ≡ x ∷ rest → drop (suc n) xs ≡ rest
drop-next [] zero x rest is = cc is
drop-next [] (suc n) x rest is = cc is
drop-next (y ∷ ys) zero x rest is = cc is
drop-next (y ∷ ys) (suc n) x rest is = drop-next ys n x rest is

drop-none : {X : Type 0} (xs : List X) (n : ℕ) → drop n xs ≡ [] → length xs ≤ n
drop-none [] n is = omega arith
drop-none (y ∷ ys) zero is = cc is
drop-none (y ∷ ys) (suc n) is = let below = drop-none ys n is in omega (arith, below)

-- the first of these operands read as the digests, and these are left
pub record OperandsSoFar (verb : Verb) (digests : List Digest) (operands left : List (String Global)) : Type 0 where
  pub are : AreOperands verb 0 digests (take (length digests) operands)
  pub left_is : drop (length digests) operands ≡ left

pub operands-none : (verb : Verb) (digests : List Digest) (operands : List (String Global)) → digests ≡ [] → OperandsSoFar verb digests operands operands
operands-none verb digests operands none = subst (λ (ds : List Digest). OperandsSoFar verb ds operands operands) (sym none) (record { are = tt; left_is = refl })

pub operands-next : (verb : Verb) (old new : List Digest) (operands left more : List (String Global)) (word : String Global) (digest : Digest) (index : ℕ) (key : Bool) (text : List ℕ)
    → left ≡ word ∷ more → index ≡ length old → key ≡ is_key verb index → text ≡ string_bytes word → IsOperand key digest text → new ≡ old ++ digest ∷ []
    → OperandsSoFar verb old operands left → OperandsSoFar verb new operands more
operands-next verb old new operands left more word digest index key text first at key_is text_is reads added so =
    let begins : drop (length old) operands ≡ word ∷ more = so.left_is ∙ first in
    let longer : length (old ++ digest ∷ []) ≡ length old + 1 = length_push old digest in
    let are : AreOperands verb 0 (old ++ digest ∷ []) (take (length old + 1) operands) =
    operands-more verb old operands (length old) digest word word (drop-first operands (length old) word more begins) (drop-item operands (length old) word more begins) so.are
    key text (key_is ∙ ap (is_key verb) at) text_is reads in
    subst (λ (ds : List Digest). OperandsSoFar verb ds operands more) (sym added)
    (record {
      are = subst (λ n. AreOperands verb 0 (old ++ digest ∷ []) (take n operands)) (sym longer) are;
      left_is = ap (λ n. drop n operands) (longer ∙ add-one (length old)) ∙ drop-next operands (length old) word more begins;
    })

pub operands-bad : (verb : Verb) (digests : List Digest) (operands left more : List (String Global)) (word : String Global) (error : IdError) (index told : ℕ) (key : Bool) (text : List ℕ)
    → left ≡ word ∷ more → index ≡ length digests → told ≡ length digests → key ≡ is_key verb index → text ≡ string_bytes word → IsBadOperand key error text
    → OperandsSoFar verb digests operands left → IsFirstBad verb operands told error
operands-bad verb digests operands left more word error index told key text first at told_is key_is text_is refused so =
    let begins : drop (length digests) operands ≡ word ∷ more = so.left_is ∙ first in
    subst (λ n. IsFirstBad verb operands n error) (sym told_is)
    (first-bad verb digests operands (length digests) error word word (drop-first operands (length digests) word more begins) (drop-item operands (length digests) word more begins) so.are
    key text (key_is ∙ ap (is_key verb) at) text_is refused)

pub operands-done : (verb : Verb) (digests : List Digest) (operands left : List (String Global)) → left ≡ [] → OperandsSoFar verb digests operands left → AreOperands verb 0 digests operands
operands-done verb digests operands left none so = operands-all verb digests operands (length digests) (drop-none operands (length digests) (so.left_is ∙ none)) so.are

-- ---- words whose operands are refused

pub operands-refused : (words rest : List (String Global)) (verb : Verb) (count : ℕ) (options : Options) (error : WordsError) → IsNamed words verb rest count options → takes verb count ≡ true
    → OperandsRefused verb (operands_of rest) error → AreRefused words error
operands-refused words rest verb count options (refusal.Usage (usage.BadOperand k error)) named takes_it why =
    record {
      verb = verb;
      operands = operands_of rest;
      options = options;
      names = names-of words verb rest count options named;
      count = ap (takes verb) (sym named.many) ∙ takes_it;
      first = why;
    }
operands-refused words rest verb count options refusal.Memory named takes_it why = (verb, operands_of rest, options, names-of words verb rest count options named)
operands-refused words rest verb count options (refusal.Usage usage.Words) named takes_it why = absurd why
operands-refused words rest verb count options (refusal.Usage (usage.Operands n)) named takes_it why = absurd why
operands-refused words rest verb count options (refusal.TooManyReferences number) named takes_it why = absurd why
