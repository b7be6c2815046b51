-- A script that was read from a text of bounded length is within its limits.
use Rattle.std.proofs.Common.{◌≡◌, inl, inr, ap, subst, ℕ, suc, ◌+◌, ◌≤◌, ◌==◌, Bool, true, false, cond, List, [], ◌∷◌, ◌++◌, map, length, refl, arith}
use Rattle.std.specs.declared.option.Option.{Option}
use Rattle.std.specs.List.{slice_split, onto_first, filter, AllByRecursion}
use Rattle.hex.proofs.HexLemmas.{decode_of-ok}
use Rattle.cas_model.specs.declared.digest.Digest.{Digest}
use Rattle.cas_script.specs.declared.script.Line.{Line}
use Rattle.cas_script.specs.declared.script.Line.TheVariants.{Store, Load, Put, Get, Act}
use Rattle.cas_script.specs.declared.script.Session.{Session}
use Rattle.cas_script.specs.declared.script.Script.{Script}
use Rattle.cas_script.specs.Text.{pieces, lines_of, without_empty_end, speaks, tokens_of}
use Rattle.cas_script.specs.Arguments.{IsData, AreNames}
use Rattle.cas_script.specs.Lines.{stored_by, AreArguments, IsLine}
use Rattle.cas_script.specs.Grammar.{begins_session, AreLines, AreSessions, Reads}
use Rattle.cas_script.specs.Limits.{FitsObject, FitsLine, FitsSession, FitsScript}
use Rattle.cas_script.proofs.Readings.{lines_length, sessions_length}

-- at most so many bytes
pub record IsShort (most : ℕ) (text : List ℕ) : Type 0 where
  pub short : length text ≤ most

-- each text is short
abbrev AreShort : ℕ → List (List ℕ) → Type 0
AreShort most texts = AllByRecursion (IsShort most) texts

all_longer : (n m : ℕ) (texts : List (List ℕ)) → n ≤ m → AreShort n texts → AreShort m texts
all_longer n m [] le all = tt
all_longer n m (text ∷ texts) le all =
    let short = all.0.short in
    (record { short = omega arith }, all_longer n m texts le all.1)

first_longer : (x n : ℕ) (parts : List (List ℕ)) → AreShort n parts → AreShort (suc n) (onto_first x parts)
first_longer x n [] all = (record { short = omega arith }, tt)
first_longer x n (part ∷ parts) all =
    let short = all.0.short in
    (record { short = omega arith }, all_longer n (suc n) parts (omega arith) all.1)

either_short : (b : Bool) (n : ℕ) (xs ys : List (List ℕ)) → AreShort n xs → AreShort n ys → AreShort n (cond b xs ys)
either_short true n xs ys one other = one
either_short false n xs ys one other = other

-- a piece is no longer than the text
pieces_short : (mark : ℕ) (text : List ℕ) → AreShort (length text) (pieces mark text)
pieces_short mark [] = (record { short = omega arith }, tt)
pieces_short mark (b ∷ text) =
    let rest = pieces_short mark text in
    either_short (b == mark) (suc (length text)) _ _
    (record { short = omega arith }, all_longer (length text) (suc (length text)) (pieces mark text) (omega arith) rest)
    (first_longer b (length text) (pieces mark text) rest)

ended_short : (n : ℕ) (parts : List (List ℕ)) → AreShort n parts → AreShort n (without_empty_end parts)
ended_short n [] all = tt
ended_short n ([] ∷ []) all = tt
ended_short n ((b ∷ bytes) ∷ []) all = all
ended_short n (part ∷ next ∷ rest) all = (all.0, ended_short n (next ∷ rest) all.1)

filter_short : (n : ℕ) (texts : List (List ℕ)) → AreShort n texts → AreShort n (filter speaks texts)
filter_short n [] all = tt
filter_short n (text ∷ texts) all =
    either_short (speaks text) n _ _ (all.0, filter_short n texts all.1) (filter_short n texts all.1)

-- each text of each part is short
abbrev PartsShort : ℕ → List (List (List ℕ)) → Type 0
PartsShort n parts = AllByRecursion (AreShort n) parts

first_part_short : (n : ℕ) (text : List ℕ) (parts : List (List (List ℕ))) → IsShort n text → PartsShort n parts → PartsShort n (onto_first text parts)
first_part_short n text [] short all = ((short, tt), tt)
first_part_short n text (part ∷ parts) short all = ((short, all.0), all.1)

either_parts : (b : Bool) (n : ℕ) (xs ys : List (List (List ℕ))) → PartsShort n xs → PartsShort n ys → PartsShort n (cond b xs ys)
either_parts true n xs ys one other = one
either_parts false n xs ys one other = other

parts_short : (n : ℕ) (texts : List (List ℕ)) → AreShort n texts → PartsShort n (slice_split begins_session texts)
parts_short n [] all = (tt, tt)
parts_short n (text ∷ texts) all =
    let rest = parts_short n texts all.1 in
    either_parts (begins_session text) n _ _ (tt, rest) (first_part_short n text (slice_split begins_session texts) all.0 rest)

-- the bytes of data are fewer than those of its token
data_short : (token bytes : List ℕ) → IsData token bytes → length bytes + 1 ≤ length token
data_short token bytes is =
    elim is [
      | inl none ↦ let empty = ap length none.1 in let one = ap length none.0 in omega (arith, empty, one)
      | inr some ↦ elim some [
        | inl text ↦ let long = ap length text in omega (arith, long)
        | inr digits ↦ let long = ap length digits.1 in let half = (decode_of-ok digits.0 bytes digits.2).2 in omega (arith, long, half)
      ]
    ]

names_length : (stored : List (Option Digest)) (tokens : List (List ℕ)) (refs : List Digest) → AreNames stored tokens refs → length refs ≡ length tokens
names_length stored [] [] are = refl
names_length stored [] (ref ∷ refs) are = absurd are
names_length stored (token ∷ tokens) [] are = absurd are
names_length stored (token ∷ tokens) (ref ∷ refs) are = ap suc (names_length stored tokens refs are.1)

-- the object of a line, whose tokens are short
object_fits : (stored : List (Option Digest)) (token : List ℕ) (rest : List (List ℕ)) (refs : List Digest) (bytes : List ℕ)
    → IsShort 16777216 token → IsData token bytes → length rest ≤ 65535 → AreNames stored rest refs → FitsObject refs bytes
object_fits stored token rest refs bytes short is few are =
    let long = short.short in
    let less = data_short token bytes is in
    let same = names_length stored rest refs are in
    record { few = omega arith; short = omega arith }

arguments_fit : (stored : List (Option Digest)) (arguments : List (List ℕ)) (line : Line) → AreShort 16777216 arguments
    → AreArguments stored arguments line → FitsLine line
arguments_fit stored [] (Store refs bytes) short are = absurd are
arguments_fit stored (first ∷ rest) (Store refs bytes) short are = object_fits stored first rest refs bytes short.0 are.0 are.1.0 are.1.1
arguments_fit stored arguments (Load digest) short are = tt
arguments_fit stored arguments (Put key value) short are = tt
arguments_fit stored arguments (Get key) short are = tt
arguments_fit stored [] (Act key refs bytes) short are = absurd are
arguments_fit stored (first ∷ []) (Act key refs bytes) short are = absurd are
arguments_fit stored (first ∷ second ∷ rest) (Act key refs bytes) short are =
    object_fits stored second rest refs bytes short.1.0 are.1 are.2.0 are.2.1

line_fits : (stored : List (Option Digest)) (text : List ℕ) (line : Line) → IsShort 16777216 text → IsLine stored text line → FitsLine line
line_fits stored text line short is =
    let long = short.short in
    let pieces_ = all_longer (length text) 16777216 (tokens_of text) long (pieces_short 32 text) in
    let all = subst (AreShort 16777216) is.tokens pieces_ in
    arguments_fit stored is.arguments line all.1 is.are

lines_fit : (before : List Line) (texts : List (List ℕ)) (lines : List Line) → AreShort 16777216 texts → AreLines before texts lines
    → AllByRecursion FitsLine lines
lines_fit before texts [] short are = tt
lines_fit before [] (line ∷ lines) short are = absurd are
lines_fit before (text ∷ texts) (line ∷ lines) short are =
    (line_fits (map stored_by before) text line short.0 are.0, lines_fit (before ++ line ∷ []) texts lines short.1 are.1)

sessions_fit : (bodies : List (List (List ℕ))) (sessions : List Session) → PartsShort 16777216 bodies → AreSessions bodies sessions
    → AllByRecursion FitsSession sessions
sessions_fit bodies [] short are = tt
sessions_fit [] (session ∷ sessions) short are = absurd are
sessions_fit (body ∷ bodies) (session ∷ sessions) short are =
    let few = are.0.few in
    let long = lines_length [] body session.lines are.0.are in
    (record { few = omega arith; each = lines_fit [] body session.lines short.0 are.0.are }, sessions_fit bodies sessions short.1 are.1)

pub script_fits : (text : List ℕ) (script : Script) → length text ≤ 16777216 → Reads text script → FitsScript script
script_fits text script short reads =
    let lines = ended_short 16777216 (pieces 10 text) (all_longer (length text) 16777216 (pieces 10 text) short (pieces_short 10 text)) in
    let parts = parts_short 16777216 (filter speaks (lines_of text)) (filter_short 16777216 (lines_of text) lines) in
    let all = subst (PartsShort 16777216) reads.parts parts in
    let few = reads.few in
    let long = sessions_length reads.bodies script.sessions reads.are in
    record { few = omega arith; each = sessions_fit reads.bodies script.sessions all.1 reads.are }
