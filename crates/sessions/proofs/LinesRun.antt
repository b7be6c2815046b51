-- The lines of a session, one after another.
use Rattle.std.proofs.Common.{◌≡◌, ℕ, zero, suc, ◌*◌, ◌^◌, ◌<◌, ◌≤◌, inl, inr, List, [], ◌∷◌, length, drop, get_or, slice_get, Some, option_copied, refl, ap, sym, subst, arith}
use Rattle.std.specs.List.{AllByRecursion}
use Rattle.std.proofs.lemmas.Option.{slice_get_within, slice_get_read}
use Rattle.cas_model.specs.declared.call.Reply.{Reply}
use Rattle.cas_history.specs.Script.{Before}
use Rattle.cas_port.specs.Calls.{IsLawful}
use Rattle.cas_port.specs.View.{View}
use Rattle.unified_cas.specs.declared.unified.Unified.{Unified}
use Rattle.unified_cas.specs.Upstream.{upstream_state}
use Rattle.graph_db.specs.Storing.{IsLawfulOrSame}
use Rattle.graph_db.proofs.Found.{lawful-same-then}
use Rattle.cas_script.specs.declared.script.Line.{Line}
use Rattle.cas_script.specs.Lines.{history_line}
use Rattle.sessions.specs.Standing.{IsReady, StandsAt, HasRunFrom, HasStoppedFrom, before_line, HasRunSession, HasStoppedSession}
use Rattle.sessions.specs.Turns.{history_lines, IsUnseen, AddsOfThese}
use Rattle.sessions.proofs.ReadOnly.{others-read}
use Rattle.sessions.proofs.Stood.{adds-self, adds-then, leaves-then, stands-unseen}

-- the first of the lines ran and were answered by these replies
pub record HaveRunLines (session : ℕ) (lines : List Line) (count : ℕ) (replies : List Reply) (a v : View) : Type 0 where
  pub adds : AddsOfThese (λ n. n ≡ session) a v
  pub stands : StandsAt v session (history_lines lines) (Before (history_lines (drop count lines))) replies
  pub few : length replies ≤ 3 * count
  pub lawful : IsLawfulOrSame a v

pub drop-at : {X : Type 0} (xs : List X) (i : ℕ) (x : X) → slice_get xs i ≡ Some x → drop i xs ≡ x ∷ drop (suc i) xs
drop-at [] i x h = cc
drop-at (a ∷ xs) zero x h = ap (λ y. y ∷ xs) (cc h)
drop-at (a ∷ xs) (suc i) x h = drop-at xs i x h

pub drop-all : {X : Type 0} (xs : List X) (i : ℕ) → length xs ≤ i → drop i xs ≡ []
drop-all [] zero h = refl
drop-all [] (suc i) h = refl
drop-all (a ∷ xs) zero h = absurd (omega arith)
drop-all (a ∷ xs) (suc i) h = drop-all xs i (omega (arith, h))

pub lines-none : (session : ℕ) (lines : List Line) (a : View) → IsUnseen a session → HaveRunLines session lines 0 [] a a
lines-none session lines a unseen = record {
  adds = adds-self (λ n. n ≡ session) a;
  stands = record { entries = []; stands = stands-unseen a session (history_lines lines) unseen.unseen; place = refl; replied = refl; quiet = λ need. others-read session a.seen unseen.unseen };
  few = omega arith;
  lawful = inl refl;
}

-- a session that stands before a line
before-next : (v : View) (session : ℕ) (lines : List Line) (i : ℕ) (line : Line) (replies : List Reply) → slice_get lines i ≡ Some line
    → StandsAt v session (history_lines lines) (Before (history_lines (drop i lines))) replies
    → StandsAt v session (history_lines lines) (before_line (history_line line) (history_lines (drop (suc i) lines))) replies
before-next v session lines i line replies is stands =
    subst (λ (rest : List Line). StandsAt v session (history_lines lines) (Before (history_lines rest)) replies) (drop-at lines i line is) stands

pub lines-next : (session : ℕ) (lines : List Line) (i : ℕ) (line : Line) (before after : List Reply) (a v w : View) → slice_get lines i ≡ Some line → HaveRunLines session lines i before a v
    → HasRunFrom session (before_line (history_line line)) 3 before v after w → IsLawful v w → HaveRunLines session lines (suc i) after a w
lines-next session lines i line before after a v w is ran more lawful = record {
  adds = adds-then (λ n. n ≡ session) a v w ran.adds more.adds;
  stands = more.turns (history_lines lines) (history_lines (drop (suc i) lines)) (before-next v session lines i line before is ran.stands);
  few = omega (arith, ran.few, more.few);
  lawful = inr (lawful-same-then a v w ran.lawful lawful);
}

pub lines-stop : (session : ℕ) (lines : List Line) (i : ℕ) (line : Line) (before : List Reply) (a v w : View) → slice_get lines i ≡ Some line → HaveRunLines session lines i before a v
    → HasStoppedFrom session (before_line (history_line line)) before v w → HasStoppedSession session (history_lines lines) a w
lines-stop session lines i line before a v w is ran stop = record {
  adds = leaves-then (λ n. n ≡ session) a v w ran.adds stop.adds;
  stands = stop.turns (history_lines lines) (history_lines (drop (suc i) lines)) (before-next v session lines i line before is ran.stands);
}

pub lines-all : (session : ℕ) (lines : List Line) (i : ℕ) (replies : List Reply) (a v : View) → length lines ≤ i → HaveRunLines session lines i replies a v
    → HasRunSession session (history_lines lines) replies a v
lines-all session lines i replies a v past ran = record {
  adds = ran.adds;
  stands = subst (λ (rest : List Line). StandsAt v session (history_lines lines) (Before (history_lines rest)) replies) (drop-all lines i past) ran.stands;
}

pub lines-ready : (unified : Unified) (session : ℕ) (lines : List Line) (i : ℕ) (replies : List Reply) (a v : View) → a.upstream ≡ upstream_state (option_copied unified.up) → IsUnseen a session
    → HaveRunLines session lines i replies a v → IsReady unified v session
lines-ready unified session lines i replies a v up unseen ran =
    subst (λ (w : View). IsReady unified w session) (sym ran.adds.is) (record { upstream = up; speaks = unseen.speaks })

pub lines-few : (session : ℕ) (lines : List Line) (i : ℕ) (line : Line) (replies : List Reply) (a v : View) → slice_get lines i ≡ Some line → length lines ≤ 65536 → HaveRunLines session lines i replies a v
    → length replies < 2 ^ 31
lines-few session lines i line replies a v is within ran =
    let below = slice_get_within lines i line is in
    let few = within in
    let most = ran.few in
    omega (arith, below, few, most)

-- the item of a loop over a list
pub item-at : {X : Type 0} (items xs : List X) (i : ℕ) (x : X) → items ≡ xs → i < length items → x ≡ get_or items i x → slice_get xs i ≡ Some x
item-at {X} items xs i x same below is = subst (λ (ys : List X). slice_get ys i ≡ Some x) same (slice_get_read items (length items) i x refl below is)

pub lines-past : {X : Type 0} (items xs : List X) (i : ℕ) → items ≡ xs → length items ≤ i → length xs ≤ i
lines-past {X} items xs i same past = subst (λ (ys : List X). length ys ≤ i) same past

pub lawful-on : (a b c : View) → IsLawfulOrSame a b → IsLawful b c → IsLawfulOrSame a c
lawful-on a b c ab bc = inr (lawful-same-then a b c ab bc)

pub same-on : (a b c : View) → IsLawfulOrSame a b → IsLawfulOrSame b c → IsLawfulOrSame a c
same-on a b c ab (inl same) = subst (λ (v : View). IsLawfulOrSame a v) (sym same) ab
same-on a b c ab (inr bc) = lawful-on a b c ab bc

-- what holds of each element, at one place
pub all-at : {X : Type 0} (P : X → Type 0) (xs : List X) (i : ℕ) (x : X) → AllByRecursion P xs → slice_get xs i ≡ Some x → P x
all-at P [] i x all is = cc
all-at P (a ∷ xs) zero x all is = subst P (cc is) all.0
all-at P (a ∷ xs) (suc i) x all is = all-at P xs i x all.1 is
