-- What the answers at the calls share.
use Rattle.std.proofs.Common.{◌≡◌, ℕ, ◌+◌, ◌%◌, ◌^◌, ◌<◌, sym, ◌∙◌, subst, arith}
use mathlib.Core.Option.{none}
use Rattle.atomic_table.specs.Table.{Me, step, Allows}
use Rattle.cas_model.specs.declared.note.Note.{Note}
use Rattle.frozen_store.specs.Seen.{IsSeen}
use Rattle.region_words.specs.Numbers.{Has, own_number}
use Rattle.region_words.specs.Rule.{Holds, origin, AsksFor, FoundRoom, loads_counter, adds_to_counter, hears, writes, HasWordIn}
use Rattle.region_words.specs.Running.{Origin}
use Rattle.region_words.specs.declared.hold.Hold.{Hold}
use Rattle.region_words.specs.declared.rule.Key.{Key}
use Rattle.region_words.specs.declared.view.SeatView.{SeatView}
use Rattle.region_words.proofs.Counting.{loads, adds}
use Rattle.region_words.proofs.Meeting.{heard}
use Rattle.region_words.proofs.Storing.{stores}

pub has-own : (n number : ℕ) (v : SeatView) → n ≡ own_number v → number ≡ own_number v → Has number v.numbers → Has n v.numbers
has-own n number v a b h = subst (λ (z : ℕ). Has z v.numbers) (b ∙ sym a) h

-- a word of the header is one of the table's
pub inside : (key : Key) (words size i : ℕ) → size ≡ (origin key).start.size → words ≡ size → IsSeen key.primary.value → i < 4 → i < words
inside key words size i a b seen low = let s = seen.start.least in omega arith

pub loads-as : (o : Origin) (key : Key) → o ≡ origin key → IsSeen key.primary.value → (slots id : ℕ) (me : Me (Unit {0}) SeatView) (note : Note) (n : ℕ) → AsksFor note n me.0 → Has note.who.session me.0.numbers
    → Allows (Holds key) slots id me 3 (λ x. x) (loads_counter o note n (step slots 3 0 0 none) me)
loads-as o key is seen slots id me note n asks has = subst (λ (z : Origin). Allows (Holds key) slots id me 3 (λ x. x) (loads_counter z note n (step slots 3 0 0 none) me)) (sym is) (loads key seen slots id me note n asks has)

pub adds-as : (o : Origin) (key : Key) → o ≡ origin key → IsSeen key.primary.value → (slots id : ℕ) (me : Me (Unit {0}) SeatView) (hold : Hold) (note : Note) (n k : ℕ) → n ≡ k → AsksFor note n me.0 → Has note.who.session me.0.numbers → FoundRoom o n me.0
    → Allows (Holds key) slots id me 3 (λ x. (x + k) % 2 ^ 64) (adds_to_counter o hold note n (step slots 3 k 0 none) me)
adds-as o key is seen slots id me hold note n k same asks has found =
    subst (λ (z : Origin). Allows (Holds key) slots id me 3 (λ x. (x + k) % 2 ^ 64) (adds_to_counter z hold note n (step slots 3 k 0 none) me)) (sym is)
    (subst (λ (z : ℕ). Allows (Holds key) slots id me 3 (λ x. (x + z) % 2 ^ 64) (adds_to_counter (origin key) hold note n (step slots 3 z 0 none) me)) same
    (adds key seen slots id me hold note n asks has (subst (λ (z : Origin). FoundRoom z n me.0) is found)))

pub stores-as : (key : Key) (slots id : ℕ) (me : Me (Unit {0}) SeatView) (hold : Hold) (p i place index x : ℕ) → p ≡ place → i ≡ index → HasWordIn hold me.0 p i
    → Allows (Holds key) slots id me (place + index) (λ _. x) (λ _. writes hold p i (step slots (place + index) x 0 none) me x)
stores-as key slots id me hold p i place index x at-place at-index low =
    subst (λ (z : ℕ). Allows (Holds key) slots id me (z + index) (λ _. x) (λ _. writes hold p i (step slots (z + index) x 0 none) me x)) at-place
    (subst (λ (z : ℕ). Allows (Holds key) slots id me (p + z) (λ _. x) (λ _. writes hold p i (step slots (p + z) x 0 none) me x)) at-index
    (stores key slots id me hold p i x low))

pub hears-as : (o : Origin) (key : Key) → o ≡ origin key → IsSeen key.primary.value → (slots id i : ℕ) (me : Me (Unit {0}) SeatView) → Allows (Holds key) slots id me i (λ x. x) (hears o (step slots i 0 0 none) me)
hears-as o key is seen slots id i me = subst (λ (z : Origin). Allows (Holds key) slots id me i (λ x. x) (hears z (step slots i 0 0 none) me)) (sym is) (heard key seen slots id i me)
