-- What single slots show.
use Rattle.std.proofs.Common.{◌≡◌, ◌≢◌, ℕ, ◌+◌, ◌/◌, ◌%◌, ◌<◌, ◌≤◌, List, [], ◌∷◌, length, get_or, Bool, true, false, not, Some, None, inl, inr, refl, sym, ap, ◌∙◌, subst, arith}
use Rattle.std.specs.Prelude.{IsTrue, ◌↔◌}
use Rattle.std.specs.declared.option.Option.{Option}
use Rattle.cas_model.specs.declared.digest.Digest.{Digest}
use Rattle.cas_model.specs.declared.place.Space.{Space}
use Rattle.cas_model.specs.Trie.{IsDigest}
use Rattle.cas_model.specs.declared.place.Space.TheVariants.{Objects, Actions}
use Rattle.cas_model.specs.Tables.{same_digest}
use Rattle.cas_model.proofs.Maps.{same-self, same-is}
use Rattle.region_core.specs.Leads.{NamesTableAt, NamesRecordAt, Leads, IsFilledOf, digest_there}
use Rattle.region_check.specs.Passes.{HasNoneBefore}
use Rattle.region_check.specs.Sums.{Fits}
use Rattle.std.proofs.lemmas.Bool.{cases_lt}
use Rattle.region_core.specs.Words.{HasWords, words_of, slot_word, root, width}
use Rattle.region_core.specs.declared.slot.Slot.{Slot}
use Rattle.region_core.specs.declared.slot.Slot.TheVariants as slots
use Rattle.region_core.proofs.Reading.{digest_held-there}
use Rattle.region_check.specs.Flaws.{IsSlotOf, IsNoSlot, NamesOutside, IsReached, IsTooLong, refs_told, bytes_told, end_told}
use Rattle.region_check.specs.Shown.{DeepShown, AstrayShown, LeadsTo, IsLeastWhere, LeastWhere}

pub outside_record : (words : List ℕ) (slot : ℕ) → get_or words slot 0 % 4 ≡ 1 → ((p : ℕ) → NamesRecordAt words slot p → ⊥) → NamesOutside words slot
outside_record words slot one none = inl (get_or words slot 0 / 4, omega arith, none (get_or words slot 0 / 4))

pub outside_table : (words : List ℕ) (slot : ℕ) → get_or words slot 0 % 4 ≡ 2 → ((t : ℕ) → NamesTableAt words slot t → ⊥) → NamesOutside words slot
outside_table words slot two none = inr (get_or words slot 0 / 4, omega arith, none (get_or words slot 0 / 4))

pub no_deep : (words : List ℕ) (level slot : ℕ) → ((t : ℕ) → NamesTableAt words slot t → ⊥) → DeepShown words level slot → ⊥
no_deep words level slot none x = none x.1.0 x.1.1

pub no_astray : (words : List ℕ) (s : Space) (level slot : ℕ) → ((p : ℕ) → NamesRecordAt words slot p → ⊥) → AstrayShown words s level slot → ⊥
no_astray words s level slot none x = none x.1.0 x.1.1

-- a slot names one record
pub same_record : (words : List ℕ) (slot p q : ℕ) → NamesRecordAt words slot p → NamesRecordAt words slot q → p ≡ q
same_record words slot p q a b = omega (arith, a.0, b.0)

-- the digest that was read, and whether it leads here
pub astray :
    (words : List ℕ) (s : Space) (level slot p : ℕ) (d : Digest) (leads : Bool) → level ≤ 63 → NamesRecordAt words slot p → IsDigest d.bytes → HasWords words p (words_of d.bytes)
    → IsTrue leads ↔ LeadsTo words s d slot → IsTrue (not leads) ↔ AstrayShown words s level slot
astray words s level slot p d leads high named digest has are =
    let is : digest_there words p ≡ d = digest_held-there words d.bytes p digest has in (
      λ lost. (high, (p, named, λ way. clash leads lost (are.1 (subst (λ (e : Digest). LeadsTo words s e slot) is way)))),
      λ x. back leads (λ yes. x.1.2 (subst (λ (e : Digest). LeadsTo words s e slot) (sym is ∙ ap (digest_there words) (same_record words slot p x.1.0 named x.1.1)) (are.0 yes))),
    )
  where
    clash : (b : Bool) → IsTrue (not b) → IsTrue b → ⊥
    clash true a b = let e : false ≡ true = a in cc
    clash false a b = let e : false ≡ true = b in cc

    back : (b : Bool) → (IsTrue b → ⊥) → IsTrue (not b)
    back true h = absurd (h refl)
    back false h = refl

-- a flaw at the slot itself
pub least_here : (P : Type 0) (slot : ℕ) → P → IsLeastWhere (λ p. (p ≡ slot) × P) slot
least_here P slot x = record { here = (refl, x); least = λ m y. omega (arith, y.0) }

-- ---- what is known of a content once its length and its references have no flaw

pub content_fits : (words : List ℕ) (r c : ℕ) → HasNoneBefore words 10 → IsReached words r c → Fits words c
content_fits words r c none x = record {
  inside = x.2;
  few = elim (cases_lt 65535 (refs_told words c)) [ inl bad ↦ absurd (long (inl bad)) | inr ok ↦ ok ];
  short = elim (cases_lt 16777215 (bytes_told words c)) [ inl bad ↦ absurd (long (inr (inl bad))) | inr ok ↦ ok ];
  end = elim (cases_lt (length words) (end_told words c)) [ inl bad ↦ absurd (long (inr (inr bad))) | inr ok ↦ ok ];
  references = λ i h. elim (cases_lt (get_or words (c + 1 + i) 0 + 4) (length words)) [
    | inl ok ↦ ok
    | inr bad ↦ absurd (none.none 9 (c + 1 + i) (omega arith) (r, c, x, (i, h, refl), λ filled. omega (arith, bad, filled.0.4.2)))
  ];
}
  where
    long : IsTooLong words c → ⊥
    long bad = none.none 5 c (omega arith) (r, x, bad)

-- whether two digests differ
pub differs : (a b kept found : Digest) (same : Bool) → a ≡ kept → b ≡ found → same ≡ same_digest a b → IsTrue (not same) ↔ (kept ≢ found)
differs a b kept found same a_is b_is is = (λ h e. yes same is h (a_is ∙ e ∙ sym b_is), λ h. cases same is (λ e. h (sym a_is ∙ e ∙ b_is)))
  where
    yes : (s : Bool) → s ≡ same_digest a b → IsTrue (not s) → a ≡ b → ⊥
    yes true is h e = let clash : false ≡ true = h in cc
    yes false is h e = let clash : false ≡ true = is ∙ ap (same_digest a) (sym e) ∙ same-self a in cc

    cases : (s : Bool) → s ≡ same_digest a b → (a ≡ b → ⊥) → IsTrue (not s)
    cases true is h = absurd (h (same-is a b (sym is)))
    cases false is h = refl

-- ---- slots that say nothing

pub no_slot_from : (word : ℕ) → ((s : Slot) → slot_word s ≢ word) → IsNoSlot word
no_slot_from word none = record {
  some = λ e. none slots.Empty (sym e);
  no_record = λ p e. none (slots.Record record { at = p }) (sym e);
  no_table = λ t e. none (slots.Subtrie record { at = t }) (sym e);
}

pub slot_says : (word : ℕ) (s : Slot) → slot_word s ≡ word → IsNoSlot word → ⊥
slot_says word slots.Empty e bad = bad.some (sym e)
slot_says word (slots.Record p) e bad = bad.no_record p.at (sym e)
slot_says word (slots.Subtrie t) e bad = bad.no_table t.at (sym e)

-- ---- the value of an action

-- a slot that names an action's record whose value is not a present object
abbrev pub ValueShown : List ℕ → ℕ → ℕ → Type 0
ValueShown words slot p = (r : ℕ) × NamesRecordAt words slot r × (p ≡ r + 4) × (get_or words p 0 ≢ 0) × (IsFilledOf words Objects (get_or words p 0) → ⊥)

pub present_value : (words : List ℕ) (slot r value : ℕ) → NamesRecordAt words slot r → value ≡ get_or words (r + 4) 0 → IsFilledOf words Objects value → (p : ℕ) → ValueShown words slot p → ⊥
present_value words slot r value named is filled p x =
    let at : p ≡ r + 4 = x.2 ∙ ap (λ k. k + 4) (same_record words slot x.0 r x.1 named) in
    x.4 (subst (IsFilledOf words Objects) (is ∙ ap (λ k. get_or words k 0) (sym at)) filled)

-- ---- the least of which something holds

pub least_same : (P Q : ℕ → Type 0) (o : Option ℕ) → ((n : ℕ) → P n → Q n) → ((n : ℕ) → Q n → P n) → LeastWhere P o → LeastWhere Q o
least_same P Q None to back h = λ n q. h n (back n q)
least_same P Q (Some n) to back h = record { here = to n h.here; least = λ m q. h.least m (back m q) }

pub least_with : (A : Type 0) (P : ℕ → Type 0) (o : Option ℕ) → A → LeastWhere P o → LeastWhere (λ n. A × P n) o
least_with A P o a h = least_same P (λ n. A × P n) o (λ n x. (a, x)) (λ n x. x.1) h

-- a slot lies within the words
pub slot_within : (words : List ℕ) (s : Space) (slot : ℕ) → 520 ≤ length words → IsSlotOf words s slot → slot < length words
slot_within words s slot least x = cases x.0 x.2.0 x.1 x.2.1 x.2.2 x.2.3
  where
    low : (s : Space) → root s + 256 ≤ 520
    low Objects = omega arith
    low Actions = omega arith

    cases : (above : List ℕ) (table j : ℕ) → Leads words s above table → j < width above → slot ≡ table + j → slot < length words
    cases [] table j lead h is = omega (arith, lead, low s)
    cases (i ∷ above) table j lead h is = omega (arith, lead.3.2)
