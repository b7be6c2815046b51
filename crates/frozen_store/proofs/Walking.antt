-- A walk down a trie lists its filled records, each once.
use Rattle.std.proofs.Common.{◌≡◌, ◌≢◌, ◌⊎◌, ℕ, suc, ◌+◌, ◌*◌, ◌<◌, ◌≤◌, List, [], ◌∷◌, ◌++◌, length, get_or, refl, sym, ap, ◌∙◌, subst, inl, inr, arith, append_assoc}
use Rattle.std.proofs.lemmas.Bool.{cases_eq}
use Rattle.std.proofs.lemmas.List.{append-nil}
use Rattle.cas_model.specs.declared.place.Space.{Space}
use Rattle.cas_model.specs.Trie.{path, index_of}
use Rattle.region_core.specs.Heap.{Block, Record, Laid, fixed, memory_of}
use Rattle.region_core.specs.Inserts.{IsUnder, Region}
use Rattle.region_core.specs.Words.{root, width}
use Rattle.region_core.proofs.Finding.{index_within, table_there, record_there, named_at, record_below}
use Rattle.region_core.proofs.Tightness.{none_under, one_under}
use Rattle.frozen_store.specs.Gathers.{IsIn, AreApart, IsFilledUnder, HasUnder, Gathers, GathersBelow, GathersSlot, HasTable, HasSlot, AreFilled}

pub in_cases : (p : ℕ) (xs ys : List ℕ) → IsIn p (xs ++ ys) → IsIn p xs ⊎ IsIn p ys
in_cases p [] ys m = inr m
in_cases p (x ∷ xs) ys m = elim m [
  | inl e ↦ inl (inl e)
  | inr r ↦ elim (in_cases p xs ys r) [ inl a ↦ inl (inr a) | inr b ↦ inr b ]
]

pub in_left : (p : ℕ) (xs ys : List ℕ) → IsIn p xs → IsIn p (xs ++ ys)
in_left p [] ys m = absurd m
in_left p (x ∷ xs) ys m = elim m [ inl e ↦ inl e | inr r ↦ inr (in_left p xs ys r) ]

pub in_right : (p : ℕ) (xs ys : List ℕ) → IsIn p ys → IsIn p (xs ++ ys)
in_right p [] ys m = m
in_right p (x ∷ xs) ys m = inr (in_right p xs ys m)

apart_both : (xs ys : List ℕ) → AreApart xs → AreApart ys → ((p : ℕ) → IsIn p xs → IsIn p ys → ⊥) → AreApart (xs ++ ys)
apart_both [] ys ax ay none = ay
apart_both (x ∷ xs) ys ax ay none = (
  λ m. elim (in_cases x xs ys m) [ inl a ↦ ax.0 a | inr b ↦ none x (inl refl) b ],
  apart_both xs ys ax.1 ay (λ p a b. none p (inr a) b),
)

-- one slot more
pub gathers_more : (words : List ℕ) (table slots i : ℕ) (before mid after : List ℕ) → i < slots → GathersBelow words table slots i before mid → GathersSlot words table i mid after → GathersBelow words table slots (i + 1) before after
gathers_more words table slots i before mid after low below slot heap space indexes laid here wide =
    let x = below heap space indexes laid here wide in
    let y = slot heap space indexes laid here (omega arith) in
    record {
      places = x.places ++ y.places;
      is = y.is ∙ ap (λ ps. ps ++ y.places) x.is ∙ append_assoc before x.places y.places;
      below = record {
        only = λ p m. elim (in_cases p x.places y.places m) [
          | inl a ↦ let z = x.below.only p a in record { index = z.index; low = omega (arith, z.low); under = z.under }
          | inr b ↦ record { index = i; low = omega arith; under = y.under.only p b }
        ];
        has = λ p z. elim (cases_eq z.index i) [
          | inl e ↦ in_right p x.places y.places (y.under.has p (subst (λ k. IsFilledUnder heap space (k ∷ indexes) p) e z.under))
          | inr ne ↦ in_left p x.places y.places (x.below.has p record { index = z.index; low = omega (arith, z.low); under = z.under })
        ];
        apart = apart_both x.places y.places x.below.apart y.under.apart (λ p a b.
            let u = x.below.only p a in
            let v = y.under.only p b in
            let labels : Record space u.under.digest u.under.cell ≡ Record space v.digest v.cell = sym u.under.here ∙ v.here in
            let digests : u.under.digest ≡ v.digest = cc in
            let paths : u.index ∷ indexes ≡ i ∷ indexes = sym u.under.begins ∙ ap (λ d. path d (suc (length indexes))) digests ∙ v.begins in
            let same : u.index ≡ i = cc in
            omega (arith, u.low, same));
      };
    }

-- all slots of a table
pub gathers_all : (words : List ℕ) (table slots n : ℕ) (before after : List ℕ) → slots ≤ n → GathersBelow words table slots n before after → Gathers words table slots before after
gathers_all words table slots n before after all below heap space indexes laid here wide =
    let x = below heap space indexes laid here wide in
    record {
      places = x.places;
      is = x.is;
      under = record {
        only = λ p m.
            let z = x.below.only p m in
            let begins : path z.under.digest (suc (length indexes)) ≡ z.index ∷ indexes = z.under.begins in
            let rest : path z.under.digest (length indexes) ≡ indexes = cc in
            record { digest = z.under.digest; cell = z.under.cell; here = z.under.here; filled = z.under.filled; begins = rest };
        has = λ p z.
            let within : index_of z.digest (length indexes) < width (path z.digest (length indexes)) = index_within z.digest (length indexes) (laid.tries.digests p space z.digest z.cell z.here) in
            let own : width (path z.digest (length indexes)) ≡ width indexes = ap width z.begins in
            x.below.has p record {
              index = index_of z.digest (length indexes);
              low = omega arith;
              under = record { digest = z.digest; cell = z.cell; here = z.here; filled = z.filled; begins = ap (λ ps. index_of z.digest (length indexes) ∷ ps) z.begins };
            };
        apart = x.below.apart;
      };
    }

is_under : (heap : ℕ → Block) (space : Space) (indexes : List ℕ) (p : ℕ) → IsFilledUnder heap space indexes p → IsUnder heap space indexes p
is_under heap space indexes p x = record { digest = x.digest; cell = x.cell; here = x.here; begins = x.begins }

-- an empty slot
pub slot_empty : (words : List ℕ) (table index : ℕ) (before : List ℕ) → 0 ≡ get_or words (table + index) 0 → GathersSlot words table index before before
slot_empty words table index before word heap space indexes laid here within = record {
  places = [];
  is = sym (append-nil before);
  under = record {
    only = λ p m. absurd m;
    has = λ p x. none_under heap (memory_of words) space index indexes table p laid.tries here (sym word) (is_under heap space (index ∷ indexes) p x);
    apart = tt;
  };
}

cell_held : (heap : ℕ → Block) (words : List ℕ) (space : Space) (p : ℕ) (d : List ℕ) (c : ℕ) → Laid heap (memory_of words) (length words) → heap p ≡ Record space d c → get_or words (p + 4) 0 ≡ c
cell_held heap words space p d c laid h = laid.keeps.held p 4 (rw h (omega arith)) ∙ ap (λ b. get_or (fixed b) 4 0) h

-- a slot with a record that is not filled
pub slot_unfilled : (words : List ℕ) (table index r : ℕ) (before : List ℕ) → 4 * r + 1 ≡ get_or words (table + index) 0 → get_or words (r + 4) 0 ≡ 0 → GathersSlot words table index before before
slot_unfilled words table index r before word empty heap space indexes laid here within = record {
  places = [];
  is = sym (append-nil before);
  under = record {
    only = λ p m. absurd m;
    has = λ p x.
        let at : p ≡ r = one_under heap (memory_of words) space index indexes table r p laid.tries here (sym word) (is_under heap space (index ∷ indexes) p x) in
        x.filled (sym (cell_held heap words space p x.digest x.cell laid x.here) ∙ ap (λ k. get_or words (k + 4) 0) at ∙ empty);
    apart = tt;
  };
}

-- a slot with a filled record
pub slot_filled : (words : List ℕ) (table index r : ℕ) (before after : List ℕ) → 4 * r + 1 ≡ get_or words (table + index) 0 → get_or words (r + 4) 0 ≢ 0 → after ≡ before ++ r ∷ [] → GathersSlot words table index before after
slot_filled words table index r before after word filled is heap space indexes laid here within =
    let n = record_there heap (memory_of words) space indexes index table r laid.tries here within (sym word) in
    let at = named_at heap space (index ∷ indexes) r n in
    let own : IsFilledUnder heap space (index ∷ indexes) r = record {
      digest = n.digest;
      cell = n.cell;
      here = at;
      filled = λ e. filled (cell_held heap words space r n.digest n.cell laid at ∙ e);
      begins = n.leads;
    } in
    record {
      places = r ∷ [];
      is = is;
      under = record {
        only = λ p m. elim m [ inl e ↦ subst (IsFilledUnder heap space (index ∷ indexes)) e own | inr none ↦ absurd none ];
        has = λ p x. inl (sym (one_under heap (memory_of words) space index indexes table r p laid.tries here (sym word) (is_under heap space (index ∷ indexes) p x)));
        apart = (λ m. m, tt);
      };
    }

-- a slot with a subtrie
pub slot_subtrie : (words : List ℕ) (table index t : ℕ) (before after : List ℕ) → 4 * t + 2 ≡ get_or words (table + index) 0 → Gathers words t 16 before after → GathersSlot words table index before after
slot_subtrie words table index t before after word all heap space indexes laid here within =
    all heap space (index ∷ indexes) laid (table_there heap (memory_of words) space indexes index table t laid.tries here within (sym word)) refl

-- ---- what the walk asks

pub record_inside : (words : List ℕ) (table index level r : ℕ) → HasSlot words table index level → 4 * r + 1 ≡ get_or words (table + index) 0 → r + 4 < length words
record_inside words table index level r x word =
    let n = record_there x.heap (memory_of words) x.space x.indexes index table r x.laid.tries x.here x.within (sym word) in
    omega (arith, record_below x.heap (length words) x.space n.digest n.cell r x.laid.shape (named_at x.heap x.space (index ∷ x.indexes) r n))

pub table_next : (words : List ℕ) (table index level t : ℕ) → HasSlot words table index level → 4 * t + 2 ≡ get_or words (table + index) 0 → HasTable words t 16 (level + 1)
table_next words table index level t x word = record {
  heap = x.heap;
  space = x.space;
  indexes = index ∷ x.indexes;
  laid = x.laid;
  here = table_there x.heap (memory_of words) x.space x.indexes index table t x.laid.tries x.here x.within (sym word);
  wide = refl;
  deep = omega (arith, x.deep);
  short = x.short;
}

pub level_next : (words : List ℕ) (t slots level : ℕ) → HasTable words t slots level → level ≤ 62
level_next words t slots level x = omega (arith, x.deep, x.laid.tries.levels t x.space x.indexes x.here)

-- ---- the whole trie

pub root_table : (words : List ℕ) (space : Space) (table : ℕ) → Region words → length words ≤ 67108864 → table ≡ root space → HasTable words table 256 0
root_table words space table x short e = record { heap = x.heap; space = space; indexes = []; laid = x.laid; here = ap x.heap e ∙ x.laid.tries.roots space; wide = refl; deep = refl; short = short }

pub all_filled : (words : List ℕ) (space : Space) (table : ℕ) (before after : List ℕ) → table ≡ root space → before ≡ [] → Gathers words table 256 before after → AreFilled words space after
all_filled words space table before after e none all heap laid =
    let x = all heap space [] laid (ap heap e ∙ laid.tries.roots space) refl in
    let is : x.places ≡ after = sym (x.is ∙ ap (λ xs. xs ++ x.places) none) in
    subst (HasUnder heap space []) is x.under
