-- The least place over slots, tables and tries.
use Rattle.std.proofs.Common.{◌≡◌, ◌⊎◌, ℕ, ◌+◌, min, List, length, get_or, Some, None, inl, inr, refl, sym, ap, ◌∙◌, subst, arith}
use Rattle.std.specs.declared.option.Option.{Option}
use Rattle.std.proofs.lemmas.Bool.{cases_eq, cases_lt}
use Rattle.cas_model.specs.declared.place.Space.{Space}
use Rattle.cas_model.specs.declared.place.Space.TheVariants.{Objects, Actions}
use Rattle.region_check.specs.declared.least.Leasts.{Leasts}
use Rattle.region_check.specs.declared.least.Rows.{Rows}
use Rattle.region_check.specs.declared.reach.Table.{Table}
use Rattle.region_check.specs.declared.slot_flaws.Row.{Row}
use Rattle.region_check.specs.declared.slot_flaws.Row.TheVariants as rows
use Rattle.region_check.specs.Reach.{slots_of, table_of}
use Rattle.region_check.specs.Shown.{LeastWhere, LeastOfEach, Shown, TableShown, TrieShown, lower_of}
use Rattle.region_check.proofs.Rows.{least_same}

-- the lower one is the least of both
pub least_lower : (P Q : ℕ → Type 0) (one two : Option ℕ) → LeastWhere P one → LeastWhere Q two → LeastWhere (λ n. P n ⊎ Q n) (lower_of one two)
least_lower P Q None None p q = λ n x. elim x [ inl a ↦ p n a | inr b ↦ q n b ]
least_lower P Q None (Some b) p q = record { here = inr q.here; least = λ m x. elim x [ inl a ↦ absurd (p m a) | inr y ↦ q.least m y ] }
least_lower P Q (Some a) None p q = record { here = inl p.here; least = λ m x. elim x [ inl y ↦ p.least m y | inr b ↦ absurd (q m b) ] }
least_lower P Q (Some a) (Some b) p q = elim (cases_lt a b) [
  | inl low ↦
      let is : min a b ≡ a = omega arith in
      record { here = inl (subst P (sym is) p.here); least = λ m x. elim x [ inl y ↦ omega (arith, p.least m y) | inr y ↦ omega (arith, q.least m y) ] }
  | inr high ↦
      let is : min a b ≡ b = omega arith in
      record { here = inr (subst Q (sym is) q.here); least = λ m x. elim x [ inl y ↦ omega (arith, p.least m y) | inr y ↦ omega (arith, q.least m y) ] }
]

module _ (words : List ℕ) (row : Row) (s : Space) where
  pub table_none : (table : Table) (n : ℕ) → TableShown words row s table 0 n → ⊥
  table_none table n x = omega (arith, x.1)

  pub table_more : (table : Table) (j : ℕ) (old here : Option ℕ) → LeastWhere (TableShown words row s table j) old → LeastWhere (Shown words row s table.level (table.place + j)) here → LeastWhere (TableShown words row s table (j + 1)) (lower_of old here)
  table_more table j old here a b =
      least_same (λ n. TableShown words row s table j n ⊎ Shown words row s table.level (table.place + j) n) (TableShown words row s table (j + 1)) (lower_of old here) to back
      (least_lower (TableShown words row s table j) (Shown words row s table.level (table.place + j)) old here a b)
    where
      to : (n : ℕ) → TableShown words row s table j n ⊎ Shown words row s table.level (table.place + j) n → TableShown words row s table (j + 1) n
      to n (inl x) = (x.0, omega (arith, x.1), x.2)
      to n (inr x) = (j, omega arith, x)

      back : (n : ℕ) → TableShown words row s table (j + 1) n → TableShown words row s table j n ⊎ Shown words row s table.level (table.place + j) n
      back n x = elim (cases_eq x.0 j) [
        | inl same ↦ inr (subst (λ k. Shown words row s table.level (table.place + k) n) same x.2)
        | inr other ↦ inl (x.0, omega (arith, x.1), x.2)
      ]

  pub trie_none : (tables : List Table) (n : ℕ) → TrieShown words row s tables 0 n → ⊥
  trie_none tables n x = omega (arith, x.1)

  pub trie_more : (tables : List Table) (k : ℕ) (table : Table) (old here : Option ℕ) → table ≡ table_of tables k → LeastWhere (TrieShown words row s tables k) old → LeastWhere (TableShown words row s table (slots_of table)) here → LeastWhere (TrieShown words row s tables (k + 1)) (lower_of old here)
  trie_more tables k table old here is a b =
      least_same (λ n. TrieShown words row s tables k n ⊎ TableShown words row s table (slots_of table) n) (TrieShown words row s tables (k + 1)) (lower_of old here) to back
      (least_lower (TrieShown words row s tables k) (TableShown words row s table (slots_of table)) old here a b)
    where
      to : (n : ℕ) → TrieShown words row s tables k n ⊎ TableShown words row s table (slots_of table) n → TrieShown words row s tables (k + 1) n
      to n (inl x) = (x.0, omega (arith, x.1), x.2)
      to n (inr x) = (k, omega arith, subst (λ (t : Table). TableShown words row s t (slots_of t) n) is x)

      back : (n : ℕ) → TrieShown words row s tables (k + 1) n → TrieShown words row s tables k n ⊎ TableShown words row s table (slots_of table) n
      back n x = elim (cases_eq x.0 k) [
        | inl same ↦ inr (subst (λ (t : Table). TableShown words row s t (slots_of t) n) (ap (table_of tables) same ∙ sym is) x.2)
        | inr other ↦ inl (x.0, omega (arith, x.1), x.2)
      ]

-- ---- three rows at once

-- the lower ones are the least of both, for each row
pub each_lower :
    (P Q R : Row → ℕ → Type 0) (three : Rows) (old here new : Leasts) → new.first ≡ lower_of old.first here.first → new.second ≡ lower_of old.second here.second → new.third ≡ lower_of old.third here.third
    → ((row : Row) (a b : Option ℕ) → LeastWhere (P row) a → LeastWhere (Q row) b → LeastWhere (R row) (lower_of a b)) → LeastOfEach P three old → LeastOfEach Q three here → LeastOfEach R three new
each_lower P Q R three old here new first second third go a b = record {
  first = subst (LeastWhere (R three.first)) (sym first) (go three.first old.first here.first a.first b.first);
  second = subst (LeastWhere (R three.second)) (sym second) (go three.second old.second here.second a.second b.second);
  third = subst (LeastWhere (R three.third)) (sym third) (go three.third old.third here.third a.third b.third);
}

-- nothing was found of any row
pub each_none : (P : Row → ℕ → Type 0) (three : Rows) (new : Leasts) → new.first ≡ None → new.second ≡ None → new.third ≡ None → ((row : Row) (n : ℕ) → P row n → ⊥) → LeastOfEach P three new
each_none P three new first second third none = record {
  first = subst (LeastWhere (P three.first)) (sym first) (none three.first);
  second = subst (LeastWhere (P three.second)) (sym second) (none three.second);
  third = subst (LeastWhere (P three.third)) (sym third) (none three.third);
}

-- an empty slot shows nothing
pub empty_shows : (words : List ℕ) (s : Space) (level slot : ℕ) → get_or words slot 0 ≡ 0 → (row : Row) (p : ℕ) → Shown words row s level slot p → ⊥
empty_shows words s level slot empty rows.Slot p x = x.1.some empty
empty_shows words s level slot empty rows.Range p x = elim x [
  | inl a ↦ elim a.1 [ inl r ↦ omega (arith, empty, r.1) | inr t ↦ omega (arith, empty, t.1) ]
  | inr a ↦ omega (arith, empty, a.1.1.0)
]
empty_shows words s level slot empty rows.Path p x = elim x.1 [
  | inl deep ↦ omega (arith, empty, deep.1.1.0)
  | inr lost ↦ omega (arith, empty, lost.1.1.0)
]
empty_shows words s level slot empty rows.Value p x = omega (arith, empty, x.1.1.0)
empty_shows words s level slot empty rows.Length p x = x
empty_shows words s level slot empty rows.Padding p x = x
empty_shows words s level slot empty rows.Reference p x = x
empty_shows words s level slot empty rows.Order p x = x
empty_shows words s level slot empty rows.Digest p x = x

-- one more slot was looked at
pub each_slot :
    (words : List ℕ) (s : Space) (three : Rows) (table : Table) (j : ℕ) (old here new : Leasts) → new.first ≡ lower_of old.first here.first → new.second ≡ lower_of old.second here.second → new.third ≡ lower_of old.third here.third
    → LeastOfEach (λ row. TableShown words row s table j) three old → LeastOfEach (λ row. Shown words row s table.level (table.place + j)) three here → LeastOfEach (λ row. TableShown words row s table (j + 1)) three new
each_slot words s three table j old here new first second third a b =
    each_lower (λ row. TableShown words row s table j) (λ row. Shown words row s table.level (table.place + j)) (λ row. TableShown words row s table (j + 1)) three old here new first second third
    (λ row x y p q. table_more words row s table j x y p q) a b

-- one more table was looked at
pub each_more :
    (words : List ℕ) (s : Space) (three : Rows) (tables : List Table) (k : ℕ) (old here new : Leasts) → new.first ≡ lower_of old.first here.first → new.second ≡ lower_of old.second here.second → new.third ≡ lower_of old.third here.third
    → LeastOfEach (λ row. TrieShown words row s tables k) three old → LeastOfEach (λ row. TableShown words row s (table_of tables k) (slots_of (table_of tables k))) three here → LeastOfEach (λ row. TrieShown words row s tables (k + 1)) three new
each_more words s three tables k old here new first second third a b =
    each_lower (λ row. TrieShown words row s tables k) (λ row. TableShown words row s (table_of tables k) (slots_of (table_of tables k))) (λ row. TrieShown words row s tables (k + 1)) three old here new first second third
    (λ row x y p q. trie_more words row s tables k (table_of tables k) x y refl p q) a b

-- the lower ones of both tries
pub each_both :
    (words : List ℕ) (three : Rows) (objects actions : List Table) (one two new : Leasts) → new.first ≡ lower_of one.first two.first → new.second ≡ lower_of one.second two.second → new.third ≡ lower_of one.third two.third
    → LeastOfEach (λ row. TrieShown words row Objects objects (length objects)) three one → LeastOfEach (λ row. TrieShown words row Actions actions (length actions)) three two
    → LeastOfEach (λ row p. TrieShown words row Objects objects (length objects) p ⊎ TrieShown words row Actions actions (length actions) p) three new
each_both words three objects actions one two new first second third a b =
    each_lower (λ row. TrieShown words row Objects objects (length objects)) (λ row. TrieShown words row Actions actions (length actions))
    (λ row p. TrieShown words row Objects objects (length objects) p ⊎ TrieShown words row Actions actions (length actions) p) three one two new first second third
    (λ row x y p q. least_lower (TrieShown words row Objects objects (length objects)) (TrieShown words row Actions actions (length actions)) x y p q) a b
