-- The tables that a root leads to.
use Rattle.std.proofs.Common.{◌≡◌, ◌⊎◌, ℕ, zero, suc, ◌+◌, ◌<◌, ◌≤◌, ◌==◌, cond, min, List, [], ◌∷◌, ◌++◌, length, get_or, take, drop, set, length-set, get_or-set_same, get_or-set_other, Bool, true, false, inl, inr, refl, sym, ap, ◌∙◌, subst, arith}
use Rattle.std.proofs.lemmas.Bool.{cases_eq, cases_lt, cases_Bool, cond-false, eqb-true}
use Rattle.std.proofs.lemmas.List.{get_or_append_left, get_or_push, length_push, take_all, drop_all, append-nil, get_or_default}
use Rattle.cas_model.specs.declared.place.Space.{Space}
use Rattle.cas_model.specs.declared.place.Space.TheVariants.{Objects, Actions}
use Rattle.region_core.specs.Leads.{NamesTableAt, Leads}
use Rattle.region_core.specs.Words.{root, width}
use Rattle.region_check.specs.declared.reach.Table.{Table}
use Rattle.region_check.specs.Reach.{slots_of, no_table, table_of, Lists, IsLed, AreTables, Marked, unmarked, below, EnteredSlot, Entered, Searching}

-- marking one that was not marked
unmarked-set : (bs : List Bool) (t : ℕ) → t < length bs → get_or bs t false ≡ false → unmarked (set bs t true) + 1 ≡ unmarked bs
unmarked-set [] t h e = absurd (omega arith)
unmarked-set (true ∷ bs) zero h e = absurd (cc)
unmarked-set (false ∷ bs) zero h e = omega arith
unmarked-set (true ∷ bs) (suc t) h e = unmarked-set bs t (omega arith) e
unmarked-set (false ∷ bs) (suc t) h e = omega (arith, unmarked-set bs t (omega arith) e)

marked_set : (bs : List Bool) (x t : ℕ) → x < length bs → Marked bs t → Marked (set bs x true) t
marked_set bs x t h m = elim (cases_eq t x) [
  | inl e ↦ ap (λ y. get_or (set bs x true) y false) e ∙ get_or-set_same bs x true false h
  | inr e ↦ get_or-set_other bs x t true false e ∙ m
]

marked_either : (bs : List Bool) (x t : ℕ) → Marked (set bs x true) t → Marked bs t ⊎ (t ≡ x)
marked_either bs x t m = elim (cases_eq t x) [
  | inl e ↦ inr e
  | inr e ↦ inl (sym (get_or-set_other bs x t true false e) ∙ m)
]

-- a slot names one table
same_table : (words : List ℕ) (slot t x : ℕ) → NamesTableAt words slot t → NamesTableAt words slot x → t ≡ x
same_table words slot t x a b = omega (arith, a.0, b.0)

lists_push : (tables : List Table) (x : Table) (t : ℕ) → Lists tables t → Lists (tables ++ x ∷ []) t
lists_push tables x t l = (l.0, omega (arith, length_push tables x, l.1), ap (λ (e : Table). e.place) (get_or_append_left tables (x ∷ []) no_table l.0 l.1) ∙ l.2)

lists_last : (tables : List Table) (x : Table) → Lists (tables ++ x ∷ []) x.place
lists_last tables x = (length tables, omega (arith, length_push tables x), ap (λ (e : Table). e.place) (get_or_push tables x no_table (length tables) refl))

pub entered_more :
    (words : List ℕ) (table : Table) (n : ℕ) (a b c : List Bool) (p q r : List Table)
    → length a ≡ length words → Entered words table n a b p q → EnteredSlot words table n b c q r → Entered words table (n + 1) a c p r
entered_more words table n a b c p q r long e one =
    elim one [
      | inl x ↦
          let t : ℕ = x.0 in
          let inside : t < length b = omega (arith, e.long, x.1.2) in
          let next : Table = below table t in
          let marks : c ≡ set b t true = x.3 in
          let tables : r ≡ q ++ next ∷ [] = x.4 in
          rw (marks, tables) (record {
            long = length-set b t true ∙ e.long;
            grows = λ y h. marked_set b t y inside (e.grows y h);
            longer = omega (arith, e.longer, length_push q next);
            kept = λ k h. get_or_append_left q (next ∷ []) no_table k (omega (arith, e.longer)) ∙ e.kept k h;
            new = λ k h1 h2. elim (cases_lt k (length q)) [
              | inl before ↦
                  let z = e.new k h1 before in
                  (z.0, z.1, omega (arith, z.2), z.3, get_or_append_left q (next ∷ []) no_table k before ∙ z.4)
              | inr last ↦
                  let at : length q ≡ k = omega (arith, length_push q next) in
                  (n, t, omega arith, x.1, get_or_push q next no_table k at)
            ];
            listed = λ y h. elim (marked_either b t y h) [
              | inl m ↦ elim (e.listed y m) [ inl z ↦ inl z | inr z ↦ inr (lists_push q next y z) ]
              | inr is ↦ inr (subst (Lists (q ++ next ∷ [])) (sym is) (lists_last q next))
            ];
            done = λ k y hk named. elim (cases_eq k n) [
              | inl is ↦
                  let at : NamesTableAt words (table.place + n) y = subst (λ i. NamesTableAt words (table.place + i) y) is named in
                  let same : y ≡ t = same_table words (table.place + n) y t at x.1 in
                  ap (λ i. get_or (set b t true) i false) same ∙ get_or-set_same b t true false inside
              | inr not ↦ marked_set b t y inside (e.done k y (omega arith) named)
            ];
            less = omega (arith, e.less, unmarked-set b t inside x.2, length_push q next);
          })
      | inr x ↦
          rw (x.0, x.1) (record {
            long = e.long;
            grows = e.grows;
            longer = e.longer;
            kept = e.kept;
            new = λ k h1 h2. let z = e.new k h1 h2 in (z.0, z.1, omega (arith, z.2), z.3, z.4);
            listed = e.listed;
            done = λ k y hk named. elim (cases_eq k n) [
              | inl is ↦ x.2 y (subst (λ i. NamesTableAt words (table.place + i) y) is named)
              | inr not ↦ e.done k y (omega arith) named
            ];
            less = e.less;
          })
    ]

-- ---- the levels

root_low : (s : Space) → (8 ≤ root s) × (root s + 256 ≤ 520)
root_low Objects = (omega arith, omega arith)
root_low Actions = (omega arith, omega arith)

wide_below : (n : ℕ) → 0 < n → cond {A = ℕ} (n == 0) 256 16 ≡ 16
wide_below n some = elim (cases_Bool (n == 0)) [
  | inl hit ↦ absurd (omega (arith, some, eqb-true n 0 hit))
  | inr miss ↦ cond-false {A = ℕ} (n == 0) 256 16 miss
]

-- a table has as many slots as its indexes say
pub slots_are : (words : List ℕ) (s : Space) (above : List ℕ) (table : Table) (place : ℕ) → IsLed words s table → Leads words s above place → table.place ≡ place → slots_of table ≡ width above
slots_are words s [] table place led lead at = cases led.above led.leads led.level
  where
    cases : (others : List ℕ) → Leads words s others table.place → table.level ≡ min (length others) 64 → slots_of table ≡ 256
    cases [] way level = ap (λ (n : ℕ). cond (n == 0) 256 16) level
    cases (j ∷ others) way level = absurd (omega (arith, way.3.1, lead, at, (root_low s).1))
slots_are words s (i ∷ above) table place led lead at = cases led.above led.leads led.level
  where
    cases : (others : List ℕ) → Leads words s others table.place → table.level ≡ min (length others) 64 → slots_of table ≡ 16
    cases [] way level = absurd (omega (arith, way, at, lead.3.1, (root_low s).1))
    cases (j ∷ others) way level = wide_below table.level (omega (arith, level))

-- a listed table lies within the words
pub table_inside : (words : List ℕ) (s : Space) (table : Table) → 520 ≤ length words → IsLed words s table → table.place + slots_of table ≤ length words
table_inside words s table least led = cases led.above led.leads (slots_are words s led.above table table.place led led.leads refl)
  where
    cases : (others : List ℕ) → Leads words s others table.place → slots_of table ≡ width others → table.place + slots_of table ≤ length words
    cases [] way slots = omega (arith, slots, way, (root_low s).1)
    cases (j ∷ others) way slots = omega (arith, slots, way.3.2)

-- ---- the search

level_more : (n m : ℕ) → n ≡ min m 64 → min (n + 1) 64 ≡ min (suc m) 64
level_more n m h = omega arith

pub searching_more :
    (words : List ℕ) (s : Space) (a b : List Bool) (p q : List Table) (next : ℕ) (table : Table)
    → next < length p → table ≡ table_of p next → Searching words s a p next → Entered words table (slots_of table) a b p q → Searching words s b q (next + 1)
searching_more words s a b p q next table h is x e =
    let led : IsLed words s table = subst (IsLed words s) (sym is) (x.only next h) in
    record {
      long = e.long ∙ x.long;
      within = omega (arith, e.longer);
      some = omega (arith, e.longer);
      first = e.kept 0 x.some ∙ x.first;
      only = λ k hk. elim (cases_lt k (length p)) [
        | inl before ↦ subst (IsLed words s) (sym (e.kept k before)) (x.only k before)
        | inr after ↦
            let z = e.new k after hk in
            let wide = slots_are words s led.above table table.place led led.leads refl in
            subst (IsLed words s) (sym z.4) (record {
              above = z.0 ∷ led.above;
              leads = (table.place, led.leads, omega (arith, z.2, wide), z.3);
              level = level_more table.level (length led.above) led.level;
            })
      ];
      listed = λ t m. elim (e.listed t m) [
        | inl old ↦ let l = x.listed t old in (l.0, omega (arith, l.1, e.longer), ap (λ (y : Table). y.place) (e.kept l.0 l.1) ∙ l.2)
        | inr l ↦ l
      ];
      done = λ k j t hk hj named. elim (cases_eq k next) [
        | inl same ↦
            let at : table_of q k ≡ table = ap (table_of q) same ∙ e.kept next h ∙ sym is in
            e.done j t (subst (λ (y : Table). j < slots_of y) at hj) (subst (λ (y : Table). NamesTableAt words (y.place + j) t) at named)
        | inr not ↦
            let at : table_of q k ≡ table_of p k = e.kept k (omega (arith, x.within)) in
            e.grows t (x.done k j t (omega arith) (subst (λ (y : Table). j < slots_of y) at hj) (subst (λ (y : Table). NamesTableAt words (y.place + j) t) at named))
      ];
    }

-- all tables that the root leads to are listed
module _ (words : List ℕ) (s : Space) (marks : List Bool) (tables : List Table) (next : ℕ) (x : Searching words s marks tables next) (end : length tables ≤ next) where
  led_listed : (above : List ℕ) (t : ℕ) → Leads words s above t → Lists tables t
  led_listed [] t lead = (0, x.some, ap (λ (y : Table). y.place) x.first ∙ sym lead)
  led_listed (j ∷ above) t lead =
      let l = led_listed above lead.0 lead.1 in
      let wide = slots_are words s above (table_of tables l.0) lead.0 (x.only l.0 l.1) lead.1 l.2 in
      x.listed t (x.done l.0 j t (omega (arith, l.1)) (omega (arith, wide, lead.2)) (subst (λ u. NamesTableAt words (u + j) t) (sym l.2) lead.3))

  pub searched : AreTables words s tables
  searched = record { only = x.only; all = led_listed }

-- a list that was lent as a slice is what the slice is at the end
pub lent_back : {X : Type 0} (n : ℕ) (xs ys : List X) → length xs ≡ length ys → n ≡ length ys → take n (xs ++ drop (length xs) ys) ≡ xs
lent_back {X} n xs ys same long = ap (λ (zs : List X). take n (xs ++ zs)) (drop_all (length xs) ys (omega arith)) ∙ ap (take n) (append-nil xs) ∙ take_all n xs (omega arith)

-- what was read within the list is the table there
pub table_read : (tables : List Table) (k : ℕ) (table : Table) → k < length tables → table ≡ get_or tables k table → table ≡ table_of tables k
table_read tables k table h is = is ∙ get_or_default tables k table no_table h
