-- Words are given their roles.
use Rattle.std.proofs.Common.{◌≡◌, ◌≢◌, ◌⊎◌, ℕ, ◌+◌, ◌/◌, ◌%◌, ◌<◌, List, length, get_or, set, length-set, get_or-set_same, get_or-set_other, inl, inr, refl, sym, ap, ◌∙◌, subst, arith}
use Rattle.std.specs.Prelude.{◌↔◌}
use Rattle.std.proofs.lemmas.Bool.{cases_eq}
use Rattle.cas_model.specs.declared.place.Space.{Space}
use Rattle.cas_model.specs.declared.place.Space.TheVariants.{Objects, Actions}
use Rattle.region_core.specs.Leads.{NamesRecordAt}
use Rattle.region_check.specs.declared.reach.Table.{Table}
use Rattle.region_check.specs.Flaws.{IsSlotOf}
use Rattle.region_check.specs.Reach.{slots_of, table_of, AreTables}
use Rattle.region_check.specs.Roles.{IsSlotRole, IsCellOf, AreRoles, AreUnclaimed, Adds, NamesCell, TableSlot, TableCell, TrieSlot, TrieCell}
use Rattle.region_check.specs.Shown.{AreTries}
use Rattle.region_check.proofs.Reaching.{slots_are}

-- the role of a slot is added
pub slot_added : (before : List ℕ) (slot : ℕ) → slot < length before → AreUnclaimed before → get_or before slot 0 % 2 ≡ 0 → Adds before (set before slot (get_or before slot 0 + 1)) (λ w. w ≡ slot) (λ w. ⊥)
slot_added before slot h small even =
    let at : get_or (set before slot (get_or before slot 0 + 1)) slot 0 ≡ get_or before slot 0 + 1 = get_or-set_same before slot (get_or before slot 0 + 1) 0 h in
    let other = λ (w : ℕ) (ne : w ≢ slot). get_or-set_other before slot w (get_or before slot 0 + 1) 0 ne in
    record {
      long = length-set before slot (get_or before slot 0 + 1);
      small = λ w. elim (cases_eq w slot) [
        | inl e ↦ subst (λ k. get_or (set before slot (get_or before slot 0 + 1)) k 0 < 4) (sym e) (omega (arith, at, small slot))
        | inr ne ↦ omega (arith, other w ne, small w)
      ];
      slots = λ w. (
        λ r. elim (cases_eq w slot) [ inl e ↦ inr e | inr ne ↦ inl (omega (arith, other w ne, r)) ],
        λ x. elim x [
          | inl r ↦ elim (cases_eq w slot) [ inl e ↦ absurd (clash w r e) | inr ne ↦ omega (arith, other w ne, r) ]
          | inr e ↦ subst (λ k. get_or (set before slot (get_or before slot 0 + 1)) k 0 % 2 ≡ 1) (sym e) (omega (arith, at, even))
        ],
      );
      cells = λ w. (
        λ r. inl (elim (cases_eq w slot) [
          | inl e ↦ subst (λ k. get_or before k 0 / 2 % 2 ≡ 1) (sym e) (half (get_or before slot 0) (get_or (set before slot (get_or before slot 0 + 1)) slot 0) even at (subst (λ k. get_or (set before slot (get_or before slot 0 + 1)) k 0 / 2 % 2 ≡ 1) e r))
          | inr ne ↦ omega (arith, other w ne, r)
        ]),
        λ x. elim x [
          | inl r ↦ elim (cases_eq w slot) [
            | inl e ↦ subst (λ k. get_or (set before slot (get_or before slot 0 + 1)) k 0 / 2 % 2 ≡ 1) (sym e) (half_back (get_or before slot 0) (get_or (set before slot (get_or before slot 0 + 1)) slot 0) even at (subst (λ k. get_or before k 0 / 2 % 2 ≡ 1) e r))
            | inr ne ↦ omega (arith, other w ne, r)
          ]
          | inr none ↦ absurd none
        ],
      );
    }
  where
    clash : (w : ℕ) → get_or before w 0 % 2 ≡ 1 → w ≡ slot → ⊥
    clash w odd e = let here : get_or before slot 0 % 2 ≡ 1 = subst (λ k. get_or before k 0 % 2 ≡ 1) e odd in omega (arith, here, even)

    half : (a b : ℕ) → a % 2 ≡ 0 → b ≡ a + 1 → b / 2 % 2 ≡ 1 → a / 2 % 2 ≡ 1
    half a b e is h = omega arith

    half_back : (a b : ℕ) → a % 2 ≡ 0 → b ≡ a + 1 → a / 2 % 2 ≡ 1 → b / 2 % 2 ≡ 1
    half_back a b e is h = omega arith

-- it was there
pub slot_kept : (roles : List ℕ) (slot : ℕ) → AreUnclaimed roles → (get_or roles slot 0 % 2 ≡ 0 → ⊥) → Adds roles roles (λ w. w ≡ slot) (λ w. ⊥)
slot_kept roles slot small odd = record {
  long = refl;
  small = small;
  slots = λ w. (λ r. inl r, λ x. elim x [ inl r ↦ r | inr e ↦ subst (λ k. get_or roles k 0 % 2 ≡ 1) (sym e) (is_odd (get_or roles slot 0) odd) ]);
  cells = λ w. (λ r. inl r, λ x. elim x [ inl r ↦ r | inr none ↦ absurd none ]);
}
  where
    is_odd : (a : ℕ) → (a % 2 ≡ 0 → ⊥) → a % 2 ≡ 1
    is_odd a h = elim (cases_eq (a % 2) 0) [ inl e ↦ absurd (h e) | inr ne ↦ omega arith ]

-- the role of a cell is added
pub cell_added : (before : List ℕ) (cell : ℕ) → cell < length before → AreUnclaimed before → get_or before cell 0 / 2 ≡ 0 → Adds before (set before cell (get_or before cell 0 + 2)) (λ w. ⊥) (λ w. w ≡ cell)
cell_added before cell h small low =
    let at : get_or (set before cell (get_or before cell 0 + 2)) cell 0 ≡ get_or before cell 0 + 2 = get_or-set_same before cell (get_or before cell 0 + 2) 0 h in
    let other = λ (w : ℕ) (ne : w ≢ cell). get_or-set_other before cell w (get_or before cell 0 + 2) 0 ne in
    record {
      long = length-set before cell (get_or before cell 0 + 2);
      small = λ w. elim (cases_eq w cell) [
        | inl e ↦ subst (λ k. get_or (set before cell (get_or before cell 0 + 2)) k 0 < 4) (sym e) (omega (arith, at, low))
        | inr ne ↦ omega (arith, other w ne, small w)
      ];
      slots = λ w. (
        λ r. inl (elim (cases_eq w cell) [
          | inl e ↦ subst (λ k. get_or before k 0 % 2 ≡ 1) (sym e) (odd (get_or before cell 0) (get_or (set before cell (get_or before cell 0 + 2)) cell 0) at (subst (λ k. get_or (set before cell (get_or before cell 0 + 2)) k 0 % 2 ≡ 1) e r))
          | inr ne ↦ omega (arith, other w ne, r)
        ]),
        λ x. elim x [
          | inl r ↦ elim (cases_eq w cell) [
            | inl e ↦ subst (λ k. get_or (set before cell (get_or before cell 0 + 2)) k 0 % 2 ≡ 1) (sym e) (odd_back (get_or before cell 0) (get_or (set before cell (get_or before cell 0 + 2)) cell 0) at (subst (λ k. get_or before k 0 % 2 ≡ 1) e r))
            | inr ne ↦ omega (arith, other w ne, r)
          ]
          | inr none ↦ absurd none
        ],
      );
      cells = λ w. (
        λ r. elim (cases_eq w cell) [ inl e ↦ inr e | inr ne ↦ inl (omega (arith, other w ne, r)) ],
        λ x. elim x [
          | inl r ↦ elim (cases_eq w cell) [ inl e ↦ absurd (clash w r e) | inr ne ↦ omega (arith, other w ne, r) ]
          | inr e ↦ subst (λ k. get_or (set before cell (get_or before cell 0 + 2)) k 0 / 2 % 2 ≡ 1) (sym e) (omega (arith, at, low))
        ],
      );
    }
  where
    clash : (w : ℕ) → get_or before w 0 / 2 % 2 ≡ 1 → w ≡ cell → ⊥
    clash w r e = let here : get_or before cell 0 / 2 % 2 ≡ 1 = subst (λ k. get_or before k 0 / 2 % 2 ≡ 1) e r in omega (arith, here, low)

    odd : (a b : ℕ) → b ≡ a + 2 → b % 2 ≡ 1 → a % 2 ≡ 1
    odd a b is h = omega arith

    odd_back : (a b : ℕ) → b ≡ a + 2 → a % 2 ≡ 1 → b % 2 ≡ 1
    odd_back a b is h = omega arith

pub cell_kept : (roles : List ℕ) (cell : ℕ) → AreUnclaimed roles → (get_or roles cell 0 / 2 ≡ 0 → ⊥) → Adds roles roles (λ w. ⊥) (λ w. w ≡ cell)
cell_kept roles cell small some = record {
  long = refl;
  small = small;
  slots = λ w. (λ r. inl r, λ x. elim x [ inl r ↦ r | inr none ↦ absurd none ]);
  cells = λ w. (λ r. inl r, λ x. elim x [ inl r ↦ r | inr e ↦ subst (λ k. get_or roles k 0 / 2 % 2 ≡ 1) (sym e) (is_one (get_or roles cell 0) (small cell) some) ]);
}
  where
    is_one : (a : ℕ) → a < 4 → (a / 2 ≡ 0 → ⊥) → a / 2 % 2 ≡ 1
    is_one a small h = elim (cases_eq (a / 2) 0) [ inl e ↦ absurd (h e) | inr ne ↦ omega arith ]

-- nothing more is added
pub adds_same : (a b : List ℕ) (S C T D : ℕ → Type 0) → Adds a b S C → ((w : ℕ) → S w ↔ T w) → ((w : ℕ) → C w ↔ D w) → Adds a b T D
adds_same a b S C T D x s c = record {
  long = x.long;
  small = x.small;
  slots = λ w. (λ r. elim ((x.slots w).0 r) [ inl y ↦ inl y | inr y ↦ inr ((s w).0 y) ], λ y. elim y [ inl z ↦ (x.slots w).1 (inl z) | inr z ↦ (x.slots w).1 (inr ((s w).1 z)) ]);
  cells = λ w. (λ r. elim ((x.cells w).0 r) [ inl y ↦ inl y | inr y ↦ inr ((c w).0 y) ], λ y. elim y [ inl z ↦ (x.cells w).1 (inl z) | inr z ↦ (x.cells w).1 (inr ((c w).1 z)) ]);
}

pub adds_both : (a b c : List ℕ) (S C T D : ℕ → Type 0) → Adds a b S C → Adds b c T D → Adds a c (λ w. S w ⊎ T w) (λ w. C w ⊎ D w)
adds_both a b c S C T D x y = record {
  long = y.long ∙ x.long;
  small = y.small;
  slots = λ w. (
    λ r. elim ((y.slots w).0 r) [
      | inl z ↦ elim ((x.slots w).0 z) [ inl v ↦ inl v | inr v ↦ inr (inl v) ]
      | inr v ↦ inr (inr v)
    ],
    λ r. elim r [
      | inl v ↦ (y.slots w).1 (inl ((x.slots w).1 (inl v)))
      | inr v ↦ elim v [ inl u ↦ (y.slots w).1 (inl ((x.slots w).1 (inr u))) | inr u ↦ (y.slots w).1 (inr u) ]
    ],
  );
  cells = λ w. (
    λ r. elim ((y.cells w).0 r) [
      | inl z ↦ elim ((x.cells w).0 z) [ inl v ↦ inl v | inr v ↦ inr (inl v) ]
      | inr v ↦ inr (inr v)
    ],
    λ r. elim r [
      | inl v ↦ (y.cells w).1 (inl ((x.cells w).1 (inl v)))
      | inr v ↦ elim v [ inl u ↦ (y.cells w).1 (inl ((x.cells w).1 (inr u))) | inr u ↦ (y.cells w).1 (inr u) ]
    ],
  );
}

pub adds_none : (a : List ℕ) (S C : ℕ → Type 0) → AreUnclaimed a → ((w : ℕ) → S w → ⊥) → ((w : ℕ) → C w → ⊥) → Adds a a S C
adds_none a S C small s c = record {
  long = refl;
  small = small;
  slots = λ w. (λ r. inl r, λ x. elim x [ inl r ↦ r | inr y ↦ absurd (s w y) ]);
  cells = λ w. (λ r. inl r, λ x. elim x [ inl r ↦ r | inr y ↦ absurd (c w y) ]);
}

-- ---- one slot

pub names_none : (words a b : List ℕ) (s : Space) (slot : ℕ) → Adds a b (λ w. w ≡ slot) (λ w. ⊥) → ((w : ℕ) → NamesCell words s slot w → ⊥) → Adds a b (λ w. w ≡ slot) (NamesCell words s slot)
names_none words a b s slot x none = adds_same a b (λ w. w ≡ slot) (λ w. ⊥) (λ w. w ≡ slot) (NamesCell words s slot) x (λ w. (λ e. e, λ e. e)) (λ w. (λ e. absurd e, λ e. none w e))

pub names_one : (words a b c : List ℕ) (s : Space) (slot r : ℕ) → s ≡ Objects → NamesRecordAt words slot r → Adds a b (λ w. w ≡ slot) (λ w. ⊥) → Adds b c (λ w. ⊥) (λ w. w ≡ r + 4) → Adds a c (λ w. w ≡ slot) (NamesCell words s slot)
names_one words a b c s slot r objects named x y =
    adds_same a c (λ w. (w ≡ slot) ⊎ ⊥) (λ w. ⊥ ⊎ (w ≡ r + 4)) (λ w. w ≡ slot) (NamesCell words s slot) (adds_both a b c (λ w. w ≡ slot) (λ w. ⊥) (λ w. ⊥) (λ w. w ≡ r + 4) x y)
    (λ w. (λ z. elim z [ inl e ↦ e | inr none ↦ absurd none ], λ e. inl e))
    (λ w. (λ z. elim z [ inl none ↦ absurd none | inr e ↦ (objects, (r, named, e)) ], λ z. inr (z.1.2 ∙ ap (λ k. k + 4) (same (z.1.0) z.1.1))))
  where
    same : (q : ℕ) → NamesRecordAt words slot q → q ≡ r
    same q other = omega (arith, other.0, named.0)

-- ---- tables and tries

pub table_more : (words a b c : List ℕ) (s : Space) (table : Table) (j : ℕ) → Adds a b (TableSlot table j) (TableCell words s table j) → Adds b c (λ w. w ≡ table.place + j) (NamesCell words s (table.place + j)) → Adds a c (TableSlot table (j + 1)) (TableCell words s table (j + 1))
table_more words a b c s table j x y =
    adds_same a c (λ w. TableSlot table j w ⊎ (w ≡ table.place + j)) (λ w. TableCell words s table j w ⊎ NamesCell words s (table.place + j) w) (TableSlot table (j + 1)) (TableCell words s table (j + 1))
    (adds_both a b c (TableSlot table j) (TableCell words s table j) (λ w. w ≡ table.place + j) (NamesCell words s (table.place + j)) x y)
    (λ w. (λ z. elim z [ inl v ↦ (v.0, omega (arith, v.1), v.2) | inr e ↦ (j, omega arith, e) ], λ v. elim (cases_eq v.0 j) [ inl same ↦ inr (v.2 ∙ ap (λ k. table.place + k) same) | inr ne ↦ inl (v.0, omega (arith, v.1), v.2) ]))
    (λ w. (λ z. elim z [ inl v ↦ (v.0, omega (arith, v.1), v.2) | inr e ↦ (j, omega arith, e) ], λ v. elim (cases_eq v.0 j) [ inl same ↦ inr (subst (λ k. NamesCell words s (table.place + k) w) same v.2) | inr ne ↦ inl (v.0, omega (arith, v.1), v.2) ]))

pub trie_more : (words a b c : List ℕ) (s : Space) (tables : List Table) (k : ℕ) (table : Table) → table ≡ table_of tables k → Adds a b (TrieSlot tables k) (TrieCell words s tables k) → Adds b c (TableSlot table (slots_of table)) (TableCell words s table (slots_of table)) → Adds a c (TrieSlot tables (k + 1)) (TrieCell words s tables (k + 1))
trie_more words a b c s tables k table is x y =
    adds_same a c (λ w. TrieSlot tables k w ⊎ TableSlot table (slots_of table) w) (λ w. TrieCell words s tables k w ⊎ TableCell words s table (slots_of table) w) (TrieSlot tables (k + 1)) (TrieCell words s tables (k + 1))
    (adds_both a b c (TrieSlot tables k) (TrieCell words s tables k) (TableSlot table (slots_of table)) (TableCell words s table (slots_of table)) x y)
    (λ w. (
      λ z. elim z [ inl v ↦ (v.0, omega (arith, v.1), v.2) | inr e ↦ (k, omega arith, subst (λ (t : Table). TableSlot t (slots_of t) w) is e) ],
      λ v. elim (cases_eq v.0 k) [ inl same ↦ inr (subst (λ (t : Table). TableSlot t (slots_of t) w) (ap (table_of tables) same ∙ sym is) v.2) | inr ne ↦ inl (v.0, omega (arith, v.1), v.2) ],
    ))
    (λ w. (
      λ z. elim z [ inl v ↦ (v.0, omega (arith, v.1), v.2) | inr e ↦ (k, omega arith, subst (λ (t : Table). TableCell words s t (slots_of t) w) is e) ],
      λ v. elim (cases_eq v.0 k) [ inl same ↦ inr (subst (λ (t : Table). TableCell words s t (slots_of t) w) (ap (table_of tables) same ∙ sym is) v.2) | inr ne ↦ inl (v.0, omega (arith, v.1), v.2) ],
    ))

-- the slots of listed tables are those of the trie
pub trie_slots : (words : List ℕ) (s : Space) (tables : List Table) (w : ℕ) → AreTables words s tables → TrieSlot tables (length tables) w ↔ IsSlotOf words s w
trie_slots words s tables w are = (
  λ x.
      let led = are.only x.0 x.1 in
      let wide = slots_are words s led.above (table_of tables x.0) (table_of tables x.0).place led led.leads refl in
      (led.above, x.2.0, ((table_of tables x.0).place, led.leads, omega (arith, x.2.1, wide), x.2.2)),
  λ y.
      let l = are.all y.0 y.2.0 y.2.1 in
      let wide = slots_are words s y.0 (table_of tables l.0) y.2.0 (are.only l.0 l.1) y.2.1 l.2 in
      (l.0, l.1, (y.1, omega (arith, y.2.2, wide), y.2.3 ∙ ap (λ k. k + y.1) (sym l.2))),
)

pub trie_cells : (words : List ℕ) (tables : List Table) (w : ℕ) → AreTables words Objects tables → TrieCell words Objects tables (length tables) w ↔ IsCellOf words w
trie_cells words tables w are = (
  λ x.
      let slot = (trie_slots words Objects tables ((table_of tables x.0).place + x.2.0) are).0 (x.0, x.1, (x.2.0, x.2.1, refl)) in
      (x.2.2.1.0, (slot.0, slot.1, (table_of tables x.0).place + x.2.0, slot.2, x.2.2.1.1), x.2.2.1.2),
  λ y.
      let r = y.1 in
      let z = (trie_slots words Objects tables r.2 are).1 (r.0, r.1, r.3) in
      (z.0, z.1, (z.2.0, z.2.1, (refl, (y.0, subst (λ k. NamesRecordAt words k y.0) z.2.2 r.4, y.2)))),
)

pub are_roles : (words first mid roles : List ℕ) (objects actions : List Table) → length first ≡ length words → ((w : ℕ) → get_or first w 0 ≡ 0) → AreTries words objects actions → Adds first mid (TrieSlot objects (length objects)) (TrieCell words Objects objects (length objects)) → Adds mid roles (TrieSlot actions (length actions)) (TrieCell words Actions actions (length actions)) → AreRoles words roles
are_roles words first mid roles objects actions long zeros tries x y = record {
  long = y.long ∙ x.long ∙ long;
  small = λ w. omega (arith, y.small w);
  slots = λ w. (
    λ r. elim ((y.slots w).0 r) [
      | inl z ↦ elim ((x.slots w).0 z) [
        | inl v ↦ absurd (omega (arith, zeros w, v))
        | inr v ↦ (Objects, (trie_slots words Objects objects w tries.objects_are).0 v)
      ]
      | inr v ↦ (Actions, (trie_slots words Actions actions w tries.actions_are).0 v)
    ],
    λ z. slot_in z.0 w z.1,
  );
  cells = λ w. (
    λ r. elim ((y.cells w).0 r) [
      | inl z ↦ elim ((x.cells w).0 z) [
        | inl v ↦ absurd (omega (arith, zeros w, v))
        | inr v ↦ (trie_cells words objects w tries.objects_are).0 v
      ]
      | inr v ↦ absurd (let clash : Actions ≡ Objects = v.2.2.0 in cc)
    ],
    λ z. (y.cells w).1 (inl ((x.cells w).1 (inr ((trie_cells words objects w tries.objects_are).1 z)))),
  );
}
  where
    slot_in : (s : Space) (w : ℕ) → IsSlotOf words s w → IsSlotRole roles w
    slot_in Objects w z = (y.slots w).1 (inl ((x.slots w).1 (inr ((trie_slots words Objects objects w tries.objects_are).1 z))))
    slot_in Actions w z = (y.slots w).1 (inr ((trie_slots words Actions actions w tries.actions_are).1 z))
