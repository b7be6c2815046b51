-- The tables of a run go with the labelling, at each change of a label.
use Rattle.std.proofs.Common.{◌≡◌, ◌≢◌, ℕ, ◌==◌, List, ◌∷◌, Some, None, true, refl, sym, ap, ◌∙◌, subst, inl, inr}
use Rattle.std.specs.declared.option.Option.{Option}
use Rattle.std.proofs.lemmas.Bool.{cases_eq, cases_Bool, cond-true, cond-false, eq-eqb, ne_eqb}
use Rattle.cas_model.specs.declared.digest.Digest.{Digest}
use Rattle.cas_model.specs.declared.place.Place.{Place}
use Rattle.cas_model.specs.declared.place.Space.{Space}
use Rattle.cas_model.specs.declared.place.Space.TheVariants.{Objects, Actions}
use Rattle.cas_model.specs.declared.tables.Cell.{Cell}
use Rattle.cas_model.specs.Tables.{Tables, place_of, record_at, cell_of, words_at, is_for}
use Rattle.region_core.specs.Change.{Placed}
use Rattle.region_core.specs.Goes.{Goes, row, row_in, cell_in, words_in}
use Rattle.region_core.specs.Heap.{Block, Free, Table, Record, Content, Claimed}
use Rattle.region_core.specs.Holds.{IsAbsent}
use Rattle.region_core.proofs.Heap.{stay}
use Rattle.region_core.proofs.Tables.{is_for-self, is_for-tells, row_out}

-- a record that the labelling has not is not bound
pub none_there : (heap : ℕ → Block) (t : Tables) (s : Space) (d : Digest) → Goes heap t → IsAbsent heap s d.bytes → place_of t.bound s d ≡ None
none_there heap t s d goes absent = at (place_of t.bound s d) refl
  where
    at : (o : Option Place) → place_of t.bound s d ≡ o → place_of t.bound s d ≡ None
    at None e = e
    at (Some p) e = let x = (goes.places s d p).0 e in absurd (absent p.at x.0 x.1)

is_for-here : (s : Space) (d : List ℕ) (e : Digest) (q : ℕ) → d ≡ e.bytes → is_for s e (row s d q) ≡ true
is_for-here s d e q same = subst (λ y. is_for s (record { bytes = y }) (row s d q) ≡ true) same (is_for-self s d q)

-- a claimed block becomes a new record
pub goes_bind : (heap heap' : ℕ → Block) (t : Tables) (s : Space) (d ws : List ℕ) (q : ℕ) → Goes heap t → heap q ≡ Claimed ws → Placed heap heap' q (Record s d 0) → IsAbsent heap s d → Goes heap' (record t { bound = row s d q ∷ t.bound })
goes_bind heap heap' t s d ws q goes mine placed absent = record {
  places = λ r e p. (
    λ h. elim (cases_Bool (is_for r e (row s d q))) [
      | inl hit ↦
          let same = is_for-tells s r d e q hit in
          let here : Place = record { at = q } in
          let both : Some here ≡ Some p = sym (cond-true (is_for r e (row s d q)) (Some (record { at = q })) (place_of t.bound r e) hit) ∙ h in
          let one : here ≡ p = cc in
          (0, ap heap' (sym (ap (λ (z : Place). z.at) one)) ∙ placed.now ∙ ap (λ y. Record y d 0) same.0 ∙ ap (λ y. Record r y 0) same.1)
      | inr other ↦
          let x = (goes.places r e p).0 (sym (cond-false (is_for r e (row s d q)) (Some (record { at = q })) (place_of t.bound r e) other) ∙ h) in
          (x.0, stay heap heap' q p.at (Claimed ws) (Record s d 0) (Record r e.bytes x.0) placed mine x.1 (λ z. cc))
    ],
    λ x. elim (cases_eq p.at q) [
      | inl is ↦
          let same : Record r e.bytes x.0 ≡ Record s d 0 = sym x.1 ∙ ap heap' is ∙ placed.now in
          let r_is : s ≡ r = cc in
          let e_is : d ≡ e.bytes = cc in
          let hit : is_for r e (row s d q) ≡ true = ap (λ y. is_for y e (row s d q)) (sym r_is) ∙ is_for-here s d e q e_is in
          cond-true (is_for r e (row s d q)) (Some (record { at = q })) (place_of t.bound r e) hit ∙ ap (λ y. Some (record { at = y })) (sym is)
      | inr not ↦
          let stood : heap p.at ≡ Record r e.bytes x.0 = sym (placed.same p.at not) ∙ x.1 in
          elim (cases_Bool (is_for r e (row s d q))) [
            | inl hit ↦
                let same = is_for-tells s r d e q hit in
                absurd (absent p.at x.0 (stood ∙ ap (λ y. Record y e.bytes x.0) (sym same.0) ∙ ap (λ y. Record s y x.0) (sym same.1)))
            | inr other ↦ cond-false (is_for r e (row s d q)) (Some (record { at = q })) (place_of t.bound r e) other ∙ (goes.places r e p).1 (x.0, stood)
          ]
    ],
  );
  rows = λ p. elim (cases_eq p q) [
    | inl is ↦ cond-true (q == p) (Some (row s d q)) (record_at t.bound p) (eq-eqb q p (sym is)) ∙ ap (λ y. Some (row s d y)) (sym is) ∙ ap (row_in p) (sym (ap heap' is ∙ placed.now))
    | inr not ↦ cond-false (q == p) (Some (row s d q)) (record_at t.bound p) (ne_eqb q p (λ e. not (sym e))) ∙ goes.rows p ∙ ap (row_in p) (sym (placed.same p not))
  ];
  cells = λ p. elim (cases_eq p q) [
    | inl is ↦ goes.cells p ∙ ap cell_in (ap heap is ∙ mine) ∙ ap cell_in (sym (ap heap' is ∙ placed.now))
    | inr not ↦ goes.cells p ∙ ap cell_in (sym (placed.same p not))
  ];
  blocks = λ p. elim (cases_eq p q) [
    | inl is ↦ goes.blocks p ∙ ap words_in (ap heap is ∙ mine) ∙ ap words_in (sym (ap heap' is ∙ placed.now))
    | inr not ↦ goes.blocks p ∙ ap words_in (sym (placed.same p not))
  ];
}

-- labels of no data change
pub goes_on : (heap heap' : ℕ → Block) (t : Tables) → Goes heap t → ((p : ℕ) → row_in p (heap' p) ≡ row_in p (heap p)) → ((p : ℕ) → cell_in (heap' p) ≡ cell_in (heap p)) → ((p : ℕ) → words_in (heap' p) ≡ words_in (heap p)) → Goes heap' t
goes_on heap heap' t goes r c w = record {
  places = λ s d p. (
    λ h.
        let x = (goes.places s d p).0 h in
        let z = row_out p.at (heap' p.at) (row s d.bytes p.at) (r p.at ∙ ap (row_in p.at) x.1) in
        (z.0, z.1),
    λ x.
        let z = row_out p.at (heap p.at) (row s d.bytes p.at) (sym (r p.at) ∙ ap (row_in p.at) x.1) in
        (goes.places s d p).1 (z.0, z.1),
  );
  rows = λ p. goes.rows p ∙ sym (r p);
  cells = λ p. goes.cells p ∙ sym (c p);
  blocks = λ p. goes.blocks p ∙ sym (w p);
}

-- neither of two blocks has a row, a cell or words
pub goes_plain : (heap heap' : ℕ → Block) (t : Tables) (old new : Block) (q : ℕ) → Goes heap t → heap q ≡ old → Placed heap heap' q new
    → row_in q new ≡ row_in q old → cell_in new ≡ cell_in old → words_in new ≡ words_in old → Goes heap' t
goes_plain heap heap' t old new q goes was placed r c w = goes_on heap heap' t goes
    (λ p. elim (cases_eq p q) [
      | inl is ↦ ap (row_in p) (ap heap' is ∙ placed.now) ∙ ap (λ z. row_in z new) is ∙ r ∙ ap (λ z. row_in z old) (sym is) ∙ ap (row_in p) (sym (ap heap is ∙ was))
      | inr not ↦ ap (row_in p) (placed.same p not)
    ])
    (λ p. elim (cases_eq p q) [
      | inl is ↦ ap cell_in (ap heap' is ∙ placed.now) ∙ c ∙ ap cell_in (sym (ap heap is ∙ was))
      | inr not ↦ ap cell_in (placed.same p not)
    ])
    (λ p. elim (cases_eq p q) [
      | inl is ↦ ap words_in (ap heap' is ∙ placed.now) ∙ w ∙ ap words_in (sym (ap heap is ∙ was))
      | inr not ↦ ap words_in (placed.same p not)
    ])

-- a block is claimed
pub goes_claim : (heap heap' : ℕ → Block) (t : Tables) (ws : List ℕ) (q : ℕ) → Goes heap t → heap q ≡ Free → Placed heap heap' q (Claimed ws) → Goes heap' t
goes_claim heap heap' t ws q goes was placed = goes_plain heap heap' t Free (Claimed ws) q goes was placed refl refl refl

-- a claimed block becomes a table
pub goes_sink : (heap heap' : ℕ → Block) (t : Tables) (s : Space) (π ws : List ℕ) (q : ℕ) → Goes heap t → heap q ≡ Claimed ws → Placed heap heap' q (Table s π) → Goes heap' t
goes_sink heap heap' t s π ws q goes mine placed = goes_plain heap heap' t (Claimed ws) (Table s π) q goes mine placed refl refl refl

-- a word is written into a claimed block
pub goes_write : (heap heap' : ℕ → Block) (t : Tables) (ws xs : List ℕ) (q : ℕ) → Goes heap t → heap q ≡ Claimed ws → Placed heap heap' q (Claimed xs) → Goes heap' t
goes_write heap heap' t ws xs q goes mine placed = goes_plain heap heap' t (Claimed ws) (Claimed xs) q goes mine placed refl refl refl

abbrev pub cell_row_of : ℕ → ℕ → Cell
cell_row_of r value = record { of = record { at = r }; value = value }

-- the tables after a cell was filled
abbrev pub with_cell : Tables → ℕ → ℕ → Tables
with_cell t r value = record t { filled = cell_row_of r value ∷ t.filled }

-- the tables after a content was published
abbrev pub with_content : Tables → ℕ → ℕ → List ℕ → Tables
with_content t r q ws = record t { filled = cell_row_of r q ∷ t.filled; blocks = record { place = q; words = ws } ∷ t.blocks }

-- an object's cell becomes the place of a claimed block, which becomes its content
pub goes_fill : (heap heap' : ℕ → Block) (t : Tables) (d ws : List ℕ) (r q : ℕ) → Goes heap t → heap r ≡ Record Objects d 0 → heap q ≡ Claimed ws → heap' q ≡ Content r ws → heap' r ≡ Record Objects d q → ((p : ℕ) → p ≢ q → p ≢ r → heap' p ≡ heap p) → Goes heap' (with_content t r q ws)
goes_fill heap heap' t d ws r q goes was mine at_q at_r other = record {
  places = λ s e p. (
    λ h.
        let x = (goes.places s e p).0 h in
        elim (cases_eq p.at q) [
          | inl is ↦ absurd (let clash : Record s e.bytes x.0 ≡ Claimed ws = sym x.1 ∙ ap heap is ∙ mine in cc)
          | inr nq ↦
              elim (cases_eq p.at r) [
                | inl is ↦
                    let same : Record s e.bytes x.0 ≡ Record Objects d 0 = sym x.1 ∙ ap heap is ∙ was in
                    let s_is : Objects ≡ s = cc in
                    let e_is : d ≡ e.bytes = cc in
                    (q, ap heap' is ∙ at_r ∙ ap (λ y. Record y d q) s_is ∙ ap (λ y. Record s y q) e_is)
                | inr nr ↦ (x.0, other p.at nq nr ∙ x.1)
              ]
        ],
    λ x. elim (cases_eq p.at q) [
      | inl is ↦ absurd (let clash : Record s e.bytes x.0 ≡ Content r ws = sym x.1 ∙ ap heap' is ∙ at_q in cc)
      | inr nq ↦
          elim (cases_eq p.at r) [
            | inl is ↦
                let same : Record s e.bytes x.0 ≡ Record Objects d q = sym x.1 ∙ ap heap' is ∙ at_r in
                let s_is : Objects ≡ s = cc in
                let e_is : d ≡ e.bytes = cc in
                (goes.places s e p).1 (0, ap heap is ∙ was ∙ ap (λ y. Record y d 0) s_is ∙ ap (λ y. Record s y 0) e_is)
            | inr nr ↦ (goes.places s e p).1 (x.0, sym (other p.at nq nr) ∙ x.1)
          ]
    ],
  );
  rows = λ p. elim (cases_eq p q) [
    | inl is ↦ goes.rows p ∙ ap (row_in p) (ap heap is ∙ mine) ∙ ap (row_in p) (sym (ap heap' is ∙ at_q))
    | inr nq ↦
        elim (cases_eq p r) [
          | inl is ↦ goes.rows p ∙ ap (row_in p) (ap heap is ∙ was) ∙ ap (row_in p) (sym (ap heap' is ∙ at_r))
          | inr nr ↦ goes.rows p ∙ ap (row_in p) (sym (other p nq nr))
        ]
  ];
  cells = λ p. elim (cases_eq p r) [
    | inl is ↦ cond-true (r == p) q (cell_of t.filled p) (eq-eqb r p (sym is)) ∙ ap cell_in (sym (ap heap' is ∙ at_r))
    | inr nr ↦
        cond-false (r == p) q (cell_of t.filled p) (ne_eqb r p (λ e. nr (sym e))) ∙ goes.cells p ∙ elim (cases_eq p q) [
          | inl is ↦ ap cell_in (ap heap is ∙ mine) ∙ ap cell_in (sym (ap heap' is ∙ at_q))
          | inr nq ↦ ap cell_in (sym (other p nq nr))
        ]
  ];
  blocks = λ p. elim (cases_eq p q) [
    | inl is ↦ cond-true (q == p) (Some ws) (words_at t.blocks p) (eq-eqb q p (sym is)) ∙ ap words_in (sym (ap heap' is ∙ at_q))
    | inr nq ↦
        cond-false (q == p) (Some ws) (words_at t.blocks p) (ne_eqb q p (λ e. nq (sym e))) ∙ goes.blocks p ∙ elim (cases_eq p r) [
          | inl is ↦ ap words_in (ap heap is ∙ was) ∙ ap words_in (sym (ap heap' is ∙ at_r))
          | inr nr ↦ ap words_in (sym (other p nq nr))
        ]
  ];
}

-- an action's cell becomes the place of an object's record
pub goes_fill_place : (heap heap' : ℕ → Block) (t : Tables) (d : List ℕ) (q r : ℕ) → Goes heap t → heap q ≡ Record Actions d 0 → Placed heap heap' q (Record Actions d r) → Goes heap' (with_cell t q r)
goes_fill_place heap heap' t d q r goes was placed = record {
  places = λ s e p. (
    λ h.
        let x = (goes.places s e p).0 h in
        elim (cases_eq p.at q) [
          | inl is ↦
              let same : Record s e.bytes x.0 ≡ Record Actions d 0 = sym x.1 ∙ ap heap is ∙ was in
              let s_is : Actions ≡ s = cc in
              let e_is : d ≡ e.bytes = cc in
              (r, ap heap' is ∙ placed.now ∙ ap (λ y. Record y d r) s_is ∙ ap (λ y. Record s y r) e_is)
          | inr not ↦ (x.0, placed.same p.at not ∙ x.1)
        ],
    λ x. elim (cases_eq p.at q) [
      | inl is ↦
          let same : Record s e.bytes x.0 ≡ Record Actions d r = sym x.1 ∙ ap heap' is ∙ placed.now in
          let s_is : Actions ≡ s = cc in
          let e_is : d ≡ e.bytes = cc in
          (goes.places s e p).1 (0, ap heap is ∙ was ∙ ap (λ y. Record y d 0) s_is ∙ ap (λ y. Record s y 0) e_is)
      | inr not ↦ (goes.places s e p).1 (x.0, sym (placed.same p.at not) ∙ x.1)
    ],
  );
  rows = λ p. elim (cases_eq p q) [
    | inl is ↦ goes.rows p ∙ ap (row_in p) (ap heap is ∙ was) ∙ ap (row_in p) (sym (ap heap' is ∙ placed.now))
    | inr not ↦ goes.rows p ∙ ap (row_in p) (sym (placed.same p not))
  ];
  cells = λ p. elim (cases_eq p q) [
    | inl is ↦ cond-true (q == p) r (cell_of t.filled p) (eq-eqb q p (sym is)) ∙ ap cell_in (sym (ap heap' is ∙ placed.now))
    | inr not ↦ cond-false (q == p) r (cell_of t.filled p) (ne_eqb q p (λ e. not (sym e))) ∙ goes.cells p ∙ ap cell_in (sym (placed.same p not))
  ];
  blocks = λ p. elim (cases_eq p q) [
    | inl is ↦ goes.blocks p ∙ ap words_in (ap heap is ∙ was) ∙ ap words_in (sym (ap heap' is ∙ placed.now))
    | inr not ↦ goes.blocks p ∙ ap words_in (sym (placed.same p not))
  ];
}
