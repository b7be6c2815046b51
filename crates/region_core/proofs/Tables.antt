-- The tables of a labelling go with it, and those of words with a certificate are a lawful start.
use Rattle.std.proofs.Common.{◌≡◌, ◌≢◌, ◌⊎◌, ℕ, zero, suc, ◌+◌, ◌<◌, ◌≤◌, ◌==◌, List, [], ◌∷◌, length, Some, None, true, false, refl, sym, ap, ◌∙◌, subst, inl, inr, arith}
use Rattle.std.specs.declared.option.Option.{Option}
use Rattle.std.specs.Option.{option_map}
use Rattle.std.specs.Prelude.{IsSome}
use Rattle.std.specs.FinMap as fin
use Rattle.std.proofs.lemmas.Bool.{cases_eq, cases_Bool, cases_order, cases_lt, cond-true, cond-false, eq-eqb, ne_eqb}
use Rattle.cas_model.specs.declared.digest.Digest.{Digest}
use Rattle.cas_model.specs.declared.object.Object.{Object}
use Rattle.cas_model.specs.declared.place.Place.{Place}
use Rattle.cas_model.specs.declared.place.Space.{Space}
use Rattle.cas_model.specs.declared.place.Space.TheVariants.{Objects, Actions}
use Rattle.cas_model.specs.declared.tables.Cell.{Cell}
use Rattle.cas_model.specs.declared.tables.Content as contents
use Rattle.cas_model.specs.declared.tables.Record as rows
use Rattle.cas_model.specs.Content.{content_places, content_bytes}
use Rattle.cas_model.specs.Object.{object_digest}
use Rattle.cas_model.specs.Primary as primary
use Rattle.cas_model.specs.Start as start
use Rattle.cas_model.specs.State.{State}
use Rattle.cas_model.specs.Tables.{Tables, place_of, record_at, cell_of, words_at, is_for, digest_at, digests_at, object_of, digest_of_record}
use Rattle.cas_model.proofs.Maps.{same-is, same-self, get-object, get-value, same-states}
use Rattle.region_core.specs.Certificate.{digest_in, digests_in, object_in, AllBelow, IsContentIn, AreContents, ObjectIn, ActionIn, Names, IsCertified}
use Rattle.region_core.specs.Goes.{Goes, row, row_in, cell_in, words_in, add_row, rows_below, add_cell, cells_below, add_content, contents_below, tables_of}
use Rattle.region_core.specs.Heap.{Block, Free, Table, Record, Content, Claimed, extent, Shape, Tries, Laid, memory_of}
use Rattle.region_core.specs.Holds.{IsRecord}
use Rattle.region_core.proofs.Finding.{unique_record}
use Rattle.region_core.proofs.Labels.{arena}

pub is_for-self : (s : Space) (d : List ℕ) (q : ℕ) → is_for s (record { bytes = d }) (row s d q) ≡ true
is_for-self Objects d q = same-self (record { bytes = d })
is_for-self Actions d q = same-self (record { bytes = d })

pub is_for-tells : (s t : Space) (d : List ℕ) (e : Digest) (q : ℕ) → is_for t e (row s d q) ≡ true → (s ≡ t) × (d ≡ e.bytes)
is_for-tells Objects Objects d e q h = (refl, ap (λ (z : Digest). z.bytes) (same-is (record { bytes = d }) e h))
is_for-tells Actions Actions d e q h = (refl, ap (λ (z : Digest). z.bytes) (same-is (record { bytes = d }) e h))
is_for-tells Objects Actions d e q h = absurd (cc)
is_for-tells Actions Objects d e q h = absurd (cc)

-- ---- records

row_other : (n p : ℕ) (b : Block) (rs : List rows.Record) → n ≢ p → record_at (add_row (row_in n b) rs) p ≡ record_at rs p
row_other n p Free rs ne = refl
row_other n p (Table s π) rs ne = refl
row_other n p (Content r ws) rs ne = refl
row_other n p (Claimed ws) rs ne = refl
row_other n p (Record s d c) rs ne = cond-false (n == p) (Some (row s d n)) (record_at rs p) (ne_eqb n p ne)

row_here : (n : ℕ) (b : Block) (rs : List rows.Record) → record_at rs n ≡ None → record_at (add_row (row_in n b) rs) n ≡ row_in n b
row_here n Free rs none = none
row_here n (Table s π) rs none = none
row_here n (Content r ws) rs none = none
row_here n (Claimed ws) rs none = none
row_here n (Record s d c) rs none = cond-true (n == n) (Some (row s d n)) (record_at rs n) (eq-eqb n n refl)

rows_above : (heap : ℕ → Block) (n p : ℕ) → n ≤ p → record_at (rows_below heap n) p ≡ None
rows_above heap zero p h = refl
rows_above heap (suc n) p h = row_other n p (heap n) (rows_below heap n) (λ e. omega arith) ∙ rows_above heap n p (omega arith)

rows_at : (heap : ℕ → Block) (n p : ℕ) → p < n → record_at (rows_below heap n) p ≡ row_in p (heap p)
rows_at heap zero p h = absurd (omega arith)
rows_at heap (suc n) p h = elim (cases_eq n p) [
  | inl e ↦ subst (λ (q : ℕ). record_at (add_row (row_in n (heap n)) (rows_below heap n)) q ≡ row_in q (heap q)) e (row_here n (heap n) (rows_below heap n) (rows_above heap n n (omega arith)))
  | inr ne ↦ row_other n p (heap n) (rows_below heap n) ne ∙ rows_at heap n p (omega arith)
]

place_other : (n : ℕ) (b : Block) (s : Space) (d : Digest) (rs : List rows.Record) → ((c : ℕ) → b ≢ Record s d.bytes c) → place_of (add_row (row_in n b) rs) s d ≡ place_of rs s d
place_other n Free s d rs ne = refl
place_other n (Table t π) s d rs ne = refl
place_other n (Content r ws) s d rs ne = refl
place_other n (Claimed ws) s d rs ne = refl
place_other n (Record t e c) s d rs ne = elim (cases_Bool (is_for s d (row t e n))) [
  | inl hit ↦ let same = is_for-tells t s e d n hit in absurd (ne c (ap (λ y. Record y e c) same.0 ∙ ap (λ y. Record s y c) same.1))
  | inr other ↦ cond-false (is_for s d (row t e n)) (Some (record { at = n })) (place_of rs s d) other
]

place_there : (heap : ℕ → Block) (memory : ℕ → ℕ) (n p : ℕ) (s : Space) (d : Digest) (c : ℕ) → Tries heap memory → p < n → heap p ≡ Record s d.bytes c → place_of (rows_below heap n) s d ≡ Some (record { at = p })
place_there heap memory zero p s d c tries h here = absurd (omega arith)
place_there heap memory (suc n) p s d c tries h here = elim (cases_eq n p) [
  | inl e ↦
      let at : heap n ≡ Record s d.bytes c = ap heap e ∙ here in
      ap (λ b. place_of (add_row (row_in n b) (rows_below heap n)) s d) at ∙ cond-true (is_for s d (row s d.bytes n)) (Some (record { at = n })) (place_of (rows_below heap n) s d) (is_for-self s d.bytes n) ∙ ap (λ z. Some (record { at = z })) e
  | inr ne ↦
      place_other n (heap n) s d (rows_below heap n) (λ k there. ne (unique_record heap memory s d.bytes k c n p tries there here)) ∙ place_there heap memory n p s d c tries (omega arith) here
]

found_cases : (n : ℕ) (p : Place) (b : Block) (s : Space) (d : Digest) (rs : List rows.Record) → place_of (add_row (row_in n b) rs) s d ≡ Some p → ((n ≡ p.at) × ((c : ℕ) × (b ≡ Record s d.bytes c))) ⊎ (place_of rs s d ≡ Some p)
found_cases n p Free s d rs h = inr h
found_cases n p (Table t π) s d rs h = inr h
found_cases n p (Content r ws) s d rs h = inr h
found_cases n p (Claimed ws) s d rs h = inr h
found_cases n p (Record t e c) s d rs h = elim (cases_Bool (is_for s d (row t e n))) [
  | inl hit ↦
      let same = is_for-tells t s e d n hit in
      let there : Place = record { at = n } in
      let both : Some there ≡ Some p = sym (cond-true (is_for s d (row t e n)) (Some (record { at = n })) (place_of rs s d) hit) ∙ h in
      let one : there ≡ p = cc in
      inl (ap (λ (z : Place). z.at) one, (c, ap (λ y. Record y e c) same.0 ∙ ap (λ y. Record s y c) same.1))
  | inr other ↦ inr (sym (cond-false (is_for s d (row t e n)) (Some (record { at = n })) (place_of rs s d) other) ∙ h)
]

place_found : (heap : ℕ → Block) (n : ℕ) (p : Place) (s : Space) (d : Digest) → place_of (rows_below heap n) s d ≡ Some p → IsRecord heap s d.bytes p.at
place_found heap zero p s d h = absurd (cc)
place_found heap (suc n) p s d h = elim (found_cases n p (heap n) s d (rows_below heap n) h) [
  | inl x ↦ let z = x.1 in (z.0, ap heap (sym x.0) ∙ z.1)
  | inr x ↦ place_found heap n p s d x
]

-- ---- cells and contents

cell_other : (n p value : ℕ) (cs : List Cell) → n ≢ p → cell_of (add_cell n value cs) p ≡ cell_of cs p
cell_other n p zero cs ne = refl
cell_other n p (suc value) cs ne = cond-false (n == p) (suc value) (cell_of cs p) (ne_eqb n p ne)

cell_here : (n value : ℕ) (cs : List Cell) → cell_of cs n ≡ 0 → cell_of (add_cell n value cs) n ≡ value
cell_here n zero cs none = none
cell_here n (suc value) cs none = cond-true (n == n) (suc value) (cell_of cs n) (eq-eqb n n refl)

cells_above : (heap : ℕ → Block) (n p : ℕ) → n ≤ p → cell_of (cells_below heap n) p ≡ 0
cells_above heap zero p h = refl
cells_above heap (suc n) p h = cell_other n p (cell_in (heap n)) (cells_below heap n) (λ e. omega arith) ∙ cells_above heap n p (omega arith)

cells_at : (heap : ℕ → Block) (n p : ℕ) → p < n → cell_of (cells_below heap n) p ≡ cell_in (heap p)
cells_at heap zero p h = absurd (omega arith)
cells_at heap (suc n) p h = elim (cases_eq n p) [
  | inl e ↦ subst (λ (q : ℕ). cell_of (add_cell n (cell_in (heap n)) (cells_below heap n)) q ≡ cell_in (heap q)) e (cell_here n (cell_in (heap n)) (cells_below heap n) (cells_above heap n n (omega arith)))
  | inr ne ↦ cell_other n p (cell_in (heap n)) (cells_below heap n) ne ∙ cells_at heap n p (omega arith)
]

content_other : (n p : ℕ) (o : Option (List ℕ)) (cs : List contents.Content) → n ≢ p → words_at (add_content n o cs) p ≡ words_at cs p
content_other n p None cs ne = refl
content_other n p (Some ws) cs ne = cond-false (n == p) (Some ws) (words_at cs p) (ne_eqb n p ne)

content_here : (n : ℕ) (o : Option (List ℕ)) (cs : List contents.Content) → words_at cs n ≡ None → words_at (add_content n o cs) n ≡ o
content_here n None cs none = none
content_here n (Some ws) cs none = cond-true (n == n) (Some ws) (words_at cs n) (eq-eqb n n refl)

contents_above : (heap : ℕ → Block) (n p : ℕ) → n ≤ p → words_at (contents_below heap n) p ≡ None
contents_above heap zero p h = refl
contents_above heap (suc n) p h = content_other n p (words_in (heap n)) (contents_below heap n) (λ e. omega arith) ∙ contents_above heap n p (omega arith)

contents_at : (heap : ℕ → Block) (n p : ℕ) → p < n → words_at (contents_below heap n) p ≡ words_in (heap p)
contents_at heap zero p h = absurd (omega arith)
contents_at heap (suc n) p h = elim (cases_eq n p) [
  | inl e ↦ subst (λ (q : ℕ). words_at (add_content n (words_in (heap n)) (contents_below heap n)) q ≡ words_in (heap q)) e (content_here n (words_in (heap n)) (contents_below heap n) (contents_above heap n n (omega arith)))
  | inr ne ↦ content_other n p (words_in (heap n)) (contents_below heap n) ne ∙ contents_at heap n p (omega arith)
]

-- past the counter nothing begins
past : (heap : ℕ → Block) (counter p : ℕ) → Shape heap counter → counter ≤ p → heap p ≡ Free
past heap counter p shape h = elim (cases_eq (extent (heap p)) 0) [
  | inl none ↦ shape.solid p none
  | inr some ↦ absurd (omega (arith, shape.high p (omega arith)))
]

-- the tables of a labelling go with it
pub tables_go : (heap : ℕ → Block) (memory : ℕ → ℕ) (n size : ℕ) → Laid heap memory n → Goes heap (tables_of heap n size)
unfolding tables_of
tables_go heap memory n size laid = record {
  places = λ s d p. (
    λ h. place_found heap n p s d h,
    λ x.
        let long : extent (heap p.at) ≡ 5 = ap extent x.1 in
        place_there heap memory n p.at s d x.0 laid.tries (omega (arith, laid.shape.high p.at (omega arith))) x.1,
  );
  rows = λ p. elim (cases_lt p n) [
    | inl h ↦ rows_at heap n p h
    | inr h ↦ rows_above heap n p h ∙ sym (ap (row_in p) (past heap n p laid.shape h))
  ];
  cells = λ p. elim (cases_lt p n) [
    | inl h ↦ cells_at heap n p h
    | inr h ↦ cells_above heap n p h ∙ sym (ap cell_in (past heap n p laid.shape h))
  ];
  blocks = λ p. elim (cases_lt p n) [
    | inl h ↦ contents_at heap n p h
    | inr h ↦ contents_above heap n p h ∙ sym (ap words_in (past heap n p laid.shape h))
  ];
}

-- ---- what the rows say of the labels

pub row_out : (p : ℕ) (b : Block) (r : rows.Record) → row_in p b ≡ Some r → (c : ℕ) × (b ≡ Record r.space r.digest.bytes c) × (r.place.at ≡ p)
row_out p Free r h = absurd (cc)
row_out p (Table s π) r h = absurd (cc)
row_out p (Content o ws) r h = absurd (cc)
row_out p (Claimed ws) r h = absurd (cc)
row_out p (Record s d c) r h =
    let same : row s d p ≡ r = cc in
    (c, (λ i. Record (same i).space (same i).digest.bytes c), sym (ap (λ (x : rows.Record). x.place.at) same))

row_none : (p : ℕ) (b : Block) → row_in p b ≡ None → cell_in b ≡ 0
row_none p Free h = refl
row_none p (Table s π) h = refl
row_none p (Content o ws) h = refl
row_none p (Claimed ws) h = refl
row_none p (Record s d c) h = absurd (cc)

pub words_out : (b : Block) (ws : List ℕ) → words_in b ≡ Some ws → (r : ℕ) × (b ≡ Content r ws)
words_out Free ws h = absurd (cc)
words_out (Table s π) ws h = absurd (cc)
words_out (Record s d c) ws h = absurd (cc)
words_out (Claimed xs) ws h = absurd (cc)
words_out (Content r xs) ws h = let same : xs ≡ ws = cc in (r, ap (Content r) same)

module _ (heap : ℕ → Block) (t : Tables) (goes : Goes heap t) where
  pub record_row : (p : ℕ) (s : Space) (d : List ℕ) (c : ℕ) → heap p ≡ Record s d c → record_at t.bound p ≡ Some (row s d p)
  record_row p s d c h = goes.rows p ∙ ap (row_in p) h

  pub digest_row : (p : ℕ) (s : Space) (d : List ℕ) (c : ℕ) → heap p ≡ Record s d c → digest_at t.bound p ≡ digest_in (heap p)
  digest_row p s d c h = ap digest_of_record (record_row p s d c h) ∙ sym (ap digest_in h)

  pub cell_row : (p : ℕ) (s : Space) (d : List ℕ) (c : ℕ) → heap p ≡ Record s d c → cell_of t.filled p ≡ c
  cell_row p s d c h = goes.cells p ∙ ap cell_in h

  pub content_row : (p r : ℕ) (ws : List ℕ) → heap p ≡ Content r ws → words_at t.blocks p ≡ Some ws
  content_row p r ws h = goes.blocks p ∙ ap words_in h

  pub digests_row : (v : ℕ) (ns : List ℕ) → AllBelow heap v ns → digests_at t.bound ns ≡ digests_in heap ns
  digests_row v [] all = refl
  digests_row v (n ∷ ns) all =
      let one = digest_row n Objects all.0.digest all.0.content all.0.here in
      let rest = digests_row v ns all.1 in
      λ i. one i ∷ rest i

  pub object_row : (v : ℕ) (ws : List ℕ) → AllBelow heap v (content_places ws) → object_of t.bound ws ≡ object_in heap ws
  object_row v ws all =
      let refs = digests_row v (content_places ws) all in
      λ i. record { refs = refs i; «data» = content_bytes ws }

  pub filled_row : (p : ℕ) (d : List ℕ) (c : ℕ) → heap p ≡ Record Objects d c → c ≢ 0 → start.IsFilled t p
  filled_row p d c h filled = record {
    object = record { found = row Objects d p; is = record_row p Objects d c h; in_space = refl };
    filled = (let e = cell_row p Objects d c h in omega arith);
  }

  refs_row : (v : ℕ) (ns : List ℕ) → AllBelow heap v ns → start.RefsBelow t v ns
  refs_row v [] all = tt
  refs_row v (n ∷ ns) all = (
    filled_row n all.0.digest all.0.content all.0.here all.0.filled,
    (let e = cell_row n Objects all.0.digest all.0.content all.0.here in omega (arith, e, all.0.below)),
    refs_row v ns all.1,
  )

  pub content_for : (v : ℕ) (d : Digest) (ws : List ℕ) → IsContentIn heap v d.bytes ws → start.IsContentFor t d v ws
  content_for v d ws x = record {
    content = x.content;
    refs = refs_row v (content_places ws) x.refs;
    named = ap object_digest (object_row v ws x.refs) ∙ x.named;
  }

not_some : {X : Type 0} (o : Option X) → o ≡ None → IsSome o → ⊥
not_some o e some = let clash : false ≡ true = subst IsSome e some in cc

-- ---- a lawful start

module _ (heap : ℕ → Block) (words : List ℕ) (size : ℕ) (state : State) (x : IsCertified heap words size state) (t : Tables) (goes : Goes heap t)
    (size_is : t.size ≡ size) (counter_is : t.counter ≡ length words) (given_is : t.given ≡ length words) (none_claimed : t.claims ≡ []) where
  tied : start.IsTied t.bound
  tied = record {
    to = λ s d p h.
        let z = (goes.places s d p).0 h in
        (row s d.bytes p.at, record_row heap t goes p.at s d.bytes z.0 z.1, refl, refl);
    back = λ n r h.
        let z = row_out n (heap n) r (sym (goes.rows n) ∙ h) in
        let at : heap r.place.at ≡ Record r.space r.digest.bytes z.0 = ap heap z.2 ∙ z.1 in
        ((goes.places r.space r.digest r.place).1 (z.0, at), z.2);
  }

  names_cell : (n : ℕ) (s : Space) (d : Digest) (c : ℕ) → heap n ≡ Record s d.bytes c → c ≢ 0 → start.CellNames t s d c
  names_cell n Objects d c h filled =
      let z = x.laid.cells.objects n d.bytes c h filled in
      (z.words, content_row heap t goes c n z.words z.here, content_for heap t goes c d z.words (x.contents c n d.bytes z.words z.here h))
  names_cell n Actions d c h filled =
      let z = x.laid.cells.actions n d.bytes c h filled in
      filled_row heap t goes c z.digest z.content z.here z.filled

  -- a named block is one of the labelling
  named_block : (n k : ℕ) → start.IsNamed t n k → (extent (heap n) ≡ k) × ((s : Space) → heap n ≢ Table s [])
  named_block n k (inl a) = of_row (record_at t.bound n) refl a.0
    where
      of_row : (o : Option rows.Record) → record_at t.bound n ≡ o → IsSome (record_at t.bound n) → (extent (heap n) ≡ k) × ((s : Space) → heap n ≢ Table s [])
      of_row None e some = absurd (not_some (record_at t.bound n) e some)
      of_row (Some r) e some =
          let z = row_out n (heap n) r (sym (goes.rows n) ∙ e) in
          (ap extent z.1 ∙ sym a.1, λ s h. let clash : Record r.space r.digest.bytes z.0 ≡ Table s [] = sym z.1 ∙ h in cc)
  named_block n k (inr b) =
      let z = words_out (heap n) b.0 (sym (goes.blocks n) ∙ b.1) in
      (ap extent z.1 ∙ sym b.2, λ s h. let clash : Content z.0 b.0 ≡ Table s [] = sym z.1 ∙ h in cc)

  some_words : (n k : ℕ) → start.IsNamed t n k → 0 < k
  some_words n k a = elim (cases_eq (extent (heap n)) 0) [
    | inl none ↦ absurd (not_free a (x.laid.shape.solid n none))
    | inr some ↦ let e = (named_block n k a).0 in omega arith
  ]
    where
      not_free : start.IsNamed t n k → heap n ≡ Free → ⊥
      not_free (inl a) free = not_some (record_at t.bound n) (goes.rows n ∙ ap (row_in n) free) a.0
      not_free (inr b) free = let z = words_out (heap n) b.0 (sym (goes.blocks n) ∙ b.1) in let clash : Content z.0 b.0 ≡ Free = sym z.1 ∙ free in cc

  pub lawful_start : start.IsLawfulStart t
  lawful_start = record {
    least = subst (λ n. 4096 ≤ n) (sym size_is) x.headed.least;
    most = subst (λ n. n ≤ 67108864) (sym size_is) x.headed.most;
    counter_least = subst (λ n. 520 ≤ n) (sym counter_is) x.headed.long;
    counter_most = omega (arith, x.headed.within, size_is, counter_is);
    gave = given_is ∙ sym counter_is;
    tied = tied;
    rooted = λ n none. goes.cells n ∙ row_none n (heap n) (sym (goes.rows n) ∙ none);
    names = λ n r h filled.
        let z = row_out n (heap n) r (sym (goes.rows n) ∙ h) in
        let cell : cell_of t.filled n ≡ z.0 = cell_row heap t goes n r.space r.digest.bytes z.0 z.1 in
        subst (start.CellNames t r.space r.digest) (sym cell) (names_cell n r.space r.digest z.0 z.1 (λ e. omega arith));
    used = λ n ws h.
        let z = words_out (heap n) ws (sym (goes.blocks n) ∙ h) in
        let y = x.laid.cells.contents n z.0 ws z.1 in
        (z.0, record { found = row Objects y.digest z.0; is = record_row heap t goes z.0 Objects y.digest n y.here; in_space = refl }, cell_row heap t goes z.0 Objects y.digest n y.here);
    within = λ n k a.
        let z = named_block n k a in
        let some = some_words n k a in
        let size_there : extent (heap n) ≡ k = z.0 in
        (arena heap (memory_of words) (length words) n x.laid (omega arith) z.1, omega (arith, counter_is, x.laid.shape.high n (omega arith)));
    apart = λ n m a b hn hm ne.
        let ea : extent (heap n) ≡ a = (named_block n a hn).0 in
        let eb : extent (heap m) ≡ b = (named_block m b hm).0 in
        let sa = some_words n a hn in
        let sb = some_words m b hm in
        sides n m a b ne (λ h1 h2. omega (arith, x.laid.shape.apart n m h1 (omega arith))) (λ h1 h2. omega (arith, x.laid.shape.apart m n h1 (omega arith)));
    one_kind = λ n some. of_row n (record_at t.bound n) refl some;
    unclaimed = none_claimed;
  }
    where
      sides : (n m a b : ℕ) → n ≢ m → (n < m → m < n + a → ⊥) → (m < n → n < m + b → ⊥) → (n + a ≤ m) ⊎ (m + b ≤ n)
      sides n m a b ne left right = elim (cases_order n m) [
        | inl e ↦ absurd (ne e)
        | inr (inl less) ↦ elim (cases_lt m (n + a)) [ inl h ↦ absurd (left less h) | inr h ↦ inl h ]
        | inr (inr more) ↦ elim (cases_lt n (m + b)) [ inl h ↦ absurd (right more h) | inr h ↦ inr h ]
      ]

      of_row : (n : ℕ) (o : Option rows.Record) → record_at t.bound n ≡ o → IsSome (record_at t.bound n) → words_at t.blocks n ≡ None
      of_row n None e some = absurd (not_some (record_at t.bound n) e some)
      of_row n (Some r) e some = let z = row_out n (heap n) r (sym (goes.rows n) ∙ e) in goes.blocks n ∙ ap words_in z.1

-- ---- the state that the tables name

pub same_option : {X : Type 0} (a b : Option X) → ((v : X) → a ≡ Some v → b ≡ Some v) → ((v : X) → b ≡ Some v → a ≡ Some v) → a ≡ b
same_option None None f g = refl
same_option None (Some y) f g = g y refl
same_option (Some y) b f g = sym (f y refl)

module _ (heap : ℕ → Block) (memory : ℕ → ℕ) (counter : ℕ) (laid : Laid heap memory counter) (contents_are : AreContents heap) (t : Tables) (goes : Goes heap t) where
  under_place : (s : Space) (d : Digest) (p c : ℕ) → heap p ≡ Record s d.bytes c → primary.cell_under t s d ≡ c
  under_place s d p c h =
      let at : place_of t.bound s d ≡ Some (record { at = p }) = (goes.places s d (record { at = p })).1 (c, h) in
      ap (primary.cell_at t.filled) at ∙ cell_row heap t goes p s d.bytes c h

  -- the cell of a digest names what its record's label says
  cell_cases : (s : Space) (d : Digest) (v : ℕ) → primary.cell_under t s d ≡ suc v → (p : ℕ) × (heap p ≡ Record s d.bytes (suc v))
  cell_cases s d v e = of_place (place_of t.bound s d) refl
    where
      of_place : (o : Option Place) → place_of t.bound s d ≡ o → (p : ℕ) × (heap p ≡ Record s d.bytes (suc v))
      of_place None at = absurd (let clash : 0 ≡ suc v = sym (ap (primary.cell_at t.filled) at) ∙ e in omega arith)
      of_place (Some p) at =
          let z = (goes.places s d p).0 at in
          let cell : z.0 ≡ suc v = sym (cell_row heap t goes p.at s d.bytes z.0 z.1) ∙ sym (ap (primary.cell_at t.filled) at) ∙ e in
          (p.at, z.1 ∙ ap (Record s d.bytes) cell)

  object_to : (d : Digest) (o : Object) (v : ℕ) → primary.cell_under t Objects d ≡ v → primary.object_in t v ≡ Some o → ObjectIn heap d o
  object_to d o zero e h = absurd (cc)
  object_to d o (suc v) e h =
      let at = cell_cases Objects d v e in
      let z = laid.cells.objects at.0 d.bytes (suc v) at.1 (λ k. omega arith) in
      let y = contents_are (suc v) at.0 d.bytes z.words z.here at.1 in
      let words : words_at t.blocks (suc v) ≡ Some z.words = content_row heap t goes (suc v) at.0 z.words z.here in
      let both : Some (object_of t.bound z.words) ≡ Some o = sym (ap (option_map (object_of t.bound)) words) ∙ h in
      let o_is : object_of t.bound z.words ≡ o = cc in
      record { owner = at.0; place = suc v; words = z.words; record_ = at.1; content = z.here; object = sym (object_row heap t goes (suc v) z.words y.refs) ∙ o_is }

  object_back : (d : Digest) (o : Object) → ObjectIn heap d o → primary.object_under t d ≡ Some o
  object_back d o z =
      let cell : primary.cell_under t Objects d ≡ z.place = under_place Objects d z.owner z.place z.record_ in
      let y = contents_are z.place z.owner d.bytes z.words z.content z.record_ in
      ap (primary.object_in t) cell ∙ at_place z.place refl ∙ ap (λ u. Some u) (object_row heap t goes z.place z.words y.refs ∙ z.object)
    where
      at_place : (v : ℕ) → z.place ≡ v → primary.object_in t v ≡ Some (object_of t.bound z.words)
      at_place zero e = absurd (elim (cases_eq (extent (heap z.place)) 0) [
        | inl none ↦ let clash : Content z.owner z.words ≡ Free = sym z.content ∙ laid.shape.solid z.place none in cc
        | inr some ↦ omega (arith, laid.shape.low z.place (omega arith))
      ])
      at_place (suc v) e = ap (option_map (object_of t.bound)) (content_row heap t goes (suc v) z.owner z.words (ap heap (sym e) ∙ z.content))

  action_to : (k w : Digest) (v : ℕ) → primary.cell_under t Actions k ≡ v → primary.value_in t v ≡ Some w → ActionIn heap k w
  action_to k w zero e h = absurd (cc)
  action_to k w (suc v) e h =
      let at = cell_cases Actions k v e in
      let z = laid.cells.actions at.0 k.bytes (suc v) at.1 (λ i. omega arith) in
      let both : Some (digest_at t.bound (suc v)) ≡ Some w = h in
      let w_is : digest_at t.bound (suc v) ≡ w = cc in
      record { owner = at.0; cell = suc v; record_ = at.1; filled = (λ i. omega arith); value_in = sym (digest_row heap t goes (suc v) Objects z.digest z.content z.here) ∙ w_is }

  action_back : (k w : Digest) → ActionIn heap k w → primary.value_under t k ≡ Some w
  action_back k w z =
      let cell : primary.cell_under t Actions k ≡ z.cell = under_place Actions k z.owner z.cell z.record_ in
      let y = laid.cells.actions z.owner k.bytes z.cell z.record_ z.filled in
      ap (primary.value_in t) cell ∙ at_cell z.cell refl ∙ ap (λ u. Some u) (digest_row heap t goes z.cell Objects y.digest y.content y.here ∙ z.value_in)
    where
      at_cell : (v : ℕ) → z.cell ≡ v → primary.value_in t v ≡ Some (digest_at t.bound z.cell)
      at_cell zero e = absurd (z.filled e)
      at_cell (suc v) e = ap (λ u. Some (digest_at t.bound u)) (sym e)

  -- the state that the tables name is that of the labelling
  pub primary_names : Names heap (primary.primary t)
  primary_names = record {
    objects = λ d o. (λ h. object_to d o (primary.cell_under t Objects d) refl (sym (get-object t d) ∙ h), λ z. get-object t d ∙ object_back d o z);
    cache = λ k w. (λ h. action_to k w (primary.cell_under t Actions k) refl (sym (get-value t k) ∙ h), λ z. get-value t k ∙ action_back k w z);
  }

  pub primary_is : (state : State) → Names heap state → primary.primary t ≡ state
  primary_is state names = same-states (primary.primary t) state
      (λ d. get-object t d ∙ same_option (primary.object_under t d) (fin.get state.objects d) (λ o h. (names.objects d o).1 (object_to d o (primary.cell_under t Objects d) refl h)) (λ o h. object_back d o ((names.objects d o).0 h)))
      (λ k. get-value t k ∙ same_option (primary.value_under t k) (fin.get state.cache k) (λ w h. (names.cache k w).1 (action_to k w (primary.cell_under t Actions k) refl h)) (λ w h. action_back k w ((names.cache k w).0 h)))
