-- The contents that objects' cells name, and their flaws.
use Rattle.std.proofs.Common.{◌≡◌, ◌≢◌, ◌⊎◌, ℕ, ◌+◌, ◌-◌, ◌/◌, ◌%◌, ◌<◌, ◌≤◌, List, length, get_or, inl, inr, refl, sym, ap, ◌∙◌, subst, arith}
use Rattle.std.specs.declared.option.Option.{Option}
use Rattle.std.proofs.lemmas.Bool.{cases_eq}
use Rattle.cas_model.specs.declared.digest.Digest.{Digest}
use Rattle.cas_model.specs.declared.place.Space.TheVariants.{Objects}
use Rattle.cas_model.specs.Object.{object_digest}
use Rattle.region_core.specs.Leads.{IsRecordOf, digest_there, cell_there, object_there}
use Rattle.region_check.specs.declared.least.Leasts.{Leasts}
use Rattle.region_check.specs.declared.least.Rows.{Rows}
use Rattle.region_check.specs.declared.slot_flaws.Row.{Row}
use Rattle.region_check.specs.declared.slot_flaws.Row.TheVariants as rows
use Rattle.region_check.specs.Flaws.{IsReached, IsTooLong, BadLength, BadDigest}
use Rattle.region_check.specs.Passes.{RowOf}
use Rattle.region_check.specs.Roles.{AreRoles, IsCellRole}
use Rattle.region_check.specs.Shown.{LeastWhere, LeastOfEach, ContentShown, CellShown, CellsShown, IsOfContents, lower_of, turn_of}
use Rattle.region_check.proofs.Lowest.{least_lower, each_lower}
use Rattle.region_check.proofs.Rows.{least_same}

-- ---- one cell

module _ (words roles : List ℕ) (are : AreRoles words roles) (cell : ℕ) where
  pub cell_high : IsCellRole roles cell → 4 ≤ cell
  cell_high role = let x = (are.cells cell).0 role in omega (arith, x.2)

  pub no_cell : get_or roles cell 0 / 2 % 2 ≡ 0 → (r c : ℕ) → cell ≡ r + 4 → IsReached words r c → ⊥
  no_cell even r c at x = let role : get_or roles cell 0 / 2 % 2 ≡ 1 = (are.cells cell).1 (r, x.0.0.0, at) in omega (arith, even, role)

  pub owned : IsCellRole roles cell → 520 ≤ get_or words cell 0 → get_or words cell 0 < length words → (cell ≡ cell - 4 + 4) × IsReached words (cell - 4) (get_or words cell 0)
  owned role low within =
      let x = (are.cells cell).0 role in
      let owner : cell - 4 ≡ x.0 = omega (arith, x.2) in
      let at : cell ≡ cell - 4 + 4 = omega (arith, x.2) in
      let there : get_or words cell 0 ≡ cell_there words (cell - 4) = ap (λ k. get_or words k 0) at in
      let filled : cell_there words (cell - 4) ≢ 0 = λ e. omega (arith, low, there, e) in
      (at, (((subst (IsRecordOf words Objects) (sym owner) x.1, filled), there), low, within))

-- a cell that names no content in the arena
pub cell_outside : (words : List ℕ) (cell : ℕ) → (get_or words cell 0 < 520) ⊎ (length words ≤ get_or words cell 0) → (r c : ℕ) → cell ≡ r + 4 → IsReached words r c → ⊥
cell_outside words cell out r c at x =
    let is : c ≡ get_or words cell 0 = x.0.1 ∙ ap (λ k. get_or words k 0) (sym at) in
    elim out [ inl low ↦ omega (arith, low, is, x.1) | inr high ↦ omega (arith, high, is, x.2) ]

-- a cell names one content
pub cell_shows : (words : List ℕ) (cell : ℕ) (row : Row) (owner place : ℕ) (o : Option ℕ) → cell ≡ owner + 4 → IsReached words owner place → LeastWhere (λ p. ContentShown words row owner place p) o → LeastWhere (CellShown words row cell) o
cell_shows words cell row owner place o at x h = least_same (λ p. ContentShown words row owner place p) (CellShown words row cell) o (λ n y. (owner, place, at, x, y)) back h
  where
    back : (n : ℕ) → CellShown words row cell n → ContentShown words row owner place n
    back n y =
        let same : y.0 ≡ owner = omega (arith, y.2, at) in
        let place_is : y.1 ≡ place = y.3.0.1 ∙ ap (cell_there words) same ∙ sym x.0.1 in
        subst (λ k. ContentShown words row owner k n) place_is (subst (λ k. ContentShown words row k y.1 n) same y.4)

-- ---- all cells

module _ (words : List ℕ) (row : Row) where
  pub cells_none : (n : ℕ) → CellsShown words row 0 n → ⊥
  cells_none n x = omega (arith, x.1)

  pub cells_more : (cell : ℕ) (old here : Option ℕ) → LeastWhere (CellsShown words row cell) old → LeastWhere (CellShown words row cell) here → LeastWhere (CellsShown words row (cell + 1)) (lower_of old here)
  cells_more cell old here a b =
      least_same (λ n. CellsShown words row cell n ⊎ CellShown words row cell n) (CellsShown words row (cell + 1)) (lower_of old here) to back
      (least_lower (CellsShown words row cell) (CellShown words row cell) old here a b)
    where
      to : (n : ℕ) → CellsShown words row cell n ⊎ CellShown words row cell n → CellsShown words row (cell + 1) n
      to n (inl x) = (x.0, omega (arith, x.1), x.2)
      to n (inr x) = (cell, omega arith, x)

      back : (n : ℕ) → CellsShown words row (cell + 1) n → CellsShown words row cell n ⊎ CellShown words row cell n
      back n x = elim (cases_eq x.0 cell) [
        | inl same ↦ inr (subst (λ k. CellShown words row k n) same x.2)
        | inr other ↦ inl (x.0, omega (arith, x.1), x.2)
      ]

  -- what a reached content shows is shown by its cell
  shown_from : (p r c : ℕ) → IsReached words r c → ContentShown words row r c p → CellsShown words row (length words) p
  shown_from p r c x shown = (r + 4, omega (arith, x.0.0.0.4.2), (r, c, refl, x, shown))

-- ---- three rows at once

-- a cell names one content
pub cell_shows_each :
    (words : List ℕ) (cell : ℕ) (three : Rows) (owner place : ℕ) (leasts : Leasts) → cell ≡ owner + 4 → IsReached words owner place → LeastOfEach (λ row p. ContentShown words row owner place p) three leasts
    → LeastOfEach (λ row. CellShown words row cell) three leasts
cell_shows_each words cell three owner place leasts at x h = record {
  first = cell_shows words cell three.first owner place leasts.first at x h.first;
  second = cell_shows words cell three.second owner place leasts.second at x h.second;
  third = cell_shows words cell three.third owner place leasts.third at x h.third;
}

-- one more word was looked at
pub each_cell :
    (words : List ℕ) (three : Rows) (cell : ℕ) (old here new : Leasts) → new.first ≡ lower_of old.first here.first → new.second ≡ lower_of old.second here.second → new.third ≡ lower_of old.third here.third
    → LeastOfEach (λ row. CellsShown words row cell) three old → LeastOfEach (λ row. CellShown words row cell) three here → LeastOfEach (λ row. CellsShown words row (cell + 1)) three new
each_cell words three cell old here new first second third a b =
    each_lower (λ row. CellsShown words row cell) (λ row. CellShown words row cell) (λ row. CellsShown words row (cell + 1)) three old here new first second third (λ row x y p q. cells_more words row cell x y p q) a b

-- ---- the rows of contents

module _ (words : List ℕ) where
  length_to : (p : ℕ) → CellsShown words rows.Length (length words) p → BadLength words p
  length_to p x = let z = x.2 in (z.0, subst (IsReached words z.0) (sym z.4.0) z.3, subst (IsTooLong words) (sym z.4.0) z.4.1)

  digest_to : (p : ℕ) → CellsShown words rows.Digest (length words) p → (kept found : Digest) × BadDigest words kept found p
  digest_to p x =
      let z = x.2 in
      (digest_there words p, object_digest (object_there words z.1), (z.1, subst (λ r. IsReached words r z.1) (sym z.4.0) z.3, refl, refl, λ e. z.4.1 (ap (digest_there words) (sym z.4.0) ∙ e)))

  digest_from : (p : ℕ) → ((kept found : Digest) × BadDigest words kept found p) → CellsShown words rows.Digest (length words) p
  digest_from p y = let b = y.2 in shown_from words rows.Digest p p b.0 b.1 (refl, λ e. b.4 (b.2 ∙ e ∙ sym b.3))

  pub contents_least : (row : Row) (o : Option ℕ) → IsOfContents row → LeastWhere (CellsShown words row (length words)) o → LeastWhere (RowOf words (turn_of row)) o
  contents_least rows.Length o of h = least_same (CellsShown words rows.Length (length words)) (RowOf words 5) o length_to (λ p y. shown_from words rows.Length p y.0 p y.1 (refl, y.2)) h
  contents_least rows.Padding o of h = least_same (CellsShown words rows.Padding (length words)) (RowOf words 8) o (λ p x. let z = x.2 in (z.0, z.1, z.3, z.4)) (λ p y. shown_from words rows.Padding p y.0 y.1 y.2 y.3) h
  contents_least rows.Reference o of h = least_same (CellsShown words rows.Reference (length words)) (RowOf words 9) o (λ p x. let z = x.2 in (z.0, z.1, z.3, z.4.0, z.4.1)) (λ p y. shown_from words rows.Reference p y.0 y.1 y.2 (y.3, y.4)) h
  contents_least rows.Order o of h = least_same (CellsShown words rows.Order (length words)) (RowOf words 10) o (λ p x. let z = x.2 in (z.0, z.1, z.3, z.4.0, z.4.1)) (λ p y. shown_from words rows.Order p y.0 y.1 y.2 (y.3, y.4)) h
  contents_least rows.Digest o of h = least_same (CellsShown words rows.Digest (length words)) (RowOf words 11) o digest_to digest_from h
  contents_least rows.Slot o of h = absurd of
  contents_least rows.Range o of h = absurd of
  contents_least rows.Path o of h = absurd of
  contents_least rows.Value o of h = absurd of
