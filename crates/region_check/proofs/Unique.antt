-- Where no word lies in two blocks, each table has one path.
use Rattle.std.proofs.Common.{◌≡◌, ℕ, ◌+◌, ◌<◌, ◌≤◌, List, [], ◌∷◌, get_or, inl, inr, refl, sym, ap, ◌∙◌, arith}
use Rattle.std.proofs.lemmas.Bool.{cases_eq}
use Rattle.cas_model.specs.declared.place.Space.{Space}
use Rattle.cas_model.specs.declared.place.Space.TheVariants.{Objects, Actions}
use Rattle.region_core.specs.Leads.{Leads, IsSlot}
use Rattle.region_core.specs.Words.{root, width}
use Rattle.region_check.specs.Flaws.{Naming, BySlot, ByCell, LiesIn, IsShared}
use Rattle.region_check.specs.Passes.{HasNoneBefore}

module _ (words : List ℕ) (apart : (w : ℕ) → IsShared words w → ⊥) where
  -- two namings of blocks with a common word are one
  pub one_naming : (x y : Naming) (w : ℕ) → LiesIn words x w → LiesIn words y w → x ≡ y
  one_naming (BySlot a) (BySlot b) w x y = elim (cases_eq a b) [ inl e ↦ ap BySlot e | inr ne ↦ absurd (apart w (BySlot a, BySlot b, (λ e. ne (let z : a ≡ b = cc in z)), x, y)) ]
  one_naming (ByCell a) (ByCell b) w x y = elim (cases_eq a b) [ inl e ↦ ap ByCell e | inr ne ↦ absurd (apart w (ByCell a, ByCell b, (λ e. ne (let z : a ≡ b = cc in z)), x, y)) ]
  one_naming (BySlot a) (ByCell b) w x y = absurd (apart w (BySlot a, ByCell b, (λ e. cc), x, y))
  one_naming (ByCell a) (BySlot b) w x y = absurd (apart w (ByCell a, BySlot b, (λ e. cc), x, y))

  root_apart : (s t : Space) (w : ℕ) → root s ≤ w → w < root s + 256 → root t ≤ w → w < root t + 256 → s ≡ t
  root_apart Objects Objects w a b c d = refl
  root_apart Actions Actions w a b c d = refl
  root_apart Objects Actions w a b c d = absurd (omega arith)
  root_apart Actions Objects w a b c d = absurd (omega arith)

  root_high : (s : Space) → root s + 256 ≤ 520
  root_high Objects = omega arith
  root_high Actions = omega arith

  table_lies : (s : Space) (above : List ℕ) (j u w : ℕ) → (lead : Leads words s (j ∷ above) u) → u ≤ w → w < u + 16 → LiesIn words (BySlot (lead.0 + j)) w
  table_lies s above j u w lead low high = (u, 16, ((s, (above, j, (lead.0, lead.1, lead.2, refl))), inr (lead.3, refl)), low, high)

  -- two tables with a common word are one, with one path
  pub one_path :
      (s t : Space) (above beyond : List ℕ) (u v w : ℕ) → Leads words s above u → Leads words t beyond v → u ≤ w → w < u + width above → v ≤ w → w < v + width beyond
      → (s ≡ t) × (above ≡ beyond) × (u ≡ v)
  one_path s t [] [] u v w a b low high low2 high2 =
      let same : s ≡ t = root_apart s t w (omega (arith, a)) (omega (arith, a)) (omega (arith, b)) (omega (arith, b)) in
      (same, refl, a ∙ ap root same ∙ sym b)
  one_path s t [] (i ∷ beyond) u v w a b low high low2 high2 = absurd (omega (arith, a, root_high s, b.3.1))
  one_path s t (j ∷ above) [] u v w a b low high low2 high2 = absurd (omega (arith, b, root_high t, a.3.1))
  one_path s t (j ∷ above) (i ∷ beyond) u v w a b low high low2 high2 =
      let names : BySlot (a.0 + j) ≡ BySlot (b.0 + i) = one_naming (BySlot (a.0 + j)) (BySlot (b.0 + i)) w (table_lies s above j u w a low high) (table_lies t beyond i v w b low2 high2) in
      let slot : a.0 + j ≡ b.0 + i = cc in
      let up = one_path s t above beyond a.0 b.0 (a.0 + j) a.1 b.1 (omega arith) (omega (arith, a.2)) (omega arith) (omega (arith, b.2, slot)) in
      let index : j ≡ i = omega (arith, slot, up.2) in
      let word : get_or words (a.0 + j) 0 ≡ get_or words (b.0 + i) 0 = ap (λ k. get_or words k 0) slot in
      (up.0, (λ k. index k ∷ up.1 k), omega (arith, word, a.3.0, b.3.0))

  -- a slot is one of one table
  pub one_slot : (s t : Space) (above beyond : List ℕ) (j i slot : ℕ) → IsSlot words s above j slot → IsSlot words t beyond i slot → (s ≡ t) × (above ≡ beyond) × (j ≡ i)
  one_slot s t above beyond j i slot a b =
      let z = one_path s t above beyond a.0 b.0 slot a.1 b.1 (omega (arith, a.3)) (omega (arith, a.2, a.3)) (omega (arith, b.3)) (omega (arith, b.2, b.3)) in
      (z.0, z.1, omega (arith, z.2, a.3, b.3))

pub none_shared : (words : List ℕ) → HasNoneBefore words 7 → (w : ℕ) → IsShared words w → ⊥
none_shared words none w bad = none.none 6 w (omega arith) bad
