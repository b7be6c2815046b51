-- The empty region is laid out.
use Rattle.std.proofs.Common.{◌≡◌, ◌≢◌, ℕ, ◌+◌, ◌≤◌, List, [], ◌∷◌, length, ◌⊎◌, inl, inr, refl, sym, ap, ◌∙◌, arith, cond, ◌==◌}
use Rattle.std.proofs.lemmas.Bool.{cases_eq, eq-eqb, ne_eqb, cond-true, cond-false}
use Rattle.cas_model.specs.declared.place.Space.{Space}
use Rattle.cas_model.specs.declared.place.Space.TheVariants.{Objects, Actions}
use Rattle.region_core.specs.Words.{root}
use Rattle.region_core.specs.Heap.{Block, Free, Table, Record, Content, extent, fixed, Laid}

abbrev pub empty_heap : ℕ → Block
empty_heap p = cond (p == 8) (Table Objects []) (cond (p == 264) (Table Actions []) Free)

at_objects : (p : ℕ) → p ≡ 8 → empty_heap p ≡ Table Objects []
at_objects p e = cond-true (p == 8) _ _ (eq-eqb p 8 e)

at_actions : (p : ℕ) → p ≡ 264 → empty_heap p ≡ Table Actions []
at_actions p e = cond-false (p == 8) _ _ (ne_eqb p 8 (λ x. omega arith)) ∙ cond-true (p == 264) _ _ (eq-eqb p 264 e)

elsewhere : (p : ℕ) → p ≢ 8 → p ≢ 264 → empty_heap p ≡ Free
elsewhere p a b = cond-false (p == 8) _ _ (ne_eqb p 8 a) ∙ cond-false (p == 264) _ _ (ne_eqb p 264 b)

-- one of the three
which : (p : ℕ) → ((p ≡ 8) × (empty_heap p ≡ Table Objects [])) ⊎ (((p ≡ 264) × (empty_heap p ≡ Table Actions [])) ⊎ (empty_heap p ≡ Free))
which p = elim (cases_eq p 8) [
  | inl e ↦ inl (e, at_objects p e)
  | inr a ↦ elim (cases_eq p 264) [
    | inl e ↦ inr (inl (e, at_actions p e))
    | inr b ↦ inr (inr (elsewhere p a b))
  ]
]

sizes : (p : ℕ) → (((p ≡ 8) × (extent (empty_heap p) ≡ 256)) ⊎ (((p ≡ 264) × (extent (empty_heap p) ≡ 256)) ⊎ (extent (empty_heap p) ≡ 0)))
sizes p = elim (which p) [
  | inl x ↦ inl (x.0, ap extent x.1)
  | inr (inl x) ↦ inr (inl (x.0, ap extent x.1))
  | inr (inr x) ↦ inr (inr (ap extent x))
]

-- a table of the empty region is a root
pub root_only : (p : ℕ) (s : Space) (π : List ℕ) → empty_heap p ≡ Table s π → (p ≡ root s) × (π ≡ [])
root_only p s π h = elim (which p) [
  | inl x ↦
      let same : Table s π ≡ Table Objects [] = sym h ∙ x.1 in
      let s_is : s ≡ Objects = cc in
      let π_is : π ≡ [] = cc in
      (x.0 ∙ sym (ap root s_is), π_is)
  | inr (inl x) ↦
      let same : Table s π ≡ Table Actions [] = sym h ∙ x.1 in
      let s_is : s ≡ Actions = cc in
      let π_is : π ≡ [] = cc in
      (x.0 ∙ sym (ap root s_is), π_is)
  | inr (inr x) ↦ absurd (let clash : Table s π ≡ Free = sym h ∙ x in cc)
]

pub no_record : (p : ℕ) (s : Space) (d : List ℕ) (c : ℕ) → empty_heap p ≡ Record s d c → ⊥
no_record p s d c h = elim (which p) [
  | inl x ↦ (let clash : Record s d c ≡ Table Objects [] = sym h ∙ x.1 in cc)
  | inr (inl x) ↦ (let clash : Record s d c ≡ Table Actions [] = sym h ∙ x.1 in cc)
  | inr (inr x) ↦ (let clash : Record s d c ≡ Free = sym h ∙ x in cc)
]

pub no_content : (p r : ℕ) (ws : List ℕ) → empty_heap p ≡ Content r ws → ⊥
no_content p r ws h = elim (which p) [
  | inl x ↦ (let clash : Content r ws ≡ Table Objects [] = sym h ∙ x.1 in cc)
  | inr (inl x) ↦ (let clash : Content r ws ≡ Table Actions [] = sym h ∙ x.1 in cc)
  | inr (inr x) ↦ (let clash : Content r ws ≡ Free = sym h ∙ x in cc)
]

none_fixed : (p : ℕ) → length (fixed (empty_heap p)) ≡ 0
none_fixed p = elim (which p) [
  | inl x ↦ ap (λ b. length (fixed b)) x.1
  | inr (inl x) ↦ ap (λ b. length (fixed b)) x.1
  | inr (inr x) ↦ ap (λ b. length (fixed b)) x
]

roots_stand : (s : Space) → empty_heap (root s) ≡ Table s []
roots_stand Objects = at_objects 8 refl
roots_stand Actions = at_actions 264 refl

pub empty : (memory : ℕ → ℕ) → ((i : ℕ) → 8 ≤ i → memory i ≡ 0) → Laid empty_heap memory 520
empty memory zeros = record {
  shape = record {
    apart = λ p q h1 h2. elim (sizes p) [
      | inl x ↦ elim (sizes q) [ inl y ↦ omega arith | inr (inl y) ↦ absurd (omega arith) | inr (inr y) ↦ y ]
      | inr (inl x) ↦ elim (sizes q) [ inl y ↦ absurd (omega arith) | inr (inl y) ↦ absurd (omega arith) | inr (inr y) ↦ y ]
      | inr (inr x) ↦ absurd (omega arith)
    ];
    low = λ p h. elim (sizes p) [ inl x ↦ omega arith | inr (inl x) ↦ omega arith | inr (inr x) ↦ omega arith ];
    high = λ p h. elim (sizes p) [ inl x ↦ omega arith | inr (inl x) ↦ omega arith | inr (inr x) ↦ omega arith ];
    solid = λ p h. elim (which p) [
      | inl x ↦ absurd (omega (arith, ap extent x.1))
      | inr (inl x) ↦ absurd (omega (arith, ap extent x.1))
      | inr (inr x) ↦ x
    ];
  };
  keeps = record {
    held = λ p i h. absurd (omega (arith, none_fixed p));
    clear = λ i h. zeros i (omega arith);
  };
  tries = record {
    roots = roots_stand;
    only = λ p s h. (root_only p s [] h).0;
    levels = λ p s π h. let e : length π ≡ 0 = ap length (root_only p s π h).1 in omega arith;
    slots = λ p s π j h hj.
        let low : 8 ≤ p = elim (which p) [ inl x ↦ omega arith | inr (inl x) ↦ omega arith | inr (inr x) ↦ absurd (let clash : Table s π ≡ Free = sym h ∙ x in cc) ] in
        inl (zeros (p + j) (omega arith));
    tables = λ p s π j h. absurd (let clash : j ∷ π ≡ [] = (root_only p s (j ∷ π) h).1 in cc);
    records = λ p s d c h. absurd (no_record p s d c h);
    digests = λ p s d c h. absurd (no_record p s d c h);
  };
  cells = record {
    objects = λ p d c h h0. absurd (no_record p Objects d c h);
    contents = λ p r ws h. absurd (no_content p r ws h);
    actions = λ p d c h h0. absurd (no_record p Actions d c h);
  };
}
