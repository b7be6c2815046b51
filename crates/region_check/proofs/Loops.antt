-- The loops over references and levels.
use Rattle.std.proofs.Common.{◌≡◌, ◌≢◌, ℕ, zero, suc, ◌+◌, ◌<◌, ◌≤◌, List, [], ◌∷◌, length, get_or, inl, inr, refl, sym, ap, ◌∙◌, subst, arith}
use Rattle.std.proofs.lemmas.Bool.{cases_eq, cases_lt}
use Rattle.cas_model.specs.declared.digest.Digest.{Digest}
use Rattle.cas_model.specs.declared.place.Space.{Space}
use Rattle.cas_model.specs.declared.place.Space.TheVariants.{Objects, Actions}
use Rattle.cas_model.specs.Trie.{path, index_of}
use Rattle.region_core.specs.Leads.{NamesTableAt, Leads}
use Rattle.region_core.specs.Words.{root, width}
use Rattle.region_check.specs.Flaws.{IsReferenceWord, refs_told}
use Rattle.region_check.specs.Shown.{IsLeastWhere, LeadsTo}

-- the first reference word of which something holds is the least
pub first_reference : (words : List ℕ) (c n : ℕ) (Q : ℕ → Type 0) → ((i : ℕ) → i < n → Q (c + 1 + i) → ⊥) → n < refs_told words c → Q (c + 1 + n) → IsLeastWhere (λ p. IsReferenceWord words c p × Q p) (c + 1 + n)
first_reference words c n Q before h here = record {
  here = ((n, h, refl), here);
  least = λ m x. elim (cases_lt x.0.0 n) [
    | inl lower ↦ absurd (before x.0.0 lower (subst Q x.0.2 x.1))
    | inr after ↦ omega (arith, after, x.0.2)
  ];
}

pub no_reference : (words : List ℕ) (c n : ℕ) (Q : ℕ → Type 0) → ((i : ℕ) → i < n → Q (c + 1 + i) → ⊥) → refs_told words c ≤ n → (p : ℕ) → IsReferenceWord words c p × Q p → ⊥
no_reference words c n Q before h p x = before x.0.0 (omega (arith, x.0.1)) (subst Q x.0.2 x.1)

-- ---- levels

-- indexes lead to one table
pub one_lead : (words : List ℕ) (s : Space) (above : List ℕ) (t u : ℕ) → Leads words s above t → Leads words s above u → t ≡ u
one_lead words s [] t u a b = a ∙ sym b
one_lead words s (j ∷ above) t u a b =
    let same : a.0 ≡ b.0 = one_lead words s above a.0 b.0 a.1 b.1 in
    let word : get_or words (a.0 + j) 0 ≡ get_or words (b.0 + j) 0 = ap (λ k. get_or words (k + j) 0) same in
    omega (arith, word, a.3.0, b.3.0)

-- what leads to a table leads to one at each level before
pub leads_down : (words : List ℕ) (s : Space) (d : List ℕ) (n m t : ℕ) → m ≤ n → Leads words s (path d n) t → (u : ℕ) × Leads words s (path d m) u
leads_down words s d zero m t h lead = let at : m ≡ zero = omega arith in (t, subst (λ k. Leads words s (path d k) t) (sym at) lead)
leads_down words s d (suc n) m t h lead = elim (cases_eq m (suc n)) [
  | inl same ↦ (t, subst (λ k. Leads words s (path d k) t) (sym same) lead)
  | inr less ↦ leads_down words s d n m lead.0 (omega arith) lead.1
]

-- on the way down, none of the slots so far is the one
pub record Walked (words : List ℕ) (s : Space) (d : Digest) (slot level table : ℕ) : Type 0 where
  pub lead : Leads words s (path d.bytes level) table
  pub missed : (l t : ℕ) → l < level → Leads words s (path d.bytes l) t → slot ≢ t + index_of d.bytes l

module _ (words : List ℕ) (s : Space) (d : Digest) (slot level table : ℕ) (w : Walked words s d slot level table) (high : level ≤ 62) where
  pub walked_inside : 520 ≤ length words → (k : ℕ) → k < width (path d.bytes level) → table + k < length words
  walked_inside least k h = cases (path d.bytes level) w.lead h
    where
      low : (s : Space) → root s + 256 ≤ 520
      low Objects = omega arith
      low Actions = omega arith

      cases : (above : List ℕ) → Leads words s above table → k < width above → table + k < length words
      cases [] lead h = omega (arith, lead, low s)
      cases (j ∷ above) lead h = omega (arith, lead.3.2)

  missed_here : slot ≢ table + index_of d.bytes level → (l t : ℕ) → l ≤ level → Leads words s (path d.bytes l) t → slot ≢ t + index_of d.bytes l
  missed_here other l t h lead is = elim (cases_eq l level) [
    | inl same ↦
        let at : t ≡ table = one_lead words s (path d.bytes level) t table (subst (λ k. Leads words s (path d.bytes k) t) same lead) w.lead in
        other (is ∙ (λ i. at i + index_of d.bytes (same i)))
    | inr less ↦ w.missed l t (omega arith) lead is
  ]

  pub walked_on : (j next : ℕ) → j ≡ index_of d.bytes level → j < width (path d.bytes level) → slot ≢ table + j → NamesTableAt words (table + j) next → Walked words s d slot (level + 1) next
  walked_on j next at within other named =
      let more : suc level ≡ level + 1 = omega arith in
      let lead : Leads words s (path d.bytes (suc level)) next = (table, w.lead, subst (λ k. k < width (path d.bytes level)) at within, subst (λ k. NamesTableAt words (table + k) next) at named) in
      record {
        lead = subst (λ k. Leads words s (path d.bytes k) next) more lead;
        missed = λ l t h. missed_here (λ e. other (e ∙ ap (λ k. table + k) (sym at))) l t (omega arith);
      }

  pub walked_end : (j : ℕ) → j ≡ index_of d.bytes level → slot ≢ table + j → ((t : ℕ) → NamesTableAt words (table + j) t → ⊥) → LeadsTo words s d slot → ⊥
  walked_end j at other none x = elim (cases_lt level x.0) [
    | inl deeper ↦
        let z = leads_down words s d.bytes x.0 (suc level) x.2 (omega arith) x.3 in
        let up : z.1.0 ≡ table = one_lead words s (path d.bytes level) z.1.0 table z.1.1 w.lead in
        none z.0 (subst (λ k. NamesTableAt words (table + k) z.0) (sym at) (subst (λ u. NamesTableAt words (u + index_of d.bytes level) z.0) up z.1.3))
    | inr upper ↦ missed_here (λ e. other (e ∙ ap (λ k. table + k) (sym at))) x.0 x.2 upper x.3 x.4
  ]
