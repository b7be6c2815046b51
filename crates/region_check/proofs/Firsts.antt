-- The first flaw, by turns.
use Rattle.std.proofs.Common.{ℕ, suc, ◌≤◌, List, inl, inr, refl, sym, subst, arith}
use Rattle.std.proofs.lemmas.Bool.{cases_eq, cases_lt}
use Rattle.region_check.specs.declared.flaw.FlawKind.{FlawKind}
use Rattle.region_check.specs.declared.flaw.FlawKind.TheVariants as kinds
use Rattle.region_check.specs.Flaws.{HasKind, turn, IsFirstFlaw}
use Rattle.region_check.specs.Passes.{RowOf, HasNoneBefore}

-- a flaw of a kind is one of its turn
pub by_turn : (words : List ℕ) (k : FlawKind) (p : ℕ) → HasKind words k p → RowOf words (turn k) p
by_turn words kinds.Header p h = h
by_turn words kinds.Slot p h = h
by_turn words kinds.Range p h = h
by_turn words kinds.Overlap p h = h
by_turn words kinds.Path p h = h
by_turn words kinds.Length p h = h
by_turn words kinds.Padding p h = h
by_turn words kinds.Reference p h = h
by_turn words kinds.Order p h = h
by_turn words (kinds.DigestDiffers kept found) p h = (kept, found, h)
by_turn words kinds.ActionValue p h = (refl, h)
by_turn words kinds.PastCounter p h = h

-- the first flaw: none has an earlier turn, and it is the least of its own
pub first_flaw : (words : List ℕ) (k : FlawKind) (place : ℕ) → HasKind words k place → HasNoneBefore words (turn k) → ((p : ℕ) → RowOf words (turn k) p → place ≤ p) → IsFirstFlaw words (record { place = place; kind = k })
first_flaw words k place here none least = record {
  here = here;
  first = λ other p h. elim (cases_lt (turn other) (turn k)) [
    | inl before ↦ absurd (none.none (turn other) p before (by_turn words other p h))
    | inr after ↦ elim (cases_eq (turn k) (turn other)) [
      | inl same ↦ inr (same, least p (subst (λ n. RowOf words n p) (sym same) (by_turn words other p h)))
      | inr differ ↦ inl (omega arith)
    ]
  ];
}

pub none_more : (words : List ℕ) (n : ℕ) → HasNoneBefore words n → ((p : ℕ) → RowOf words n p → ⊥) → HasNoneBefore words (suc n)
none_more words n none here = record {
  none = λ m p h bad. elim (cases_eq m n) [
    | inl same ↦ here p (subst (λ i. RowOf words i p) same bad)
    | inr not ↦ none.none m p (omega arith) bad
  ];
}

-- ---- the header
