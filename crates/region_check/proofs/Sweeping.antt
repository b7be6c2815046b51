-- The least word that lies in two blocks.
use Rattle.std.proofs.Common.{◌≡◌, ◌≢◌, ◌⊎◌, ℕ, ◌+◌, ◌-◌, ◌/◌, ◌%◌, ◌<◌, ◌≤◌, min, List, length, get_or, Some, None, inl, inr, refl, sym, ap, ◌∙◌, subst, arith}
use Rattle.std.specs.declared.option.Option.{Option}
use Rattle.std.proofs.lemmas.Bool.{cases_eq, cases_lt}
use Rattle.cas_model.specs.declared.place.Space.{Space}
use Rattle.region_check.specs.Flaws.{Naming, BySlot, ByCell, Covers, LiesIn, IsShared, IsSlotOf, IsReached, IsTooLong, end_told}
use Rattle.region_check.specs.Passes.{HasNoneBefore}
use Rattle.region_check.proofs.Rows.{slot_within}
use Rattle.region_check.specs.Roles.{IsClaimed, AreRoles}
use Rattle.region_check.specs.Shown.{LeastWhere, lower_of}
use Rattle.region_check.specs.Sweep.{MarkedRun, BlockMarked, OneSwept, CellSwept, IsBefore, SharedOf, IsBelow, Swept}
use Rattle.region_core.specs.Leads.{length_told}
use Rattle.region_check.proofs.Rows.{least_same}

-- ---- one block

-- ---- the roles stay

pub run_roles : (words before after : List ℕ) (at stop : ℕ) → AreRoles words before → MarkedRun before after at stop → AreRoles words after
run_roles words before after at stop roles run = record {
  long = run.long ∙ roles.long;
  small = λ w. either w (λ e. omega (arith, e, roles.small w)) (λ m. omega (arith, m.0, m.1));
  slots = λ w. (
    λ r. (roles.slots w).0 (either w (λ e. omega (arith, e, r)) (λ m. odd (get_or before w 0) (get_or after w 0) m.1 r)),
    λ z. either w (λ e. omega (arith, e, (roles.slots w).1 z)) (λ m. odd_back (get_or before w 0) (get_or after w 0) m.1 ((roles.slots w).1 z)),
  );
  cells = λ w. (
    λ r. (roles.cells w).0 (either w (λ e. half (get_or before w 0) (get_or after w 0) e r) (λ m. half_more (get_or before w 0) (get_or after w 0) m.1 r)),
    λ z. either w (λ e. half (get_or after w 0) (get_or before w 0) (sym e) ((roles.cells w).1 z)) (λ m. half_back (get_or before w 0) (get_or after w 0) m.1 ((roles.cells w).1 z)),
  );
}
  where
    either : {X : Type 0} (w : ℕ) → (get_or after w 0 ≡ get_or before w 0 → X) → ((get_or before w 0 < 4) × (get_or after w 0 ≡ get_or before w 0 + 4) → X) → X
    either w f g = elim (cases_lt w at) [
      | inl below ↦ f (run.same w (inl below))
      | inr low ↦ elim (cases_lt w stop) [ inl high ↦ g (run.more w low high) | inr past ↦ f (run.same w (inr past)) ]
    ]

    odd : (a b : ℕ) → b ≡ a + 4 → b % 2 ≡ 1 → a % 2 ≡ 1
    odd a b is h = omega arith

    odd_back : (a b : ℕ) → b ≡ a + 4 → a % 2 ≡ 1 → b % 2 ≡ 1
    odd_back a b is h = omega arith

    half : (a b : ℕ) → b ≡ a → b / 2 % 2 ≡ 1 → a / 2 % 2 ≡ 1
    half a b is h = omega arith

    half_more : (a b : ℕ) → b ≡ a + 4 → b / 2 % 2 ≡ 1 → a / 2 % 2 ≡ 1
    half_more a b is h = omega arith

    half_back : (a b : ℕ) → b ≡ a + 4 → a / 2 % 2 ≡ 1 → b / 2 % 2 ≡ 1
    half_back a b is h = omega arith

pub block_roles : (words before after : List ℕ) (at size : ℕ) (stop : Option ℕ) → AreRoles words before → BlockMarked before after at size stop → AreRoles words after
block_roles words before after at size None roles x = run_roles words before after at (at + size) roles x
block_roles words before after at size (Some stop) roles x = run_roles words before after at stop roles x.0

pub one_roles : (words : List ℕ) (x : Naming) (before after : List ℕ) (stop : Option ℕ) → AreRoles words before → OneSwept words x before after stop → AreRoles words after
one_roles words x before after stop roles one = elim one [
  | inl y ↦ block_roles words before after y.0 y.1 stop roles y.3
  | inr y ↦ subst (AreRoles words) (sym y.0) roles
]

-- ---- the invariant

-- one naming more
abbrev pub More : (Naming → Type 0) → Naming → Naming → Type 0
More D x y = D y ⊎ (y ≡ x)

below_lower : (w : ℕ) (a b : Option ℕ) → IsBelow w (lower_of a b) → IsBelow w a × IsBelow w b
below_lower w None b h = (tt, h)
below_lower w (Some a) None h = (h, tt)
below_lower w (Some a) (Some b) h = (omega (arith, h), omega (arith, h))

claimed_on : (before after : List ℕ) (at stop w : ℕ) → MarkedRun before after at stop → IsClaimed before w → IsClaimed after w
claimed_on before after at stop w run claimed = elim (cases_lt w at) [
  | inl below ↦ omega (arith, run.same w (inl below), claimed)
  | inr low ↦ elim (cases_lt w stop) [ inl high ↦ omega (arith, run.more w low high) | inr past ↦ omega (arith, run.same w (inr past), claimed) ]
]

claimed_from : (before after : List ℕ) (at stop w : ℕ) → MarkedRun before after at stop → IsClaimed after w → IsClaimed before w ⊎ ((at ≤ w) × (w < stop))
claimed_from before after at stop w run claimed = elim (cases_lt w at) [
  | inl below ↦ inl (omega (arith, run.same w (inl below), claimed))
  | inr low ↦ elim (cases_lt w stop) [ inl high ↦ inr (low, high) | inr past ↦ inl (omega (arith, run.same w (inr past), claimed)) ]
]

-- a naming names one block
one_block : (words : List ℕ) (x : Naming) (p n q m : ℕ) → Covers words x p n → Covers words x q m → (p ≡ q) × (n ≡ m)
one_block words (BySlot slot) p n q m a b = elim a.1 [
  | inl r ↦ elim b.1 [
    | inl t ↦ (omega (arith, r.0.0, t.0.0), r.1 ∙ sym t.1)
    | inr t ↦ absurd (omega (arith, r.0.0, t.0.0))
  ]
  | inr r ↦ elim b.1 [
    | inl t ↦ absurd (omega (arith, r.0.0, t.0.0))
    | inr t ↦ (omega (arith, r.0.0, t.0.0), r.1 ∙ sym t.1)
  ]
]
one_block words (ByCell cell) p n q m a b =
    let owner : a.0 ≡ b.0 = omega (arith, a.1, b.1) in
    let same : p ≡ q = a.2.0.1 ∙ ap (λ r. get_or words (r + 4) 0) owner ∙ sym b.2.0.1 in
    (same, a.3 ∙ (λ i. length_at (same i)) ∙ sym b.3)
  where
    length_at : ℕ → ℕ
    length_at k = length_told (get_or words k 0)

module _ (words : List ℕ) (D : Naming → Type 0) (x : Naming) (fresh : D x → ⊥) where
  apart : (y : Naming) → D y → x ≢ y
  apart y d e = fresh (subst D (sym e) d)

  -- a naming of no block
  pub swept_nothing : (before after : List ℕ) (least stop : Option ℕ) → Swept words D before least → after ≡ before → stop ≡ None → ((at size : ℕ) → Covers words x at size → ⊥) → Swept words (More D x) after (lower_of least stop)
  swept_nothing before after least stop s same none nothing =
      let is : least ≡ lower_of least stop = sym (ap (lower_of least) none ∙ lower_none least) in
      subst (λ (o : Option ℕ). Swept words (More D x) after o) is (subst (λ (r : List ℕ). Swept words (More D x) r least) (sym same) (record {
        marked = λ y w d lies below. elim d [ inl old ↦ s.marked y w old lies below | inr e ↦ absurd (nowhere y w e lies) ];
        from = λ w c. let z = s.from w c in (z.0, inl z.1, z.2);
        least_is = least_same (SharedOf words D) (SharedOf words (More D x)) least
            (λ w z. (z.0, z.1, z.2, inl z.3, inl z.4, z.5, z.6))
            (λ w z. elim z.3 [
              | inl a ↦ elim z.4 [ inl b ↦ (z.0, z.1, z.2, a, b, z.5, z.6) | inr e ↦ absurd (nowhere z.1 w e z.6) ]
              | inr e ↦ absurd (nowhere z.0 w e z.5)
            ])
            s.least_is;
      }))
    where
      lower_none : (o : Option ℕ) → lower_of o None ≡ o
      lower_none None = refl
      lower_none (Some a) = refl

      nowhere : (y : Naming) (w : ℕ) → y ≡ x → LiesIn words y w → ⊥
      nowhere y w e lies = nothing lies.0 lies.1 (subst (λ z. Covers words z lies.0 lies.1) e lies.2)

  module _ (at size : ℕ) (covers : Covers words x at size) where
    in_block : (y : Naming) (w : ℕ) → y ≡ x → LiesIn words y w → (at ≤ w) × (w < at + size)
    in_block y w e lies =
        let own : Covers words x lies.0 lies.1 = subst (λ z. Covers words z lies.0 lies.1) e lies.2 in
        let same = one_block words x lies.0 lies.1 at size own covers in
        (omega (arith, same.0, lies.3), omega (arith, same.0, same.1, lies.4))

    lies_here : (w : ℕ) → at ≤ w → w < at + size → LiesIn words x w
    lies_here w low high = (at, size, covers, low, high)

    -- a block of which no word was seen
    pub swept_all : (before after : List ℕ) (least : Option ℕ) → Swept words D before least → MarkedRun before after at (at + size) → Swept words (More D x) after least
    swept_all before after least s run = record {
      marked = λ y w d lies below. elim d [
        | inl old ↦ claimed_on before after at (at + size) w run (s.marked y w old lies below)
        | inr e ↦ let z = in_block y w e lies in omega (arith, run.more w z.0 z.1)
      ];
      from = λ w c. elim (claimed_from before after at (at + size) w run c) [
        | inl old ↦ let z = s.from w old in (z.0, inl z.1, z.2)
        | inr new ↦ (x, inr refl, lies_here w new.0 new.1)
      ];
      least_is = least_grown before after least s run;
    }
      where
        -- a word of the block that lies in another is not below the least
        not_below : (before after : List ℕ) (least : Option ℕ) → Swept words D before least → MarkedRun before after at (at + size) → (y : Naming) (w : ℕ) → D y → LiesIn words y w → (at ≤ w) × (w < at + size) → IsBelow w least → ⊥
        not_below before after least s run y w d lies here below = omega (arith, s.marked y w d lies below, run.more w here.0 here.1)

        least_grown : (before after : List ℕ) (least : Option ℕ) → Swept words D before least → MarkedRun before after at (at + size) → LeastWhere (SharedOf words (More D x)) least
        least_grown before after None s run = λ w z. elim z.3 [
          | inl a ↦ elim z.4 [
            | inl b ↦ s.least_is w (z.0, z.1, z.2, a, b, z.5, z.6)
            | inr e ↦ not_below before after None s run z.0 w a z.5 (in_block z.1 w e z.6) tt
          ]
          | inr e ↦ elim z.4 [
            | inl b ↦ not_below before after None s run z.1 w b z.6 (in_block z.0 w e z.5) tt
            | inr f ↦ z.2 (e ∙ sym f)
          ]
        ]
        least_grown before after (Some m) s run = record {
          here = let z = s.least_is.here in (z.0, z.1, z.2, inl z.3, inl z.4, z.5, z.6);
          least = λ w z. elim (cases_lt w m) [
            | inl below ↦ absurd (elim z.3 [
              | inl a ↦ elim z.4 [
                | inl b ↦ omega (arith, below, s.least_is.least w (z.0, z.1, z.2, a, b, z.5, z.6))
                | inr e ↦ not_below before after (Some m) s run z.0 w a z.5 (in_block z.1 w e z.6) below
              ]
              | inr e ↦ elim z.4 [
                | inl b ↦ not_below before after (Some m) s run z.1 w b z.6 (in_block z.0 w e z.5) below
                | inr f ↦ z.2 (e ∙ sym f)
              ]
            ])
            | inr above ↦ above
          ];
        }

    -- a block that meets a word which was seen in another
    pub swept_stop : (before after : List ℕ) (least : Option ℕ) (stop : ℕ) → Swept words D before least → MarkedRun before after at stop → at ≤ stop → stop < at + size → IsClaimed before stop → Swept words (More D x) after (lower_of least (Some stop))
    swept_stop before after least stop s run low high was = record {
      marked = λ y w d lies below.
          let both = below_lower w least (Some stop) below in
          elim d [
            | inl old ↦ claimed_on before after at stop w run (s.marked y w old lies both.0)
            | inr e ↦ let z = in_block y w e lies in omega (arith, run.more w z.0 both.1)
          ];
      from = λ w c. elim (claimed_from before after at stop w run c) [
        | inl old ↦ let z = s.from w old in (z.0, inl z.1, z.2)
        | inr new ↦ (x, inr refl, lies_here w new.0 (omega (arith, new.1, high)))
      ];
      least_is = least_at least s;
    }
      where
        stop_shared : (least : Option ℕ) → Swept words D before least → SharedOf words (More D x) stop
        stop_shared least s = let z = s.from stop was in (x, z.0, apart z.0 z.1, inr refl, inl z.1, lies_here stop low high, z.2)

        not_below : (least : Option ℕ) → Swept words D before least → (y : Naming) (w : ℕ) → D y → LiesIn words y w → (at ≤ w) × (w < at + size) → IsBelow w least → w < stop → ⊥
        not_below least s y w d lies here below short = omega (arith, s.marked y w d lies below, run.more w here.0 short)

        old_or_high : (least : Option ℕ) → Swept words D before least → (w : ℕ) → IsBelow w least → w < stop → SharedOf words (More D x) w → SharedOf words D w
        old_or_high least s w below short z = elim z.3 [
          | inl a ↦ elim z.4 [
            | inl b ↦ (z.0, z.1, z.2, a, b, z.5, z.6)
            | inr e ↦ absurd (not_below least s z.0 w a z.5 (in_block z.1 w e z.6) below short)
          ]
          | inr e ↦ elim z.4 [
            | inl b ↦ absurd (not_below least s z.1 w b z.6 (in_block z.0 w e z.5) below short)
            | inr f ↦ absurd (z.2 (e ∙ sym f))
          ]
        ]

        least_at : (least : Option ℕ) → Swept words D before least → LeastWhere (SharedOf words (More D x)) (lower_of least (Some stop))
        least_at None s = record {
          here = stop_shared None s;
          least = λ w z. elim (cases_lt w stop) [ inl short ↦ absurd (s.least_is w (old_or_high None s w tt short z)) | inr above ↦ above ];
        }
        least_at (Some m) s = elim (cases_lt m stop) [
          | inl first ↦
              let is : min m stop ≡ m = omega arith in
              record {
                here = let z = s.least_is.here in subst (SharedOf words (More D x)) (sym is) (z.0, z.1, z.2, inl z.3, inl z.4, z.5, z.6);
                least = λ w z. elim (cases_lt w m) [ inl below ↦ absurd (omega (arith, below, s.least_is.least w (old_or_high (Some m) s w below (omega arith) z))) | inr above ↦ omega arith ];
              }
          | inr second ↦
              let is : min m stop ≡ stop = omega arith in
              record {
                here = subst (SharedOf words (More D x)) (sym is) (stop_shared (Some m) s);
                least = λ w z. elim (cases_lt w stop) [ inl short ↦ absurd (omega (arith, short, s.least_is.least w (old_or_high (Some m) s w (omega arith) short z))) | inr above ↦ omega arith ];
              }
        ]

    pub swept_block : (before after : List ℕ) (least stop : Option ℕ) → Swept words D before least → BlockMarked before after at size stop → Swept words (More D x) after (lower_of least stop)
    swept_block before after least None s run = subst (λ (o : Option ℕ). Swept words (More D x) after o) (sym (lower_none least)) (swept_all before after least s run)
      where
        lower_none : (o : Option ℕ) → lower_of o None ≡ o
        lower_none None = refl
        lower_none (Some a) = refl
    swept_block before after least (Some stop) s run = swept_stop before after least stop s run.0 run.1 run.2 run.3

  pub swept_one : (before after : List ℕ) (least stop : Option ℕ) → Swept words D before least → OneSwept words x before after stop → Swept words (More D x) after (lower_of least stop)
  swept_one before after least stop s one = elim one [
    | inl y ↦ swept_block y.0 y.1 y.2 before after least stop s y.3
    | inr y ↦ swept_nothing before after least stop s y.0 y.1 y.2
  ]

-- ---- all places

swept_same : (words : List ℕ) (D E : Naming → Type 0) (roles : List ℕ) (least : Option ℕ) → ((x : Naming) → D x → E x) → ((x : Naming) → E x → D x) → Swept words D roles least → Swept words E roles least
swept_same words D E roles least to back s = record {
  marked = λ x w d. s.marked x w (back x d);
  from = λ w c. let z = s.from w c in (z.0, to z.0 z.1, z.2);
  least_is = least_same (SharedOf words D) (SharedOf words E) least (λ w z. (z.0, z.1, z.2, to z.0 z.3, to z.1 z.4, z.5, z.6)) (λ w z. (z.0, z.1, z.2, back z.0 z.3, back z.1 z.4, z.5, z.6)) s.least_is;
}

-- both namings at one place
pub swept_place :
    (words : List ℕ) (n : ℕ) (a b c : List ℕ) (least one two : Option ℕ) → Swept words (IsBefore n) a least → OneSwept words (BySlot n) a b one → OneSwept words (ByCell n) b c two
    → Swept words (IsBefore (n + 1)) c (lower_of (lower_of least one) two)
swept_place words n a b c least one two s x y =
    swept_same words (More (More (IsBefore n) (BySlot n)) (ByCell n)) (IsBefore (n + 1)) c (lower_of (lower_of least one) two) to back
    (swept_one words (More (IsBefore n) (BySlot n)) (ByCell n) fresh_cell b c (lower_of least one) two (swept_one words (IsBefore n) (BySlot n) fresh_slot a b least one s x) y)
  where
    fresh_slot : n < n → ⊥
    fresh_slot h = omega arith

    fresh_cell : More (IsBefore n) (BySlot n) (ByCell n) → ⊥
    fresh_cell h = elim h [ inl d ↦ omega (arith, d) | inr e ↦ cc ]

    to : (z : Naming) → More (More (IsBefore n) (BySlot n)) (ByCell n) z → IsBefore (n + 1) z
    to (BySlot slot) h = elim h [
      | inl d ↦ elim d [ inl below ↦ omega (arith, below) | inr e ↦ let at : slot ≡ n = cc in omega arith ]
      | inr e ↦ absurd (cc)
    ]
    to (ByCell cell) h = elim h [
      | inl d ↦ elim d [ inl below ↦ omega (arith, below) | inr e ↦ absurd (cc) ]
      | inr e ↦ let at : cell ≡ n = cc in omega arith
    ]

    back : (z : Naming) → IsBefore (n + 1) z → More (More (IsBefore n) (BySlot n)) (ByCell n) z
    back (BySlot slot) h = elim (cases_eq slot n) [ inl e ↦ inl (inr (ap BySlot e)) | inr ne ↦ inl (inl (omega arith)) ]
    back (ByCell cell) h = elim (cases_eq cell n) [ inl e ↦ inr (ap ByCell e) | inr ne ↦ inl (inl (omega arith)) ]

-- a naming is at a place of the words
named_within : (words : List ℕ) → 520 ≤ length words → (x : Naming) (w : ℕ) → LiesIn words x w → IsBefore (length words) x
named_within words least (BySlot slot) w lies = let z = lies.2.0 in slot_within words z.0 slot least z.1
named_within words least (ByCell cell) w lies = omega (arith, lies.2.1, lies.2.2.0.0.0.4.2)

pub swept_end : (words roles : List ℕ) (n : ℕ) (least : Option ℕ) → 520 ≤ length words → n ≡ length words → Swept words (IsBefore n) roles least → LeastWhere (λ w. IsShared words w) least
swept_end words roles n least long all s =
    least_same (SharedOf words (IsBefore n)) (λ w. IsShared words w) least (λ w z. (z.0, z.1, z.2, z.5, z.6))
    (λ w z. (z.0, z.1, z.2, subst (λ k. IsBefore k z.0) (sym all) (named_within words long z.0 w z.3), subst (λ k. IsBefore k z.1) (sym all) (named_within words long z.1 w z.4), z.3, z.4))
    s.least_is

-- ---- what the roles say

pub no_cell : (words roles : List ℕ) (cell : ℕ) → AreRoles words roles → get_or roles cell 0 / 2 % 2 ≡ 0 → (p n : ℕ) → Covers words (ByCell cell) p n → ⊥
no_cell words roles cell are even p n x = let odd : get_or roles cell 0 / 2 % 2 ≡ 1 = (are.cells cell).1 (x.0, x.2.0.0.0, x.1) in omega arith

pub slot_here : (words roles : List ℕ) (slot : ℕ) → AreRoles words roles → (get_or roles slot 0 % 2 ≡ 0 → ⊥) → (s : Space) × IsSlotOf words s slot
slot_here words roles slot are odd = (are.slots slot).0 (one (get_or roles slot 0) odd)
  where
    one : (a : ℕ) → (a % 2 ≡ 0 → ⊥) → a % 2 ≡ 1
    one a h = elim (cases_eq (a % 2) 0) [ inl e ↦ absurd (h e) | inr ne ↦ omega arith ]

pub cell_reached : (words roles : List ℕ) (cell place : ℕ) → AreRoles words roles → (get_or roles cell 0 / 2 % 2 ≡ 0 → ⊥) → place ≡ get_or words cell 0 → 520 ≤ place → place < length words → (r : ℕ) × (cell ≡ r + 4) × IsReached words r place
cell_reached words roles cell place are odd is low high =
    let z = (are.cells cell).0 (one (get_or roles cell 0) odd) in
    let there : place ≡ get_or words (z.0 + 4) 0 = is ∙ ap (λ k. get_or words k 0) z.2 in
    (z.0, z.2, (((z.1, λ e. omega (arith, there, e, low)), there), low, high))
  where
    one : (a : ℕ) → (a / 2 % 2 ≡ 0 → ⊥) → a / 2 % 2 ≡ 1
    one a h = elim (cases_eq (a / 2 % 2) 0) [ inl e ↦ absurd (h e) | inr ne ↦ omega arith ]

pub cell_outside : (words : List ℕ) (cell place : ℕ) → place ≡ get_or words cell 0 → (place < 520) ⊎ (length words ≤ place) → (p n : ℕ) → Covers words (ByCell cell) p n → ⊥
cell_outside words cell place is out p n x =
    let same : p ≡ place = x.2.0.1 ∙ ap (λ k. get_or words k 0) (sym x.1) ∙ sym is in
    elim out [ inl low ↦ omega (arith, same, x.2.1) | inr high ↦ omega (arith, same, x.2.2) ]

-- a content that is not too long ends within the words
pub content_ends : (words : List ℕ) (c : ℕ) → (IsTooLong words c → ⊥) → end_told words c ≤ length words
content_ends words c ok = elim (cases_lt (length words) (end_told words c)) [
  | inl past ↦ absurd (ok (inr (inr past)))
  | inr ends ↦ ends
]

-- the roles stay where a cell was looked at
pub cell_roles : (words : List ℕ) (cell : ℕ) (before after : List ℕ) (stop : Option ℕ) → AreRoles words before → CellSwept words cell before after stop → AreRoles words after
cell_roles words cell before after stop roles x = elim x [
  | inl one ↦ one_roles words (ByCell cell) before after stop roles one
  | inr out ↦ subst (AreRoles words) (sym out.0) roles
]

-- no content is too long
pub cell_swept : (words : List ℕ) (cell : ℕ) (before after : List ℕ) (stop : Option ℕ) → HasNoneBefore words 6 → CellSwept words cell before after stop → OneSwept words (ByCell cell) before after stop
cell_swept words cell before after stop none x = elim x [
  | inl one ↦ one
  | inr out ↦ absurd (none.none 5 out.1.0 (omega arith) out.1.1)
]

pub size_back : (place size end : ℕ) → end ≡ place + size → end - place ≡ size
size_back place size end is = omega arith
