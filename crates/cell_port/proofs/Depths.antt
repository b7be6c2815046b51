-- How many subtries a digest needs, by the two deepest levels that it shares.
use Rattle.std.proofs.Common.{◌≡◌, ◌≢◌, ℕ, zero, suc, ◌+◌, ◌-◌, ◌<◌, ◌≤◌, List, Bool, true, false, cond, ◌==◌, ◌&&◌, ◌/◌, ◌%◌, ◌⊎◌, inl, inr, nat_eq, slice_index, refl, ap, sym, ◌∙◌, arith, min, max, None, Some}
use Rattle.std.proofs.lemmas.Bool.{eq-eqb, ne_eqb}
use Rattle.std.specs.declared.option.Option.{Option}
use Rattle.std.specs.Option.{MatchOption}
use Rattle.std.proofs.lemmas.Bool.Decides.{eqb_tells}
use Rattle.cas_model.specs.declared.digest.Digest.{Digest}
use Rattle.cas_model.specs.declared.place.Space.{Space}
use Rattle.cas_model.specs.declared.tables.Record.{Record}
use Rattle.cas_model.specs.Trie.{index_of, nibble, sharing, new_subtries}
use Rattle.cell_port.specs.Depth.{shares, shared, shared_level, needed_beside}
use Rattle.cell_port.specs.Needed.{bound_in, needed}

index-next : (bytes : List ℕ) (level n : ℕ) → 0 < level → n ≡ level + 1 → index_of bytes level ≡ nibble bytes n
unfolding index_of
index-next bytes zero n some is = absurd (omega arith)
index-next bytes (suc k) n some is = let e : k + 2 ≡ n = omega arith in ap (nibble bytes) e

pub index-first : (bytes : List ℕ) (level : ℕ) → level ≡ 0 → slice_index bytes 0 ≡ index_of bytes level
unfolding index_of
index-first bytes zero is = refl
index-first bytes (suc level) is = absurd (omega arith)

pub index-high : (bytes : List ℕ) (level : ℕ) → 0 < level → (level + 1) % 2 ≡ 0 → slice_index bytes ((level + 1) / 2) / 16 ≡ index_of bytes level
index-high bytes level some even =
    ap (λ b. cond b (slice_index bytes ((level + 1) / 2) / 16) (slice_index bytes ((level + 1) / 2) % 16)) (sym (eq-eqb ((level + 1) % 2) 0 even)) ∙ sym (index-next bytes level (level + 1) some refl)

pub index-low : (bytes : List ℕ) (level : ℕ) → 0 < level → ((level + 1) % 2 ≡ 0 → ⊥) → slice_index bytes ((level + 1) / 2) % 16 ≡ index_of bytes level
index-low bytes level some odd =
    ap (λ b. cond b (slice_index bytes ((level + 1) / 2) / 16) (slice_index bytes ((level + 1) / 2) % 16)) (sym (ne_eqb ((level + 1) % 2) 0 odd)) ∙ sym (index-next bytes level (level + 1) some refl)

-- ---- the deepest common level

last-or-less : (r n : ℕ) → r ≤ suc n → (r ≡ suc n) ⊎ (r ≤ n)
last-or-less r n le = step (eqb_tells r (suc n)) where
  step : (((r == suc n) ≡ true) × (r ≡ suc n)) ⊎ (((r == suc n) ≡ false) × (r ≢ suc n)) → (r ≡ suc n) ⊎ (r ≤ n)
  step (inl h) = inl h.1
  step (inr h) = let differ = h.1 in inr (omega arith)

both-right : (a b : Bool) → (a && b) ≡ true → b ≡ true
both-right true b h = h
both-right false b h = cc

shares-less : (e d : Digest) (l n : ℕ) → l ≤ n → shares e d n ≡ true → shares e d l ≡ true
shares-less e d l zero le h = let z : 0 ≡ l = omega arith in ap (shares e d) (sym z)
shares-less e d l (suc n) le h =
    step (last-or-less l n le) (λ less. shares-less e d l n less (both-right (nat_eq (index_of e.bytes n) (index_of d.bytes n)) (shares e d n) h)) where
      step : (l ≡ suc n) ⊎ (l ≤ n) → (l ≤ n → shares e d l ≡ true) → shares e d l ≡ true
      step (inl same) below = ap (shares e d) same ∙ h
      step (inr less) below = below less

-- the deepest level is the one down to which both go together, and no further
pub shared-is : (e d : Digest) (n r : ℕ) → r ≤ n → shares e d r ≡ true → (r < n → shares e d (suc r) ≡ false) → shared e d n ≡ r
shared-is e d zero r le here ends = omega arith
shared-is e d (suc n) r le here ends = step (last-or-less r n le) (λ less. shared-is e d n r less here (λ lt. ends (omega arith))) where
  step : (r ≡ suc n) ⊎ (r ≤ n) → (r ≤ n → shared e d n ≡ r) → cond (shares e d (suc n)) (suc n) (shared e d n) ≡ r
  step (inl same) below = ap (λ b. cond b (suc n) (shared e d n)) (sym (ap (shares e d) same) ∙ here) ∙ sym same
  step (inr less) below = by (shares e d (suc n)) refl where
    by : (b : Bool) → shares e d (suc n) ≡ b → cond b (suc n) (shared e d n) ≡ r
    by true test = absurd (cc (shares-less e d (suc r) (suc n) (omega arith) test, ends (omega arith)))
    by false test = below less

shared-most : (e d : Digest) (n : ℕ) → shared e d n ≤ n
shared-most e d zero = omega arith
shared-most e d (suc n) = step (shares e d (suc n)) (shared-most e d n) where
  step : (b : Bool) → shared e d n ≤ n → cond b (suc n) (shared e d n) ≤ suc n
  step true h = omega arith
  step false h = omega arith

-- a level is shared just where it is not below the deepest one
shares-cases : (e d : Digest) (n l : ℕ) → l ≤ n → ((l ≤ shared e d n) × (shares e d l ≡ true)) ⊎ ((shared e d n < l) × (shares e d l ≡ false))
shares-cases e d zero l le = let z : 0 ≡ l = omega arith in inl (omega arith, ap (shares e d) (sym z))
shares-cases e d (suc n) l le = step (shares e d (suc n)) refl (λ less. shares-cases e d n l less) where
  step : (b : Bool) → shares e d (suc n) ≡ b → (l ≤ n → ((l ≤ shared e d n) × (shares e d l ≡ true)) ⊎ ((shared e d n < l) × (shares e d l ≡ false)))
      → ((l ≤ cond b (suc n) (shared e d n)) × (shares e d l ≡ true)) ⊎ ((cond b (suc n) (shared e d n) < l) × (shares e d l ≡ false))
  step true test below = inl (le, shares-less e d l (suc n) le test)
  step false test below = at (last-or-less l n le) where
    at : (l ≡ suc n) ⊎ (l ≤ n) → ((l ≤ shared e d n) × (shares e d l ≡ true)) ⊎ ((shared e d n < l) × (shares e d l ≡ false))
    at (inl same) = inr (omega (arith, shared-most e d n, same), ap (shares e d) same ∙ test)
    at (inr less) = below less

-- a level found in steps of one is the deepest one
pub level-found : (e d : Digest) (r : ℕ) → r ≤ 62 → shares e d r ≡ true → (r < 62 → shares e d (suc r) ≡ false) → r ≡ shared_level e d
unfolding shared_level
level-found e d r le here ends = sym (shared-is e d 62 r le here ends)

pub parts-at : (e d : Digest) (r a b : ℕ) → a ≡ index_of e.bytes r → b ≡ index_of d.bytes r → (a ≡ b → ⊥) → shares e d (suc r) ≡ false
parts-at e d r a b one two differ =
    ap (λ x. x && shares e d r) ((λ i. nat_eq (sym one i) (sym two i)) ∙ ne_eqb a b differ)

-- a level is shared just where it is not below the deepest one
abbrev LevelCases : Digest → Digest → ℕ → Type 0
LevelCases e d l = ((l ≤ shared_level e d) × (shares e d l ≡ true)) ⊎ ((shared_level e d < l) × (shares e d l ≡ false))

level-cases : (e d : Digest) → (shared_level e d ≤ 62) × ((l : ℕ) → l ≤ 62 → LevelCases e d l)
unfolding shared_level
level-cases e d = (shared-most e d 62, λ l le. shares-cases e d 62 l le)

-- ---- the number of digests that share a level

-- none shares a level below the first number, one shares those down to it, and at least two those down to the second
abbrev Tells : ℕ → ℕ → ℕ → ℕ → Type 0
Tells first second l c = ((first < l) × (c ≡ 0)) ⊎ ((second < l) × (l ≤ first) × (c ≡ 1)) ⊎ ((l ≤ second) × (2 ≤ c))

-- two levels tell how many share each level
pub record AreDeepest (counts : ℕ → ℕ) (first second : ℕ) : Type 0 where
  pub falls : second ≤ first
  pub most : first ≤ 62
  pub at : (l : ℕ) → l ≤ 62 → 0 < l → Tells first second l (counts l)

tells-both : (a b c e l x y : ℕ) → c ≤ a → e ≤ b → Tells a c l x → Tells b e l y → Tells (max a b) (max (max (min a b) c) e) l (x + y)
tells-both a b c e l x y ca eb (inl h) (inl m) = inl (omega (arith, h.0, m.0), omega (arith, h.1, m.1))
tells-both a b c e l x y ca eb (inl h) (inr (inl m)) = inr (inl (omega (arith, h.0, m.0), omega (arith, m.1), omega (arith, h.1, m.2)))
tells-both a b c e l x y ca eb (inl h) (inr (inr m)) = inr (inr (omega (arith, m.0), omega (arith, m.1)))
tells-both a b c e l x y ca eb (inr (inl h)) (inl m) = inr (inl (omega (arith, h.0, m.0), omega (arith, h.1), omega (arith, h.2, m.1)))
tells-both a b c e l x y ca eb (inr (inl h)) (inr (inl m)) = inr (inr (omega (arith, h.1, m.1), omega (arith, h.2, m.2)))
tells-both a b c e l x y ca eb (inr (inl h)) (inr (inr m)) = inr (inr (omega (arith, m.0), omega (arith, m.1)))
tells-both a b c e l x y ca eb (inr (inr h)) m = inr (inr (omega (arith, h.0), omega (arith, h.1)))

-- the two deepest levels of two groups
pub deepest-both : (f g : ℕ → ℕ) (a b c e : ℕ) → AreDeepest f a c → AreDeepest g b e → AreDeepest (λ l. f l + g l) (max a b) (max (max (min a b) c) e)
deepest-both f g a b c e one two =
    let ca = one.falls in
    let eb = two.falls in
    let am = one.most in
    let bm = two.most in
    record { falls = omega arith; most = omega arith; at = λ l le some. tells-both a b c e l (f l) (g l) ca eb (one.at l le some) (two.at l le some) }

-- how much a test adds to a count
abbrev pub one_if : Bool → ℕ
one_if b = cond b 1 0

-- the level that a digest shares with the one of a key, 0 where there is none
abbrev pub IsLevel : {A : Type 0} → (A → List ℕ) → Digest → Option A → ℕ → Type 0
IsLevel key d o n = MatchOption o (n ≡ 0) (λ x. n ≡ shared_level (record { bytes = key x }) d)

-- of those that are counted one is taken, and the others share no level that it does not share
abbrev pub Takes : {A : Type 0} → (A → List ℕ) → Digest → Option A → (ℕ → ℕ) → (ℕ → ℕ) → Type 0
Takes key d o counts others =
    MatchOption o ((l : ℕ) → (counts l ≡ 0) × (others l ≡ 0))
    (λ x. (l : ℕ) → (counts l ≡ one_if (shares (record { bytes = key x }) d l) + others l) × (shares (record { bytes = key x }) d l ≡ false → others l ≡ 0))

-- the first two that are taken have the deepest levels
pub deepest-taken : {A : Type 0} (key : A → List ℕ) (d : Digest) (one two : Option A) (a c : ℕ) (counts others rest : ℕ → ℕ)
    → IsLevel key d one a → IsLevel key d two c → Takes key d one counts others → Takes key d two others rest → AreDeepest counts a c
deepest-taken {A} key d None None a c counts others rest first second takes more = record {
  falls = omega arith;
  most = omega arith;
  at = λ l le some. inl (omega arith, (takes l).0);
}
deepest-taken {A} key d None (Some y) a c counts others rest first second takes more = absurd (let h = (takes 0).1 in let m = (more 0).0 in omega arith)
deepest-taken {A} key d (Some x) None a c counts others rest first second takes more = record {
  falls = omega arith;
  most = let m = (level-cases (record { bytes = key x }) d).0 in omega arith;
  at = λ l le some. step l some ((level-cases (record { bytes = key x }) d).1 l le);
} where
  step : (l : ℕ) → 0 < l → LevelCases (record { bytes = key x }) d l → Tells a c l (counts l)
  step l some (inl h) = inr (inl (omega arith, omega (arith, h.0), omega (arith, (takes l).0, ap one_if h.1, (more l).0)))
  step l some (inr h) = inl (omega (arith, h.0), omega (arith, (takes l).0, ap one_if h.1, (more l).0))
deepest-taken {A} key d (Some x) (Some y) a c counts others rest first second takes more = record {
  falls = falls ((level-cases (record { bytes = key x }) d).1 c within) ((level-cases (record { bytes = key y }) d).1 c within);
  most = let m = (level-cases (record { bytes = key x }) d).0 in omega arith;
  at = λ l le some. step l ((level-cases (record { bytes = key x }) d).1 l le) ((level-cases (record { bytes = key y }) d).1 l le);
} where
  within : c ≤ 62
  within = let m = (level-cases (record { bytes = key y }) d).0 in omega arith

  falls : LevelCases (record { bytes = key x }) d c → LevelCases (record { bytes = key y }) d c → c ≤ a
  falls (inl h) m = omega (arith, h.0)
  falls (inr h) (inl m) = absurd (omega (arith, (takes c).1 h.1, (more c).0, ap one_if m.1))
  falls (inr h) (inr m) = absurd (omega (arith, m.0))

  step : (l : ℕ) → LevelCases (record { bytes = key x }) d l → LevelCases (record { bytes = key y }) d l → Tells a c l (counts l)
  step l (inl h) (inl m) = inr (inr (omega (arith, m.0), omega (arith, (takes l).0, ap one_if h.1, (more l).0, ap one_if m.1)))
  step l (inl h) (inr m) = inr (inl (omega (arith, m.0), omega (arith, h.0), omega (arith, (takes l).0, ap one_if h.1, (more l).0, ap one_if m.1, (more l).1 m.1)))
  step l (inr h) m = inl (omega (arith, h.0), omega (arith, (takes l).0, ap one_if h.1, (takes l).1 h.1))

-- ---- the subtries

-- the subtries down to a level are those between the two deepest levels
subtries-between : (d : Digest) (ds : List Digest) (first second : ℕ) → AreDeepest (sharing ds d) first second → (m : ℕ) → m ≤ 62 → new_subtries ds d m + min second m ≡ min first m
subtries-between d ds first second deepest zero le = omega arith
subtries-between d ds first second deepest (suc m) le = step (deepest.at (suc m) le (omega arith)) (subtries-between d ds first second deepest m (omega arith)) where
  one : (c : ℕ) → c ≡ 1 → one_if (c == 1) ≡ 1
  one c is = ap one_if (eq-eqb c 1 is)

  other : (c : ℕ) → (c ≡ 1 → ⊥) → one_if (c == 1) ≡ 0
  other c differ = ap one_if (ne_eqb c 1 differ)

  step : Tells first second (suc m) (sharing ds d (suc m)) → new_subtries ds d m + min second m ≡ min first m
      → one_if (sharing ds d (suc m) == 1) + new_subtries ds d m + min second (suc m) ≡ min first (suc m)
  step (inl h) below = let e = other (sharing ds d (suc m)) (λ is. omega (arith, h.1)) in let falls = deepest.falls in let above = h.0 in omega arith
  step (inr (inl h)) below = let e = one (sharing ds d (suc m)) h.2 in let above = h.0 in let within = h.1 in omega arith
  step (inr (inr h)) below = let e = other (sharing ds d (suc m)) (λ is. omega (arith, h.1)) in let falls = deepest.falls in let within = h.0 in omega arith

-- the two deepest levels that a digest shares with others tell how many subtries it needs
pub subtries-told : (d : Digest) (ds : List Digest) (first second : ℕ) → AreDeepest (sharing ds d) first second → (first - second ≡ needed_beside ds d) × (second ≤ first) × (first ≤ 62)
unfolding needed_beside
subtries-told d ds first second deepest =
    let e = subtries-between d ds first second deepest 62 (omega arith) in
    let falls = deepest.falls in
    let most = deepest.most in
    (omega arith, falls, most)

-- as many subtries are needed where as many digests share each level
pub subtries-alike : (d : Digest) (ds es : List Digest) → ((l : ℕ) → sharing ds d l ≡ sharing es d l) → (n : ℕ) → new_subtries ds d n ≡ new_subtries es d n
subtries-alike d ds es alike zero = refl
subtries-alike d ds es alike (suc n) = λ i. one_if (alike (suc n) i == 1) + subtries-alike d ds es alike n i

subtries-most : (d : Digest) (ds : List Digest) (n : ℕ) → new_subtries ds d n ≤ n
subtries-most d ds zero = omega arith
subtries-most d ds (suc n) = step (sharing ds d (suc n) == 1) (subtries-most d ds n) where
  step : (b : Bool) → new_subtries ds d n ≤ n → one_if b + new_subtries ds d n ≤ suc n
  step true h = omega arith
  step false h = omega arith

-- what the bound digests of a space need already
pub needed-is : (bound : List Record) (space : Space) (d : Digest) (ds : List Digest) → ((l : ℕ) → sharing ds d l ≡ sharing (bound_in space bound) d l) → needed_beside ds d ≡ needed bound space d
unfolding needed needed_beside
needed-is bound space d ds alike = subtries-alike d ds (bound_in space bound) alike 62

pub needed-most : (bound : List Record) (space : Space) (d : Digest) → needed bound space d ≤ 62
unfolding needed
needed-most bound space d = subtries-most d (bound_in space bound) 62
