-- What a walk counts is what a walk would list.
use Rattle.std.proofs.Common.{◌≡◌, ℕ, ◌+◌, ◌<◌, ◌≤◌, ◌==◌, ◌||◌, List, [], ◌∷◌, ◌++◌, Bool, true, false, length, refl, sym, ap, inl, inr, arith, length-append, eqb-true}
use Rattle.std.specs.List.{IsDistinct, AllByRecursion, list_any}
use Rattle.std.proofs.lemmas.Map.Steps.{length-le_from_distinct_below}
use Rattle.cas_model.specs.declared.place.Space.{Space}
use Rattle.region_core.specs.Words.{root}
use Rattle.region_core.proofs.Finding.{record_below}
use Rattle.frozen_store.specs.Gathers.{IsIn, AreApart, GathersBelow, GathersSlot, HasTable}
use Rattle.frozen_store.specs.Tallies.{Tallies, TalliesBelow, TalliesSlot, AreSoMany}
use Rattle.frozen_store.proofs.Walking.{gathers_more, gathers_all, all_filled}

not-there : (p : ℕ) (ps : List ℕ) → (IsIn p ps → ⊥) → AllByRecursion (λ q. (p == q) ≡ false) ps
not-there p [] none = tt
not-there p (q ∷ qs) none = (step (p == q) refl, not-there p qs (λ m. none (inr m))) where
  step : (b : Bool) → (p == q) ≡ b → (p == q) ≡ false
  step true test = absurd (none (inl (sym (eqb-true p q test))))
  step false test = test

distinct : (ps : List ℕ) → AreApart ps → IsDistinct ◌==◌ ps
unfolding IsDistinct
distinct [] h = tt
distinct (p ∷ ps) h = (not-there p ps h.0, distinct ps h.1)

there : (q : ℕ) (ps : List ℕ) → list_any (λ p. q == p) ps ≡ true → IsIn q ps
there q [] h = cc h
there q (p ∷ ps) h = step (q == p) refl h (there q ps) where
  step : (b : Bool) → (q == p) ≡ b → (b || list_any (λ k. q == k) ps) ≡ true → (list_any (λ k. q == k) ps ≡ true → IsIn q ps) → IsIn q (p ∷ ps)
  step true test found rest = inl (sym (eqb-true q p test))
  step false test found rest = inr (rest found)

few : (ps : List ℕ) (n : ℕ) → AreApart ps → ((p : ℕ) → IsIn p ps → p < n) → length ps ≤ n
few ps n apart below = length-le_from_distinct_below ps n (distinct ps apart) (λ q h. below q (there q ps h))

-- ---- what a table of some labelling lists is no more than the words

below-words : (words : List ℕ) (table slots level n : ℕ) (places : List ℕ) → HasTable words table slots level → GathersBelow words table slots n [] places → length places ≤ 67108864
below-words words table slots level n places x h =
    let g = h x.heap x.space x.indexes x.laid x.here x.wide in
    let same : places ≡ g.places = g.is in
    let most = few g.places (length words) g.below.apart (λ p m. let u = (g.below.only p m).under in omega (arith, record_below x.heap (length words) x.space u.digest u.cell p x.laid.shape u.here)) in
    omega (arith, ap length same, most, x.short)

-- what a slot lists alone, it lists behind other places
behind : (words : List ℕ) (table index : ℕ) (before places : List ℕ) → GathersSlot words table index [] places → GathersSlot words table index before (before ++ places)
behind words table index before places h heap space indexes laid here within =
    let g = h heap space indexes laid here within in
    record { places = g.places; is = ap (λ ps. before ++ ps) g.is; under = g.under }

pub below-more : (words : List ℕ) (table slots level i count more : ℕ) → HasTable words table slots level → i < slots → TalliesBelow words table slots i count → TalliesSlot words table i more
    → TalliesBelow words table slots (i + 1) (count + more)
below-more words table slots level i count more x low below slot =
    let both = gathers_more words table slots i [] below.places (below.places ++ slot.places) low below.gathers (behind words table i below.places slot.places slot.gathers) in
    let long = length-append below.places slot.places in
    record {
      places = below.places ++ slot.places;
      gathers = both;
      long = (let a = below.long in let b = slot.long in omega (arith, long, a, b));
      few = (let most = below-words words table slots level (i + 1) (below.places ++ slot.places) x both in let a = below.long in let b = slot.long in omega (arith, most, long, a, b));
    }

pub below-all : (words : List ℕ) (table slots n count : ℕ) → slots ≤ n → TalliesBelow words table slots n count → Tallies words table slots count
below-all words table slots n count all below = record { places = below.places; gathers = gathers_all words table slots n [] below.places all below.gathers; long = below.long; few = below.few }

pub slot-tallies : (words : List ℕ) (table index count : ℕ) (places : List ℕ) → GathersSlot words table index [] places → length places ≡ count → count ≤ 67108864 → TalliesSlot words table index count
slot-tallies words table index count places gathers long most = record { places = places; gathers = gathers; long = long; few = most }

pub trie-tallies : (words : List ℕ) (space : Space) (table count : ℕ) → table ≡ root space → Tallies words table 256 count → AreSoMany words space count
trie-tallies words space table count at all = record { places = all.places; filled = all_filled words space table [] all.places at refl all.gathers; long = all.long }
