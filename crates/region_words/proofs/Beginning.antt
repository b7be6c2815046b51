-- The words of a closed region, with zeros up to its size, meet the rule with one seat.
use Rattle.std.proofs.Common.{◌≡◌, ℕ, zero, suc, ◌+◌, ◌≤◌, List, [], ◌∷◌, ◌++◌, length, replicate, refl, sym, ap, ◌∙◌, subst, ⊎_elim, arith, length-append}
use Rattle.std.specs.Prelude.{slice_index}
use mathlib.Core.Option.{some, some-injective, some-ne-none}
use lib.ListN.{get_elem?}
use Rattle.cas_model.specs.Primary.{primary}
use Rattle.cas_model.specs.Tables.{Tables}
use Rattle.cas_history.specs.History.{events_of}
use Rattle.frozen_store.specs.Seen.{FrozenSeen, IsSeen}
use Rattle.region_core.specs.Certificate.{IsCertified}
use Rattle.region_core.specs.Found.{heap_of}
use Rattle.region_core.specs.Goes.{Goes}
use Rattle.region_core.specs.Heap.{Laid, memory_of}
use Rattle.region_core.proofs.Founding.{stands_certified}
use Rattle.region_core.proofs.Starts.{tables_in-go}
use Rattle.region_words.specs.Numbers.{Has, ViewsGo}
use Rattle.region_words.specs.Rule.{Holds, first_view}
use Rattle.region_words.specs.Running.{IsRunning}
use Rattle.region_words.specs.declared.rule.Key.{Key}
use Rattle.region_words.specs.declared.view.SeatView.{SeatView}

only : (j : ℕ) (v : SeatView) → get_elem? (first_view ∷ []) j ≡ some v → (j ≡ 0) × (first_view ≡ v)
only zero v e = (refl, some-injective _ _ e)
only (suc j) v e = absurd (some-ne-none v (sym e))

is-first : (n : ℕ) → Has n (64 ∷ []) → n ≡ 64
is-first n has = ⊎_elim (λ (e : n ≡ 64). e) (λ (x : ⊥). absurd x) has

at-most : (n : ℕ) → Has n (64 ∷ []) → n ≤ 64
at-most n has = let e = is-first n has in omega arith

first-go : ViewsGo [] (first_view ∷ [])
first-go = record {
  begins = λ j v e. ([], ap (λ (z : SeatView). z.seen) (only j v e).1);
  top = (0, first_view, refl, refl);
  own = λ j v e n _. ap (λ (z : SeatView). events_of n z.seen) (only j v e).1;
  most = λ j v e n has. at-most n (subst (λ (z : SeatView). Has n z.numbers) (sym (only j v e).1) has);
  once = λ j k v w ev ew n _ _. (only j v ev).0 ∙ sym (only k w ew).0;
  others = λ n _. refl;
  heard = λ j v e p x d. absurd (some-ne-none x (sym d ∙ ap (λ (z : SeatView). get_elem? z.heard p) (sym (only j v e).1)));
  left = λ j v e _ n _ high k w ew has. let z = is-first n (subst (λ (z : SeatView). Has n z.numbers) (sym (only k w ew).1) has) in absurd (omega arith);
}

module _ (key : Key) (seen : IsSeen key.primary.value) (words : List ℕ) (size : length words ≡ key.primary.value.tables.size) (same : (i : ℕ) → slice_index words i ≡ slice_index key.primary.value.words i) where
  certified : IsCertified (heap_of key.primary.value.words) key.primary.value.words key.primary.value.tables.size (primary key.primary.value.tables)
  certified = stands_certified key.primary.value.words key.primary.value.tables.size (primary key.primary.value.tables) seen.stands seen.words_are

  goes : Goes (heap_of key.primary.value.words) key.primary.value.tables
  goes = subst (λ (t : Tables). Goes (heap_of key.primary.value.words) t) (sym seen.tables) (tables_in-go key.primary.value.words key.primary.value.tables.size (primary key.primary.value.tables) seen.stands seen.words_are)

  same-memory : memory_of key.primary.value.words ≡ memory_of words
  same-memory j i = sym (same i) j

  given : length key.primary.value.words ≡ key.primary.value.tables.given
  given = let a = seen.start.gave in let b = seen.counter in omega arith

  laid : Laid (heap_of key.primary.value.words) (memory_of words) key.primary.value.tables.given
  laid = subst (λ (m : ℕ → ℕ). Laid (heap_of key.primary.value.words) m key.primary.value.tables.given) same-memory
      (subst (λ (n : ℕ). Laid (heap_of key.primary.value.words) (memory_of key.primary.value.words) n) given certified.laid)

  pub holds-first : Holds key record { words = words; homes = []; views = first_view ∷ [] }
  holds-first = (
    [],
    heap_of key.primary.value.words,
    record {
      run = seen.start;
      size = size;
      counter = same 3 ∙ seen.stands.headed.counter ∙ sym seen.counter;
      header = λ i _ _. same i;
      laid = laid;
      goes = goes;
      mine = λ j v q b e h. let none = ap (λ (z : SeatView). Rattle.region_words.specs.Blocks.block_at (z.blocks ++ z.working) q) (only j v e).1 ∙ h in absurd (cc none);
      lone = λ j k v w q a b ev ew _ _. (only j v ev).0 ∙ sym (only k w ew).0;
      single = λ j v e. subst (λ (z : SeatView). Rattle.region_words.specs.Blocks.AreSingle (z.blocks ++ z.working)) (only j v e).1 tt;
      known = λ j v e. subst (λ (z : SeatView). Rattle.region_words.specs.Running.AreKnown (heap_of key.primary.value.words) z.known) (only j v e).1 tt;
      once = λ n. omega arith;
      small = tt;
    },
    first-go,
  )

-- the words of a list, and zeros past its end
zeros-past : (xs : List ℕ) (n i : ℕ) → slice_index (xs ++ replicate n 0) i ≡ slice_index xs i
zeros-past [] zero i = refl
zeros-past [] (suc n) zero = refl
zeros-past [] (suc n) (suc i) = zeros-past [] n i
zeros-past (x ∷ xs) n zero = refl
zeros-past (x ∷ xs) n (suc i) = zeros-past xs n i

zeros-long : (n : ℕ) → length {A = ℕ} (replicate n 0) ≡ n
zeros-long zero = refl
zeros-long (suc n) = ap suc (zeros-long n)

pub opens-from : (key : Key) (frozen : FrozenSeen) (words : List ℕ) (n : ℕ) → key.primary.value ≡ frozen → IsSeen frozen → n + length frozen.words ≡ frozen.tables.size → words ≡ frozen.words ++ replicate n 0
    → Holds key record { words = words; homes = []; views = first_view ∷ [] }
opens-from key frozen words n is seen fits made =
    let long : length words ≡ frozen.tables.size =
    (let a : length words ≡ length (frozen.words ++ replicate n 0) = ap length made in
    let b = length-append frozen.words (replicate n 0) in
    let c = zeros-long n in
    omega arith) in
    holds-first key (subst IsSeen (sym is) seen) words (long ∙ ap (λ (f : FrozenSeen). f.tables.size) (sym is))
    (λ i. ap (λ l. slice_index l i) made ∙ zeros-past frozen.words n i ∙ ap (λ (f : FrozenSeen). slice_index f.words i) (sym is))
