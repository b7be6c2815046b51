-- The digests next to another one, in a map that is ordered by their bytes, share the deepest levels with it.
use Rattle.std.proofs.Common.{◌≡◌, ℕ, ◌+◌, ◌-◌, ◌≤◌, List, [], ◌∷◌, ◌++◌, Bool, true, false, cond, ◌&&◌, min, max, None, Some, Less, refl, ap, sym, ◌∙◌, subst, arith}
use Rattle.std.proofs.lemmas.Map.Views.{IsInRange-from_range_contains}
use Rattle.std.proofs.lemmas.Cmp.{nat_list_cmp_total}
use Rattle.std.specs.declared.option.Option.{Option}
use Rattle.std.specs.declared.ops.Bound.TheVariants.{Included, Excluded, Unbounded}
use Rattle.std.specs.Prelude.{not, filter}
use Rattle.std.specs.BTreeMap.Range.{range_contains, entries_between}
use Rattle.std.specs.Map.{keys_of}
use Rattle.std.specs.Map.Iter.{TakesFirst, TakesLast}
use Rattle.std.specs.Ordering.{nat_cmp, is_gt, is_le}
use Rattle.std.specs.Cmp.Lexicographic.{slice_cmp, bytes_decides}
use Rattle.std.specs.List.{AllByRecursion}
use Rattle.std.specs.List.Sorted.{IsStrictlySortedBy}
use Rattle.cas_model.specs.declared.digest.Digest.{Digest}
use Rattle.cas_model.specs.Trie.{path, sharing}
use Rattle.cell_port.specs.Depth.{shares, digests_of, needed_beside}
use Rattle.cell_port.proofs.Depths.{one_if, AreDeepest, deepest-both, IsLevel, Takes, deepest-taken, subtries-told}
use Rattle.cell_port.proofs.KeyCounts.{Entry, at, count, count-is, count-push, count-none, count-parts}
use Rattle.cell_port.proofs.DigestOrder.{IsUpTo, towards, away}

-- ---- the two sides

abbrev is_below : Digest → Entry → Bool
is_below d e = range_contains (slice_cmp nat_cmp) Unbounded (Excluded d.bytes) e.0

abbrev is_from : Digest → Entry → Bool
is_from d e = range_contains (slice_cmp nat_cmp) (Included d.bytes) Unbounded e.0

other-side : (d : Digest) (e : Entry) → is_from d e ≡ not (is_below d e)
other-side d e = step (is_le (slice_cmp nat_cmp d.bytes e.0)) where
  step : (b : Bool) → (b && true) ≡ not (true && not b)
  step true = refl
  step false = refl

not-after : (a b : List ℕ) → slice_cmp nat_cmp a b ≡ Less → IsUpTo a b
not-after a b less = ap is_gt less

shares-is : (a : List ℕ) (d : Digest) (l : ℕ) → shares (record { bytes = a }) d l ≡ true → path a l ≡ path d.bytes l
shares-is a d l h = (bytes_decides (path a l) (path d.bytes l)).0 h

is-shared : (a : List ℕ) (d : Digest) (l : ℕ) → path a l ≡ path d.bytes l → shares (record { bytes = a }) d l ≡ true
is-shared a d l h = (bytes_decides (path a l) (path d.bytes l)).1 h

-- below a digest the levels rise
abbrev Rises : Digest → ℕ → List Entry → Type 0
Rises d l [] = Unit {0}
Rises d l (e ∷ es) = (at d l e ≡ true → AllByRecursion (λ x. at d l x ≡ true) es) × Rises d l es

-- from a digest on they fall
abbrev Falls : Digest → ℕ → List Entry → Type 0
Falls d l [] = Unit {0}
Falls d l (e ∷ es) = (at d l e ≡ false → AllByRecursion (λ x. at d l x ≡ false) es) × Falls d l es

rises-on : (d : Digest) (l : ℕ) (e : Entry) → at d l e ≡ true → (es : List Entry) → AllByRecursion (λ k. slice_cmp nat_cmp e.0 k ≡ Less) (keys_of es)
    → AllByRecursion (λ x. at d l x ≡ true) (filter (is_below d) es)
rises-on d l e here [] after = tt
rises-on d l e here (x ∷ es) after = step (is_below d x) refl (rises-on d l e here es after.1) where
  step : (b : Bool) → is_below d x ≡ b → AllByRecursion (λ x. at d l x ≡ true) (filter (is_below d) es)
      → AllByRecursion (λ x. at d l x ≡ true) (cond b (x ∷ filter (is_below d) es) (filter (is_below d) es))
  step true test h =
      let range = IsInRange-from_range_contains nat_list_cmp_total Unbounded (Excluded d.bytes) x.0 test in
      (is-shared x.0 d l (towards e.0 x.0 d.bytes l (not-after e.0 x.0 after.0) (not-after x.0 d.bytes range.1) (shares-is e.0 d l here)), h)
  step false test h = h

rises : (d : Digest) (l : ℕ) (es : List Entry) → IsStrictlySortedBy (slice_cmp nat_cmp) (keys_of es) → Rises d l (filter (is_below d) es)
unfolding IsStrictlySortedBy
rises d l [] sorted = tt
rises d l (e ∷ es) sorted = step (is_below d e) (rises d l es sorted.1) where
  step : (b : Bool) → Rises d l (filter (is_below d) es) → Rises d l (cond b (e ∷ filter (is_below d) es) (filter (is_below d) es))
  step true h = (λ here. rises-on d l e here es sorted.0, h)
  step false h = h

falls-on : (d : Digest) (l : ℕ) (e : Entry) → is_from d e ≡ true → at d l e ≡ false → (es : List Entry) → AllByRecursion (λ k. slice_cmp nat_cmp e.0 k ≡ Less) (keys_of es)
    → AllByRecursion (λ x. at d l x ≡ false) (filter (is_from d) es)
falls-on d l e from here [] after = tt
falls-on d l e from here (x ∷ es) after = step (is_from d x) (falls-on d l e from here es after.1) where
  none : (b : Bool) → at d l x ≡ b → b ≡ false
  none false test = refl
  none true test =
      let range = IsInRange-from_range_contains nat_list_cmp_total (Included d.bytes) Unbounded e.0 from in
      absurd (let h : at d l e ≡ true = is-shared e.0 d l (away x.0 e.0 d.bytes l range.0 (not-after e.0 x.0 after.0) (shares-is x.0 d l test)) in cc)

  step : (b : Bool) → AllByRecursion (λ x. at d l x ≡ false) (filter (is_from d) es)
      → AllByRecursion (λ x. at d l x ≡ false) (cond b (x ∷ filter (is_from d) es) (filter (is_from d) es))
  step true h = (none (at d l x) refl, h)
  step false h = h

falls : (d : Digest) (l : ℕ) (es : List Entry) → IsStrictlySortedBy (slice_cmp nat_cmp) (keys_of es) → Falls d l (filter (is_from d) es)
unfolding IsStrictlySortedBy
falls d l [] sorted = tt
falls d l (e ∷ es) sorted = step (is_from d e) refl (falls d l es sorted.1) where
  step : (b : Bool) → is_from d e ≡ b → Falls d l (filter (is_from d) es) → Falls d l (cond b (e ∷ filter (is_from d) es) (filter (is_from d) es))
  step true test h = (λ here. falls-on d l e test here es sorted.0, h)
  step false test h = h

-- ---- what is taken from a side

last-of : (P : Entry → Type 0) (es : List Entry) (e : Entry) → AllByRecursion P (es ++ e ∷ []) → P e
last-of P [] e all = all.0
last-of P (x ∷ es) e all = last-of P es e all.1

rises-front : (d : Digest) (l : ℕ) (es : List Entry) (e : Entry) → Rises d l (es ++ e ∷ []) → Rises d l es
rises-front d l [] e all = tt
rises-front d l (x ∷ es) e all = (λ here. front es (all.0 here), rises-front d l es e all.1) where
  front : (xs : List Entry) → AllByRecursion (λ x. at d l x ≡ true) (xs ++ e ∷ []) → AllByRecursion (λ x. at d l x ≡ true) xs
  front [] h = tt
  front (x ∷ xs) h = (h.0, front xs h.1)

rises-none : (d : Digest) (l : ℕ) (es : List Entry) (e : Entry) → Rises d l (es ++ e ∷ []) → at d l e ≡ false → count d es l ≡ 0
rises-none d l [] e all none = refl
rises-none d l (x ∷ es) e all none = step (at d l x) refl (rises-none d l es e all.1 none) where
  step : (b : Bool) → at d l x ≡ b → count d es l ≡ 0 → one_if b + count d es l ≡ 0
  step false test h = omega (arith, h)
  step true test h = absurd (let last = last-of (λ x. at d l x ≡ true) es e (all.0 test) in cc)

takes-last : {A : Type 0} (shows : A → Entry) (d : Digest) (es t : List Entry) (o : Option A) → TakesLast shows es o t → ((l : ℕ) → Rises d l es)
    → Takes (λ a. (shows a).0) d o (count d es) (count d t) × ((l : ℕ) → Rises d l t)
takes-last {A} shows d es t None taken up =
    (λ l. (ap (λ (xs : List Entry). count d xs l) taken.0, ap (λ (xs : List Entry). count d xs l) taken.1), λ l. subst (Rises d l) (sym taken.1) tt)
takes-last {A} shows d es t (Some a) taken up = (
  λ l. (ap (λ (xs : List Entry). count d xs l) taken ∙ count-push d t (shows a) l, rises-none d l t (shows a) (subst (Rises d l) taken (up l))),
  λ l. rises-front d l t (shows a) (subst (Rises d l) taken (up l)),
)

takes-first : {A : Type 0} (shows : A → Entry) (d : Digest) (es t : List Entry) (o : Option A) → TakesFirst shows es o t → ((l : ℕ) → Falls d l es)
    → Takes (λ a. (shows a).0) d o (count d es) (count d t) × ((l : ℕ) → Falls d l t)
takes-first {A} shows d es t None taken down =
    (λ l. (ap (λ (xs : List Entry). count d xs l) taken.0, ap (λ (xs : List Entry). count d xs l) taken.1), λ l. subst (Falls d l) (sym taken.1) tt)
takes-first {A} shows d es t (Some a) taken down =
    (λ l. (ap (λ (xs : List Entry). count d xs l) taken, λ none. count-none d t l ((subst (Falls d l) taken (down l)).0 none)), λ l. (subst (Falls d l) taken (down l)).1)

-- ---- both sides

-- two neighbours on each side tell how many subtries a digest needs beside the keys of a map
pub neighbours-tell : {A : Type 0} (shows : A → Entry) (d : Digest) (es below t u above v w : List Entry) (one two three four : Option A) (a c b e : ℕ)
    → IsStrictlySortedBy (slice_cmp nat_cmp) (keys_of es)
    → below ≡ entries_between (slice_cmp nat_cmp) Unbounded (Excluded d.bytes) es → above ≡ entries_between (slice_cmp nat_cmp) (Included d.bytes) Unbounded es
    → TakesLast shows below one t → TakesLast shows t two u → TakesFirst shows above three v → TakesFirst shows v four w
    → IsLevel (λ x. (shows x).0) d one a → IsLevel (λ x. (shows x).0) d two c → IsLevel (λ x. (shows x).0) d three b → IsLevel (λ x. (shows x).0) d four e
    → (max a b - max (max (min a b) c) e ≡ needed_beside (digests_of (keys_of es)) d) × (max (max (min a b) c) e ≤ max a b) × (max a b ≤ 62)
neighbours-tell {A} shows d es below t u above v w one two three four a c b e sorted is-below is-above first second third fourth la lc lb le =
    subtries-told d (digests_of (keys_of es)) (max a b) (max (max (min a b) c) e)
    (subst (λ (f : ℕ → ℕ). AreDeepest f (max a b) (max (max (min a b) c) e)) counted (deepest-both (count d below) (count d above) a b c e side-below side-above)) where
      low : Takes (λ x. (shows x).0) d one (count d below) (count d t) × ((l : ℕ) → Rises d l t)
      low = takes-last shows d below t one first (λ l. subst (Rises d l) (sym is-below) (rises d l es sorted))

      high : Takes (λ x. (shows x).0) d three (count d above) (count d v) × ((l : ℕ) → Falls d l v)
      high = takes-first shows d above v three third (λ l. subst (Falls d l) (sym is-above) (falls d l es sorted))

      side-below : AreDeepest (count d below) a c
      side-below = deepest-taken (λ x. (shows x).0) d one two a c (count d below) (count d t) (count d u) la lc low.0 (takes-last shows d t u two second low.1).0

      side-above : AreDeepest (count d above) b e
      side-above = deepest-taken (λ x. (shows x).0) d three four b e (count d above) (count d v) (count d w) lb le high.0 (takes-first shows d v w four fourth high.1).0

      counted : (λ l. count d below l + count d above l) ≡ sharing (digests_of (keys_of es)) d
      counted = λ i l. (ap (λ (xs : List Entry). count d xs l + count d above l) is-below ∙ ap (λ (xs : List Entry). count d (filter (is_below d) es) l + count d xs l) is-above
          ∙ count-parts d (is_below d) (is_from d) l (other-side d) es ∙ sym (count-is d es l)) i
