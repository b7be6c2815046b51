-- How many of a map's digests share a level.
use Rattle.std.proofs.Common.{◌≡◌, ℕ, ◌+◌, List, [], ◌∷◌, ◌++◌, Bool, true, false, cond, None, Some, Less, Equal, Greater, refl, ap, sym, ◌∙◌, arith}
use Rattle.std.proofs.lemmas.List.Sums.{sum_by-cons}
use Rattle.std.proofs.lemmas.Map.Lookups.{exact_bytes}
use Rattle.std.proofs.lemmas.Map.Views.{tells_apart}
use Rattle.std.specs.declared.cmp.Ordering.{Ordering}
use Rattle.std.specs.Prelude.{not, filter, IsSome}
use Rattle.std.specs.BTreeMap.{insert_entry, is_at}
use Rattle.std.specs.Map.{keys_of, lookup, remove_entry}
use Rattle.std.specs.Ordering.{nat_cmp, is_eq, match_ordering}
use Rattle.std.specs.Cmp.Lexicographic.{slice_cmp}
use Rattle.std.specs.List.{AllByRecursion}
use Rattle.cas_model.specs.declared.digest.Digest.{Digest}
use Rattle.cas_model.specs.declared.place.Place.{Place}
use Rattle.cas_model.specs.Trie.{sharing}
use Rattle.cell_port.specs.Depth.{shares, digests_of}
use Rattle.cell_port.proofs.Depths.{one_if}

-- an entry of a map
abbrev pub Entry : Type 0
Entry = List ℕ × Place

-- the entry's digest shares the level
abbrev pub at : Digest → ℕ → Entry → Bool
at d l e = shares (record { bytes = e.0 }) d l

-- how many entries do
abbrev pub count : Digest → List Entry → ℕ → ℕ
count d [] l = 0
count d (e ∷ es) l = one_if (at d l e) + count d es l

pub sharing-cons : (e d : Digest) (ds : List Digest) (l : ℕ) → sharing (e ∷ ds) d l ≡ one_if (shares e d l) + sharing ds d l
sharing-cons e d ds l = sum_by-cons (λ (x : Digest). one_if (shares x d l)) e ds

pub count-is : (d : Digest) (es : List Entry) (l : ℕ) → sharing (digests_of (keys_of es)) d l ≡ count d es l
count-is d [] l = refl
count-is d (e ∷ es) l = sharing-cons (record { bytes = e.0 }) d (digests_of (keys_of es)) l ∙ ap (λ n. one_if (at d l e) + n) (count-is d es l)

pub count-push : (d : Digest) (es : List Entry) (e : Entry) (l : ℕ) → count d (es ++ e ∷ []) l ≡ one_if (at d l e) + count d es l
count-push d [] e l = refl
count-push d (x ∷ es) e l = omega (arith, count-push d es e l)

pub count-none : (d : Digest) (es : List Entry) (l : ℕ) → AllByRecursion (λ e. at d l e ≡ false) es → count d es l ≡ 0
count-none d [] l none = refl
count-none d (e ∷ es) l none = omega (arith, ap one_if none.0, count-none d es l none.1)

pub count-parts : (d : Digest) (p q : Entry → Bool) (l : ℕ) → ((e : Entry) → q e ≡ not (p e)) → (es : List Entry) → count d (filter p es) l + count d (filter q es) l ≡ count d es l
count-parts d p q l other [] = omega arith
count-parts d p q l other (e ∷ es) = step (p e) (q e) (other e) (count-parts d p q l other es) where
  step : (b c : Bool) → c ≡ not b → count d (filter p es) l + count d (filter q es) l ≡ count d es l
      → count d (cond b (e ∷ filter p es) (filter p es)) l + count d (cond c (e ∷ filter q es) (filter q es)) l ≡ one_if (at d l e) + count d es l
  step true false is h = omega (arith, h)
  step false true is h = omega (arith, h)
  step true true is h = cc
  step false false is h = cc

-- a digest is put in
pub count-inserted : (d : Digest) (l : ℕ) (k : List ℕ) (v : Place) (es : List Entry) → lookup (is_at (slice_cmp nat_cmp k)) es ≡ None
    → count d (insert_entry (slice_cmp nat_cmp) es k v) l ≡ one_if (at d l (k, v)) + count d es l
count-inserted d l k v [] none = refl
count-inserted d l k v (e ∷ es) none = step (slice_cmp nat_cmp k e.0) none (count-inserted d l k v es) where
  step : (o : Ordering) → cond (is_eq o) (Some e.1) (lookup (is_at (slice_cmp nat_cmp k)) es) ≡ None
      → (lookup (is_at (slice_cmp nat_cmp k)) es ≡ None → count d (insert_entry (slice_cmp nat_cmp) es k v) l ≡ one_if (at d l (k, v)) + count d es l)
      → count d (match_ordering o ((k, v) ∷ e ∷ es) ((e.0, v) ∷ es) (e ∷ insert_entry (slice_cmp nat_cmp) es k v)) l ≡ one_if (at d l (k, v)) + (one_if (at d l e) + count d es l)
  step Less absent more = refl
  step Equal absent more = cc
  step Greater absent more = omega (arith, more absent)

-- a digest is taken out
pub count-removed : (d : Digest) (l : ℕ) (k : List ℕ) (es : List Entry) → IsSome (lookup (is_at (slice_cmp nat_cmp k)) es)
    → count d es l ≡ one_if (shares (record { bytes = k }) d l) + count d (remove_entry (is_at (slice_cmp nat_cmp k)) es) l
count-removed d l k [] some = cc
count-removed d l k (e ∷ es) some = step (is_at (slice_cmp nat_cmp k) e.0) refl some (count-removed d l k es) where
  step : (b : Bool) → is_at (slice_cmp nat_cmp k) e.0 ≡ b → IsSome (cond b (Some e.1) (lookup (is_at (slice_cmp nat_cmp k)) es))
      → (IsSome (lookup (is_at (slice_cmp nat_cmp k)) es) → count d es l ≡ one_if (shares (record { bytes = k }) d l) + count d (remove_entry (is_at (slice_cmp nat_cmp k)) es) l)
      → one_if (at d l e) + count d es l ≡ one_if (shares (record { bytes = k }) d l) + count d (cond b es (e ∷ remove_entry (is_at (slice_cmp nat_cmp k)) es)) l
  step true test present more = ap (λ (bytes : List ℕ). one_if (shares (record { bytes = bytes }) d l) + count d es l) (sym (tells_apart exact_bytes k e.0 test))
  step false test present more = omega (arith, more present)
