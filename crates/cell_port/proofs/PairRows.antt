-- The pairs that rows name, in a map from keys to values.
use Rattle.std.proofs.Common.{◌≡◌, ℕ, zero, suc, ◌+◌, ◌++◌, List, [], ◌∷◌, Bool, true, false, cond, Some, None, IsSome, is_some, drop, slice_get, map, refl, ap, sym, ◌∙◌, subst}
use Rattle.std.specs.declared.option.Option.{Option}
use Rattle.std.specs.BTreeMap.{is_at}
use Rattle.std.specs.FinMap as fin
use Rattle.std.specs.List.{AllByRecursion}
use Rattle.std.specs.List.Sorted.{IsStrictlySortedBy}
use Rattle.std.specs.Map.{lookup, keys_of}
use Rattle.std.specs.declared.cmp.Ordering.TheVariants.{Less}
use Rattle.std.specs.Ordering.{nat_cmp}
use Rattle.std.specs.Cmp.Lexicographic.{slice_cmp, texts_ties}
use Rattle.cas_model.specs.declared.contents.Pair.{Pair}
use Rattle.cas_model.specs.declared.digest.Digest.{Digest}
use Rattle.cas_model.specs.declared.place.Space.{Space}
use Rattle.cas_model.specs.declared.place.Space.TheVariants.{Objects, Actions}
use Rattle.cas_model.specs.declared.tables.Cell.{Cell}
use Rattle.cas_model.specs.declared.tables.Content.{Content}
use Rattle.cas_model.specs.declared.tables.Record.{Record}
use Rattle.cas_model.specs.Contents.{actions_map, pair_keys}
use Rattle.cas_model.specs.State.{digest_cmp}
use Rattle.cas_model.specs.Tables.{record_at, digest_at, same_space, same_digest}
use Rattle.cas_model.proofs.Maps.{get-put, same-maps, same-is, same-self}
use Rattle.cell_port.specs.FilledRows.{AreRows, RowNames, HasValue, filled_pairs, row_pair, value_over}
use Rattle.cell_port.proofs.ReadBack.{drop-row}

same-flip : (a b : Digest) → same_digest a b ≡ same_digest b a
same-flip a b = step (same_digest a b) refl where
  step : (t : Bool) → same_digest a b ≡ t → same_digest a b ≡ same_digest b a
  step true test = let e = same-is a b test in ap (same_digest a) (sym e) ∙ ap (λ x. same_digest x a) e
  step false test = test ∙ sym (other (same_digest b a) refl) where
    other : (t : Bool) → same_digest b a ≡ t → t ≡ false
    other true back = absurd (cc (ap (same_digest a) (same-is b a back), same-self a, test))
    other false back = refl

-- a value that is put in under a row's key
pub pair-added : (bound : List Record) (o : Option Record) (r : Record) (value : ℕ) (w q : Digest) (old : Option Digest) → o ≡ Some r → same_space r.space Actions ≡ true → w ≡ digest_at bound value
    → cond (is_at (slice_cmp nat_cmp r.digest.bytes) q.bytes) (Some w) old ≡ value_over (row_pair bound o value) old q
pair-added bound o r value w q old is action named =
    (λ i. cond (sym (texts_ties r.digest.bytes q.bytes) i) (Some (named i)) old)
    ∙ ap (λ b. cond b (Some (digest_at bound value)) old) (same-flip r.digest q)
    ∙ sym ((λ i. value_over (row_pair bound (is i) value) old q) ∙ (λ i. value_over (cond (action i) ((record { key = r.digest; value = digest_at bound value }) ∷ []) []) old q))

-- one row more
row-over : (ps : List Pair) (bound : List Record) (o : Option Record) (value : ℕ) (q : Digest)
    → value_over (row_pair bound o value) (fin.get (actions_map ps) q) q ≡ fin.get (actions_map (row_pair bound o value ++ ps)) q
row-over ps bound None value q = refl
row-over ps bound (Some r) value q = step (same_space r.space Actions) where
  step : (b : Bool) → value_over (cond b ((record { key = r.digest; value = digest_at bound value }) ∷ []) []) (fin.get (actions_map ps) q) q
      ≡ fin.get (actions_map (cond b ((record { key = r.digest; value = digest_at bound value }) ∷ []) [] ++ ps)) q
  step true = sym (get-put (actions_map ps) r.digest (digest_at bound value) q)
  step false = refl

pub pairs-more : (bound : List Record) (cells : List Cell) (i : ℕ) (c : Cell) (q : Digest) → slice_get cells i ≡ Some c
    → value_over (row_pair bound (record_at bound c.of.at) c.value) (fin.get (actions_map (filled_pairs bound (drop (i + 1) cells))) q) q ≡ fin.get (actions_map (filled_pairs bound (drop i cells))) q
pairs-more bound cells i c q is =
    row-over (filled_pairs bound (drop (i + 1) cells)) bound (record_at bound c.of.at) c.value q ∙ ap (λ (cs : List Cell). fin.get (actions_map (filled_pairs bound cs)) q) (sym (drop-row cells i c is))

names-value : (bound : List Record) (blocks : List Content) (cells : List Cell) (found : Record) (value : ℕ) (space : Space) → found.space ≡ space → RowNames bound blocks cells space found.digest value
    → found.space ≡ Actions → IsSome (record_at bound value)
names-value bound blocks cells found value Objects is names action = absurd (cc (sym is ∙ action))
names-value bound blocks cells found value Actions is names action = ap is_some names.is

pub row-value : (bound : List Record) (blocks : List Content) (cells : List Cell) (i : ℕ) (c : Cell) → AreRows bound blocks cells → slice_get cells i ≡ Some c
    → HasValue bound (record_at bound c.of.at) c.value
row-value bound blocks [] i c rows is = cc
row-value bound blocks (x ∷ xs) zero c rows is =
    let same : x ≡ c = cc in
    subst (λ (y : Cell). HasValue bound (record_at bound y.of.at) y.value) same
    (subst (λ (o : Option Record). HasValue bound o x.value) (sym rows.0.is) (λ action. names-value bound blocks xs rows.0.found x.value rows.0.found.space refl rows.0.names action))
row-value bound blocks (x ∷ xs) (suc i) c rows is = row-value bound blocks xs i c rows.1 is

-- ---- the entries of a map, as pairs

abbrev pub pair_of : List ℕ × Digest → Pair
pair_of e = record { key = record { bytes = e.0 }; value = e.1 }

entries-get : (es : List (List ℕ × Digest)) (q : Digest) → fin.get (actions_map (map pair_of es)) q ≡ lookup (is_at (slice_cmp nat_cmp q.bytes)) es
entries-get [] q = fin.get-empty digest_cmp q
entries-get (e ∷ es) q =
    get-put (actions_map (map pair_of es)) (record { bytes = e.0 }) e.1 q
    ∙ (λ i. cond (texts_ties q.bytes e.0 i) (Some e.1) (entries-get es q i))

pub entries-map : (es : List (List ℕ × Digest)) (ps : List Pair) → ((q : Digest) → lookup (is_at (slice_cmp nat_cmp q.bytes)) es ≡ fin.get (actions_map ps) q) → actions_map (map pair_of es) ≡ actions_map ps
entries-map es ps same = same-maps _ _ (λ q. entries-get es q ∙ same q)

all-below : (k : List ℕ) (es : List (List ℕ × Digest)) → AllByRecursion (λ y. slice_cmp nat_cmp k y ≡ Less) (keys_of es)
    → AllByRecursion (λ (y : Digest). digest_cmp (record { bytes = k }) y ≡ Less) (pair_keys (map pair_of es))
all-below k [] all = all
all-below k (e ∷ es) all = (all.0, all-below k es all.1)

-- the pairs rise as the keys of the map
pub entries-rise : (es : List (List ℕ × Digest)) → IsStrictlySortedBy (slice_cmp nat_cmp) (keys_of es) → IsStrictlySortedBy digest_cmp (pair_keys (map pair_of es))
unfolding IsStrictlySortedBy
entries-rise [] rise = rise
entries-rise (e ∷ es) rise = (all-below e.0 es rise.0, entries-rise es rise.1)
