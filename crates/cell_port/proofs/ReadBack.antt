-- Reading objects back from the rows of a plain port.
use Rattle.std.proofs.Common.{◌≡◌, ℕ, zero, suc, ◌+◌, ◌<◌, ◌++◌, List, [], ◌∷◌, Bool, true, false, cond, Some, None, IsSome, is_some, length, get_or, take, drop, reverse, slice_get, refl, ap, sym, ◌∙◌, subst, arith, append_assoc, append-nil}
use Rattle.std.specs.declared.option.Option.{Option}
use Rattle.std.specs.Int.{w64, to_le_bytes}
use Rattle.std.proofs.lemmas.List.{reverse-append}
use Rattle.cas_model.specs.declared.digest.Digest.{Digest}
use Rattle.cas_model.specs.declared.object.Object.{Object}
use Rattle.cas_model.specs.declared.place.Space.{Space}
use Rattle.cas_model.specs.declared.place.Space.TheVariants.{Objects, Actions}
use Rattle.cas_model.specs.declared.tables.Cell.{Cell}
use Rattle.cas_model.specs.declared.tables.Content.{Content}
use Rattle.cas_model.specs.declared.tables.Record.{Record}
use Rattle.cas_model.specs.Content.{bytes_of, content_places}
use Rattle.cas_model.specs.Tables.{record_at, words_at, digest_at, digests_at, same_space}
use Rattle.cell_port.specs.FilledRows.{AreBound, AreReadable, AreFilledIn, RowNames, AreRows, filled_objects, row_object, object_with}

pub bytes-more : (ws : List ℕ) (i : ℕ) → i < length ws → bytes_of (take (i + 1) ws) ≡ bytes_of (take i ws) ++ to_le_bytes w64 (get_or ws i 0)
bytes-more [] i lt = absurd (omega arith)
bytes-more (w ∷ ws) zero lt = append-nil (to_le_bytes w64 w)
bytes-more (w ∷ ws) (suc i) lt =
    let e : suc i + 1 ≡ suc (i + 1) = omega arith in
    ap (λ n. bytes_of (take n (w ∷ ws))) e ∙ ap (λ (bs : List ℕ). to_le_bytes w64 w ++ bs) (bytes-more ws i (omega arith))
    ∙ sym (append_assoc (to_le_bytes w64 w) (bytes_of (take i ws)) (to_le_bytes w64 (get_or ws i 0)))

pub digests-more : (bound : List Record) (ns : List ℕ) (i : ℕ) → i < length ns → digests_at bound (take (i + 1) ns) ≡ digests_at bound (take i ns) ++ digest_at bound (get_or ns i 0) ∷ []
digests-more bound [] i lt = absurd (omega arith)
digests-more bound (n ∷ ns) zero lt = refl
digests-more bound (n ∷ ns) (suc i) lt =
    let e : suc i + 1 ≡ suc (i + 1) = omega arith in
    ap (λ m. digests_at bound (take m (n ∷ ns))) e ∙ ap (λ (ds : List Digest). digest_at bound n ∷ ds) (digests-more bound ns i (omega arith))

pub bound-at : (bound : List Record) (ns : List ℕ) (i : ℕ) → i < length ns → AreBound bound ns → IsSome (record_at bound (get_or ns i 0))
bound-at bound [] i lt all = absurd (omega arith)
bound-at bound (n ∷ ns) zero lt all = all.0
bound-at bound (n ∷ ns) (suc i) lt all = bound-at bound ns i (omega arith) all.1

-- what is filled is bound
all-bound : (bound : List Record) (cells : List Cell) (ns : List ℕ) → AreFilledIn bound cells ns → AreBound bound ns
all-bound bound cells [] all = tt
all-bound bound cells (n ∷ ns) all = (ap is_some all.0.is, all-bound bound cells ns all.1)

names-readable : (bound : List Record) (blocks : List Content) (cells : List Cell) (found : Record) (value : ℕ) (space : Space) → found.space ≡ space → RowNames bound blocks cells space found.digest value
    → found.space ≡ Objects → (words : List ℕ) → words_at blocks value ≡ Some words → AreBound bound (content_places words)
names-readable bound blocks cells found value Actions is names object words at = absurd (cc (sym is ∙ object))
names-readable bound blocks cells found value Objects is (ws, there, names) object words at =
    let same : ws ≡ words = let e : Some ws ≡ Some words = sym there ∙ at in cc in
    subst (λ (xs : List ℕ). AreBound bound (content_places xs)) same (all-bound bound cells (content_places ws) names.refs)

pub row-readable : (bound : List Record) (blocks : List Content) (cells : List Cell) (i : ℕ) (c : Cell) → AreRows bound blocks cells → slice_get cells i ≡ Some c
    → AreReadable bound blocks (record_at bound c.of.at) c.value
row-readable bound blocks [] i c rows is = cc
row-readable bound blocks (x ∷ xs) zero c rows is =
    let same : x ≡ c = cc in
    subst (λ (y : Cell). AreReadable bound blocks (record_at bound y.of.at) y.value) same
    (subst (λ (o : Option Record). AreReadable bound blocks o x.value) (sym rows.0.is)
    (λ object words at. names-readable bound blocks xs rows.0.found x.value rows.0.found.space refl rows.0.names object words at))
row-readable bound blocks (x ∷ xs) (suc i) c rows is = row-readable bound blocks xs i c rows.1 is

-- a row names one object at most
reverse-with : (bound : List Record) (o : Option (List ℕ)) → reverse (object_with bound o) ≡ object_with bound o
reverse-with bound None = refl
reverse-with bound (Some words) = refl

reverse-row : (bound : List Record) (blocks : List Content) (o : Option Record) (value : ℕ) → reverse (row_object bound blocks o value) ≡ row_object bound blocks o value
reverse-row bound blocks None value = refl
reverse-row bound blocks (Some r) value = step (same_space r.space Objects) where
  step : (b : Bool) → reverse (cond b (object_with bound (words_at blocks value)) []) ≡ cond b (object_with bound (words_at blocks value)) []
  step true = reverse-with bound (words_at blocks value)
  step false = refl

-- the objects of the rows from an index on
pub drop-row : (cells : List Cell) (i : ℕ) (c : Cell) → slice_get cells i ≡ Some c → drop i cells ≡ c ∷ drop (i + 1) cells
drop-row [] i c is = cc
drop-row (x ∷ xs) zero c is = let same : x ≡ c = cc in ap (λ (y : Cell). y ∷ xs) same
drop-row (x ∷ xs) (suc i) c is = let e : suc (i + 1) ≡ suc i + 1 = omega arith in drop-row xs i c is ∙ ap (λ n. c ∷ drop n (x ∷ xs)) e

pub objects-more : (bound : List Record) (blocks : List Content) (cells : List Cell) (i : ℕ) (c : Cell) → slice_get cells i ≡ Some c
    → reverse (filled_objects bound blocks (drop (i + 1) cells)) ++ row_object bound blocks (record_at bound c.of.at) c.value ≡ reverse (filled_objects bound blocks (drop i cells))
objects-more bound blocks cells i c is =
    let row = row_object bound blocks (record_at bound c.of.at) c.value in
    ap (λ (os : List Object). reverse (filled_objects bound blocks (drop (i + 1) cells)) ++ os) (sym (reverse-row bound blocks (record_at bound c.of.at) c.value))
    ∙ sym (reverse-append row (filled_objects bound blocks (drop (i + 1) cells)))
    ∙ ap (λ (cs : List Cell). reverse (filled_objects bound blocks cs)) (sym (drop-row cells i c is))
