-- The content of an object whose references are filled.
use Rattle.std.proofs.Common.{◌≡◌, ℕ, zero, suc, ◌<◌, ◌≤◌, List, [], ◌∷◌, ◌++◌, cond, ◌⊎◌, inl, inr, None, Some, refl, ap, sym, ◌∙◌, subst, arith, length}
use Rattle.std.specs.declared.option.Option.{Option}
use Rattle.std.proofs.lemmas.Bool.{eq-eqb}
use Rattle.cas_model.specs.declared.call.Who.{Who}
use Rattle.cas_model.specs.declared.digest.Digest.{Digest}
use Rattle.cas_model.specs.declared.object.Object.{Object}
use Rattle.cas_model.specs.declared.place.Place.{Place}
use Rattle.cas_model.specs.declared.place.Space.TheVariants.{Objects}
use Rattle.cas_model.specs.declared.tables.Record.{Record}
use Rattle.cas_model.specs.Content.{IsContent, content_places, content_bytes, content_words, data_words}
use Rattle.cas_model.specs.Primary.{cell_under, cell_at}
use Rattle.cas_model.specs.Start.{IsFilled, RefsBelow}
use Rattle.cas_model.specs.State.{State, AreBytes}
use Rattle.cas_model.specs.Tables.{Tables, place_of, cell_of, digest_at, digests_at, digest_of_record, object_of}
use Rattle.cas_model.proofs.ContentLemmas.{content_places-words, content_bytes-words}
use Rattle.cas_history.specs.declared.event.Event.{Event}
use Rattle.cas_history.specs.Lawful.{IsLawfulRun}
use Rattle.cas_history.specs.Run.{tables as tables_after, filled_by}
use Rattle.cas_history.proofs.Grown.{Grows}
use Rattle.cas_history.proofs.Sound.{IsSound, sound-run}
use Rattle.cas_history.proofs.Under.{IsUnder, under-cases}
use Rattle.cas_history.proofs.Blocks.{run-named-fits}
use Rattle.cas_history.proofs.Placed.{placed-run}
use Rattle.cas_port.specs.declared.block.Block.{Block}
use Rattle.cas_port.specs.declared.block.OpenBlock.{OpenBlock}
use Rattle.cas_port.specs.View.{open_words, close_block}
use Rattle.cas_model.proofs.DataBytes.{bytes-at}
use Rattle.graph_db.specs.Storing.{AreFilled, places_in, place_number, block_of}

-- ---- the references lie below the claimed block

content-long : (words : List ℕ) → IsContent words → 0 < length words
content-long words content =
    let e : length words ≡ suc (length (content_places words ++ data_words (content_bytes words))) = ap length content.is in
    omega (arith, e)

pub cell-below : (up : State) (start : Tables) (seen : List Event) (d : Digest) → IsLawfulRun up start seen → 0 < cell_under (tables_after start seen) Objects d
    → cell_under (tables_after start seen) Objects d < (tables_after start seen).counter
cell-below up start seen d lawful some = step (under-cases (tables_after start seen) d (sound-run up start seen lawful)) where
  step : (cell_under (tables_after start seen) Objects d ≡ 0) ⊎ IsUnder (tables_after start seen) d → cell_under (tables_after start seen) Objects d < (tables_after start seen).counter
  step (inl none) = absurd (omega (arith, none, some))
  step (inr u) =
      let cell : cell_under (tables_after start seen) Objects d ≡ cell_of (tables_after start seen).filled u.place.at = ap (cell_at (tables_after start seen).filled) u.at in
      let fits = run-named-fits up start seen lawful (cell_of (tables_after start seen).filled u.place.at) (length u.words) (inr (u.words, u.there, refl)) in
      let given = (placed-run up start seen lawful).within_counter in
      let long = content-long u.words u.is.content in
      omega (arith, cell, fits.1, given, long)

pub refs-below : (s : Tables) (value : ℕ) (refs : List Digest) → IsSound s → AreFilled s refs → ((d : Digest) → 0 < cell_under s Objects d → cell_under s Objects d < value) → RefsBelow s value (places_in s refs)
refs-below s value [] sound filled below = tt
refs-below s value (d ∷ ds) sound filled below = step (refs-below s value ds sound filled.1 below) (under-cases s d sound) where
  step : RefsBelow s value (places_in s ds) → (cell_under s Objects d ≡ 0) ⊎ IsUnder s d → RefsBelow s value (places_in s (d ∷ ds))
  step rest (inl none) = let some = filled.0 in absurd (omega (arith, none, some))
  step rest (inr u) =
      let found = sound.tied.to Objects d u.place u.at in
      let cell : cell_under s Objects d ≡ cell_of s.filled u.place.at = ap (cell_at s.filled) u.at in
      let less = below d filled.0 in
      let P : ℕ → Type 0 = λ n. IsFilled s n × (cell_of s.filled n < value) in
      let here : P (place_number (place_of s.bound Objects d)) = subst P (sym (ap place_number u.at)) (record { object = record { found = found.0; is = found.1; in_space = found.2 }; filled = u.some }, omega (arith, cell, less)) in
      (here.0, here.1, rest)

pub places-same : (s t : Tables) (refs : List Digest) → s.bound ≡ t.bound → places_in s refs ≡ places_in t refs
places-same s t [] same = refl
places-same s t (d ∷ ds) same = λ i. place_number (place_of (same i) Objects d) ∷ places-same s t ds same i

digests-back : (s : Tables) (refs : List Digest) → IsSound s → AreFilled s refs → digests_at s.bound (places_in s refs) ≡ refs
digests-back s [] sound filled = refl
digests-back s (d ∷ ds) sound filled = step (digests-back s ds sound filled.1) (under-cases s d sound) where
  step : digests_at s.bound (places_in s ds) ≡ ds → (cell_under s Objects d ≡ 0) ⊎ IsUnder s d → digests_at s.bound (places_in s (d ∷ ds)) ≡ d ∷ ds
  step rest (inl none) = let some = filled.0 in absurd (omega (arith, none, some))
  step rest (inr u) =
      let found = sound.tied.to Objects d u.place u.at in
      let here : digest_at s.bound (place_number (place_of s.bound Objects d)) ≡ d = ap (λ p. digest_at s.bound (place_number p)) u.at ∙ ap digest_of_record found.1 ∙ found.3 in
      λ i. here i ∷ rest i

-- the places of filled references stay
pub places-grow : (s t : Tables) (ds : List Digest) → Grows s t → AreFilled s ds → places_in s ds ≡ places_in t ds
places-grow s t [] grows filled = refl
places-grow s t (d ∷ ds) grows filled = step (place_of s.bound Objects d) refl (places-grow s t ds grows filled.1) where
  step : (o : Option Place) → place_of s.bound Objects d ≡ o → places_in s ds ≡ places_in t ds → places_in s (d ∷ ds) ≡ places_in t (d ∷ ds)
  step None at rest = absurd (let e = ap (cell_at s.filled) at in let some = filled.0 in omega (arith, e, some))
  step (Some p) at rest =
      let here : place_number (place_of s.bound Objects d) ≡ place_number (place_of t.bound Objects d) = ap place_number at ∙ sym (ap place_number (grows.places Objects d p at)) in
      λ i. here i ∷ rest i

pub length-places : (s : Tables) (refs : List Digest) → length (places_in s refs) ≡ length refs
length-places s [] = refl
length-places s (d ∷ ds) = ap suc (length-places s ds)

-- the words describe the object
pub object-content : (s : Tables) (o : Object) (places : List ℕ) → places ≡ places_in s o.refs → length o.refs ≤ 65535 → length o.data ≤ 16777215 → AreBytes o.data → IsSound s → AreFilled s o.refs
    → object_of s.bound (content_words places o.data) ≡ o
object-content s o places are few short ok sound filled =
    let long : length places ≡ length o.refs = ap length are ∙ length-places s o.refs in
    let p : content_places (content_words places o.data) ≡ places = content_places-words places o.data (omega arith) in
    let b : content_bytes (content_words places o.data) ≡ o.data = content_bytes-words places o.data (omega arith) (bytes-at o.data ok) in
    let r : digests_at s.bound (content_places (content_words places o.data)) ≡ o.refs = ap (digests_at s.bound) (p ∙ are) ∙ digests-back s o.refs sound filled in
    λ i. record { refs = r i; «data» = b i }

-- ---- the newest open block

-- the words of the newest open block
pub open-head : (block : Block) (who : Who) (words : List (Option ℕ)) (rest : List OpenBlock) → open_words (block_of block who words ∷ rest) block.place.at ≡ words
open-head block who words rest = ap (λ b. cond b words (open_words rest block.place.at)) (eq-eqb block.place.at block.place.at refl)

pub close-head : (block : Block) (who : Who) (words : List (Option ℕ)) (rest : List OpenBlock) → close_block (block_of block who words ∷ rest) block.place.at ≡ rest
close-head block who words rest = ap (λ b. cond b rest (block_of block who words ∷ close_block rest block.place.at)) (eq-eqb block.place.at block.place.at refl)

fill-filled : (s : Tables) (cell : Place) (value : ℕ) (words : List ℕ) → 0 < value → 0 < cell_of (filled_by s (cell_of s.filled cell.at) cell value words).filled cell.at
fill-filled s cell value words some = step (cell_of s.filled cell.at) refl where
  step : (had : ℕ) → cell_of s.filled cell.at ≡ had → 0 < cell_of (filled_by s had cell value words).filled cell.at
  step zero is = subst (λ b. 0 < cond b value (cell_of s.filled cell.at)) (sym (eq-eqb cell.at cell.at refl)) some
  step (suc had) is = omega (arith, is)

pub filled-bound : (s : Tables) (had : ℕ) (cell : Place) (value : ℕ) (words : List ℕ) → (filled_by s had cell value words).bound ≡ s.bound
filled-bound s zero cell value words = refl
filled-bound s (suc had) cell value words = refl

pub fill-under : (s : Tables) (cell : Place) (value : ℕ) (words : List ℕ) (d : Digest) → place_of s.bound Objects d ≡ Some cell → 0 < value
    → 0 < cell_under (filled_by s (cell_of s.filled cell.at) cell value words) Objects d
fill-under s cell value words d at some =
    let t : Tables = filled_by s (cell_of s.filled cell.at) cell value words in
    let place : place_of t.bound Objects d ≡ Some cell = ap (λ (rs : List Record). place_of rs Objects d) (filled-bound s (cell_of s.filled cell.at) cell value words) ∙ at in
    subst (λ (p : Option Place). 0 < cell_at t.filled p) (sym place) (fill-filled s cell value words some)
