-- The words of a content are pushed one by one.
use Rattle.std.proofs.Common.{◌≡◌, ℕ, ◌+◌, ◌*◌, ◌/◌, ◌<◌, ◌≤◌, List, [], ◌∷◌, ◌++◌, length, get_or, take, drop, zero, suc, refl, sym, ap, ◌∙◌, subst, arith, append_assoc, None, w64}
use Rattle.std.specs.Int.{from_le_bytes}
use Rattle.std.proofs.lemmas.List.{take_more, take-append-le, append-nil, drop-drop}
use Rattle.cas_model.specs.declared.digest.Digest.{Digest}
use Rattle.cas_model.specs.declared.place.Space.TheVariants.{Objects}
use Rattle.cas_model.specs.Content.{words_from, data_words, data_word_at}
use Rattle.region_core.specs.Builds.{AreThere, ArePlaces, HasReferences, HasPlaces}
use Rattle.region_core.specs.Heap.{Block, Laid, memory_of}
use Rattle.region_core.specs.Holds.{IsRecord, Looked}
use Rattle.region_core.specs.Inserts.{Region}

pub places_none : (region before : List ℕ) → HasPlaces region before before []
places_none region before = record { places = []; is = sym (append-nil before); are = λ heap laid. tt }

pub region_kept : (end : ℕ) (old now : List ℕ) (refs : List Digest) → end ≤ length old → HasPlaces (take end old) old now refs → take end now ≡ take end old
region_kept end old now refs h x = ap (take end) x.is ∙ take-append-le end old x.places h

pub region_there : (region words : List ℕ) (refs : List Digest) → words ≡ region → HasReferences region refs → Region words
region_there region words refs e x = subst Region (sym e) record { heap = x.heap; laid = x.laid }

there_at : (heap : ℕ → Block) (refs : List Digest) (i : ℕ) → AreThere heap refs → i < length refs → (p : ℕ) × IsRecord heap Objects (get_or refs i (record { bytes = [] })).bytes p
there_at heap [] i all h = absurd (omega arith)
there_at heap (r ∷ rs) zero all h = all.0
there_at heap (r ∷ rs) (suc i) all h = there_at heap rs i all.1 (omega arith)

-- a reference that has a record is found
pub reference_found : (region words : List ℕ) (refs : List Digest) (i : ℕ) → words ≡ region → HasReferences region refs → i < length refs
    → ((heap : ℕ → Block) → Laid heap (memory_of words) (length words) → Looked heap Objects (get_or refs i (record { bytes = [] })).bytes None) → ⊥
reference_found region words refs i e x h none =
    let at = there_at x.heap refs i x.there h in
    none x.heap (subst (λ ws. Laid x.heap (memory_of ws) (length ws)) (sym e) x.laid) at.0 at.1.0 at.1.1

are_more : (heap : ℕ → Block) (ns : List ℕ) (rs : List Digest) (n : ℕ) (r : Digest) → ArePlaces heap ns rs → IsRecord heap Objects r.bytes n → ArePlaces heap (ns ++ n ∷ []) (rs ++ r ∷ [])
are_more heap [] [] n r all one = (one, tt)
are_more heap [] (x ∷ rs) n r all one = absurd all
are_more heap (m ∷ ns) [] n r all one = absurd all
are_more heap (m ∷ ns) (x ∷ rs) n r all one = (all.0, are_more heap ns rs n r all.1 one)

pub places_more : (region words before now new : List ℕ) (refs : List Digest) (i p : ℕ) → words ≡ region → HasPlaces region before now (take i refs) → i < length refs
    → ((heap : ℕ → Block) → Laid heap (memory_of words) (length words) → IsRecord heap Objects (get_or refs i (record { bytes = [] })).bytes p) → new ≡ now ++ p ∷ [] → HasPlaces region before new (take (i + 1) refs)
places_more region words before now new refs i p e x h found is = record {
  places = x.places ++ p ∷ [];
  is = is ∙ ap (λ ws. ws ++ p ∷ []) x.is ∙ append_assoc before x.places (p ∷ []);
  are = λ heap laid. subst (ArePlaces heap (x.places ++ p ∷ [])) (sym (take_more refs i (record { bytes = [] }) h))
      (are_more heap x.places (take i refs) p (get_or refs i (record { bytes = [] })) (x.are heap laid) (found heap (subst (λ ws. Laid heap (memory_of ws) (length ws)) (sym e) laid)));
}

word_at : (n i : ℕ) (bytes : List ℕ) → i < n → get_or (words_from n bytes) i 0 ≡ from_le_bytes w64 (drop (8 * i) bytes)
word_at zero i bytes h = absurd (omega arith)
word_at (suc n) zero bytes h = refl
word_at (suc n) (suc i) bytes h = word_at n i (drop 8 bytes) (omega arith) ∙ ap (from_le_bytes w64) (drop-drop (8 * i) 8 bytes ∙ ap (λ k. drop k bytes) (let e : 8 + 8 * i ≡ 8 * suc i = omega arith in e))

length-words : (n : ℕ) (bytes : List ℕ) → length (words_from n bytes) ≡ n
length-words zero bytes = refl
length-words (suc n) bytes = ap suc (length-words n (drop 8 bytes))

pub length-data_words : (bytes : List ℕ) → length (data_words bytes) ≡ (length bytes + 7) / 8
length-data_words bytes = length-words ((length bytes + 7) / 8) bytes

-- one more word of the data
pub data_more : (old now new : List ℕ) (bytes : List ℕ) (i word : ℕ) → now ≡ old ++ take i (data_words bytes) → i < (length bytes + 7) / 8 → word ≡ data_word_at bytes i → new ≡ now ++ word ∷ [] → new ≡ old ++ take (i + 1) (data_words bytes)
data_more old now new bytes i word was h word_is is =
    let at : word ≡ get_or (data_words bytes) i 0 = word_is ∙ sym (word_at ((length bytes + 7) / 8) i bytes h) in
    is ∙ (λ j. was j ++ at j ∷ []) ∙ append_assoc old (take i (data_words bytes)) (get_or (data_words bytes) i 0 ∷ [])
    ∙ ap (λ ws. old ++ ws) (sym (take_more (data_words bytes) i 0 (omega (arith, length-data_words bytes))))
