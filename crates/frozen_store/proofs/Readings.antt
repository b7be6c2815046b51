-- What is read of a content is its object.
use Rattle.std.proofs.Common.{◌≡◌, ℕ, zero, suc, ◌+◌, ◌/◌, ◌%◌, ◌^◌, ◌<◌, ◌≤◌, List, [], ◌∷◌, ◌++◌, length, get_or, take, drop, refl, sym, ap, ◌∙◌, subst, arith, append_assoc}
use Rattle.std.specs.Int.{w64, to_le_bytes}
use Rattle.std.proofs.lemmas.List.{take_more, drop_more, drop-take, drop-drop, append-nil}
use Rattle.cas_model.specs.declared.digest.Digest.{Digest}
use Rattle.cas_model.specs.declared.object.Object.{Object}
use Rattle.cas_model.specs.Content.{content_places, content_bytes, content_size, bytes_of}
use Rattle.cas_model.specs.Trie.{IsDigest}
use Rattle.region_core.specs.Leads.{digest_there, digests_there, content_there, object_there, length_told}
use Rattle.region_core.specs.Stands.{AreReferences}
use Rattle.region_core.specs.Words.{HasWords, words_of}
use Rattle.region_core.proofs.Founding.{there_read}
use Rattle.region_core.proofs.Labels.{told, some_words}
use Rattle.region_core.proofs.Reading.{digest_held-there}
use Rattle.frozen_store.specs.Reads.{HasContentAt, ArePlacesWithin}

digests_append : (words ps qs : List ℕ) → digests_there words (ps ++ qs) ≡ digests_there words ps ++ digests_there words qs
digests_append words [] qs = refl
digests_append words (p ∷ ps) qs = ap (λ ds. digest_there words p ∷ ds) (digests_append words ps qs)

-- one more digest
pub digests_more : (words places : List ℕ) (i : ℕ) (now new : List Digest) (d : Digest) → now ≡ digests_there words (take i places) → i < length places → IsDigest d.bytes → HasWords words (get_or places i 0) (words_of d.bytes) → new ≡ now ++ d ∷ [] → new ≡ digests_there words (take (i + 1) places)
digests_more words places i now new d was h digest has is =
    let d_is : d ≡ digest_there words (get_or places i 0) = sym (digest_held-there words d.bytes (get_or places i 0) digest has) in
    is ∙ (λ k. was k ++ d_is k ∷ []) ∙ sym (digests_append words (take i places) (get_or places i 0 ∷ [])) ∙ ap (digests_there words) (sym (take_more places i 0 h))

bytes_append : (xs ys : List ℕ) → bytes_of (xs ++ ys) ≡ bytes_of xs ++ bytes_of ys
bytes_append [] ys = refl
bytes_append (x ∷ xs) ys = ap (λ bs. to_le_bytes w64 x ++ bs) (bytes_append xs ys) ∙ sym (append_assoc (to_le_bytes w64 x) (bytes_of xs) (bytes_of ys))

-- eight bytes more
pub bytes_more : (words : List ℕ) (i : ℕ) (now new : List ℕ) → now ≡ bytes_of (take i words) → i < length words → new ≡ now ++ to_le_bytes w64 (get_or words i 0) → new ≡ bytes_of (take (i + 1) words)
bytes_more words i now new was h is =
    is ∙ ap (λ bs. bs ++ to_le_bytes w64 (get_or words i 0)) was
    ∙ ap (λ bs. bytes_of (take i words) ++ bs) (sym (append-nil (to_le_bytes w64 (get_or words i 0))))
    ∙ sym (bytes_append (take i words) (get_or words i 0 ∷ [])) ∙ ap bytes_of (sym (take_more words i 0 h))

take_none : (k : ℕ) → take {A = ℕ} k [] ≡ []
take_none zero = refl
take_none (suc k) = refl

take_within : (xs : List ℕ) (n m : ℕ) → take n (take (n + m) xs) ≡ take n xs
take_within xs zero m = refl
take_within [] (suc n) m = ap (take (suc n)) (take_none (suc n + m))
take_within (x ∷ xs) (suc n) m = ap (λ k. take (suc n) (take k (x ∷ xs))) (let e : suc n + m ≡ suc (n + m) = omega arith in e) ∙ ap (λ ys. x ∷ ys) (take_within xs n m)

-- the parts of a content, by the numbers that its head tells
pub record ContentParts (words : List ℕ) (place refs size : ℕ) : Type 0 where
  pub within : place + 1 + refs + size ≤ length words
  pub refs_are : content_places (content_there words place) ≡ take refs (drop (place + 1) words)
  pub bytes_are : content_bytes (content_there words place) ≡ take (get_or words place 0 % 2 ^ 32) (bytes_of (take size (drop (place + 1 + refs) words)))

pub parts_of : (words : List ℕ) (place : ℕ) → HasContentAt words place → ContentParts words place (get_or words place 0 / 2 ^ 32) ((get_or words place 0 % 2 ^ 32 + 7) / 8)
unfolding content_there
parts_of words place x =
    let z = x.stands.contents x.owner place x.content in
    let head : ℕ = get_or words place 0 in
    let refs : ℕ = get_or words place 0 / 2 ^ 32 in
    let size : ℕ = (get_or words place 0 % 2 ^ 32 + 7) / 8 in
    let ys : List ℕ = drop (place + 1) words in
    let zero_there : place + 0 ≡ place = omega arith in
    let some = some_words (content_there words place) z.0 in
    let head_is : get_or (content_there words place) 0 0 ≡ get_or words place 0 = there_read words place 0 some ∙ ap (λ i. get_or words i 0) zero_there in
    let long : length (content_there words place) ≡ content_size (get_or words place 0 / 2 ^ 32) (get_or words place 0 % 2 ^ 32) = sym (told (content_there words place) z.0) ∙ ap length_told head_is in
    let inside : place < length words = omega (arith, z.2) in
    let count : content_size (get_or words place 0 / 2 ^ 32) (get_or words place 0 % 2 ^ 32) ≡ suc (refs + size) = one_more (get_or words place 0 / 2 ^ 32) ((get_or words place 0 % 2 ^ 32 + 7) / 8) in
    let split : content_there words place ≡ get_or words place 0 ∷ take (refs + size) (drop (place + 1) words) = (λ i. take (count i) (drop_more words place 0 inside i)) in
    record {
      within = bound place (length (content_there words place)) (length words) refs size z.2 (long ∙ count);
      refs_are = ap content_places split ∙ take_within (drop (place + 1) words) refs size;
      bytes_are = ap content_bytes split ∙ ap (λ ws. take (get_or words place 0 % 2 ^ 32) (bytes_of ws)) (drop-take refs size (drop (place + 1) words) ∙ ap (take size) (drop-drop refs (place + 1) words));
    }
  where
    one_more : (a b : ℕ) → 1 + a + b ≡ suc (a + b)
    one_more a b = omega arith

    bound : (place long total a b : ℕ) → place + long ≤ total → long ≡ suc (a + b) → place + 1 + a + b ≤ total
    bound place long total a b h e = omega arith

pub places_within : (words : List ℕ) (place : ℕ) (ns : List ℕ) → AreReferences words place ns → ArePlacesWithin words ns
places_within words place [] all i h = absurd (omega arith)
places_within words place (n ∷ ns) all zero h = omega (arith, all.0.0.4.2)
places_within words place (n ∷ ns) all (suc i) h = places_within words place ns all.2 i (omega arith)

pub references_within : (words : List ℕ) (place : ℕ) (ns : List ℕ) → (x : HasContentAt words place) → ns ≡ content_places (content_there words place) → ArePlacesWithin words ns
references_within words place ns x e = subst (ArePlacesWithin words) (sym e) (places_within words place (content_places (content_there words place)) (x.stands.references x.owner place x.content))

-- what was read is the object
pub object_read : (words : List ℕ) (place : ℕ) (o : Object) (places : List ℕ) → o.refs ≡ digests_there words places → places ≡ content_places (content_there words place) → o.data ≡ content_bytes (content_there words place) → o ≡ object_there words place
object_read words place o places refs same bytes =
    let all : o.refs ≡ digests_there words (content_places (content_there words place)) = refs ∙ ap (digests_there words) same in
    λ i. record { refs = all i; «data» = bytes i }

-- the numbers of a content keep within the words
pub record Bounds (words : List ℕ) (place refs size : ℕ) : Type 0 where
  pub within : place + 1 + refs + size ≤ length words
  pub short : length words ≤ 67108864

pub bounds_of : (words : List ℕ) (place refs len : ℕ) → HasContentAt words place → refs ≡ get_or words place 0 / 2 ^ 32 → len ≡ get_or words place 0 % 2 ^ 32 → Bounds words place refs ((len + 7) / 8)
bounds_of words place refs len x refs_is len_is =
    let p = parts_of words place x in
    record {
      within = subst (λ n. place + 1 + n + (len + 7) / 8 ≤ length words) (sym refs_is) (subst (λ n. place + 1 + get_or words place 0 / 2 ^ 32 + (n + 7) / 8 ≤ length words) (sym len_is) p.within);
      short = omega (arith, x.stands.headed.within, x.stands.headed.most);
    }
