-- What is hashed of a content.
use Rattle.std.proofs.Common.{◌≡◌, ℕ, zero, suc, ◌+◌, ◌-◌, ◌*◌, ◌/◌, ◌%◌, ◌^◌, ◌<◌, ◌≤◌, List, [], ◌∷◌, ◌++◌, length, get_or, take, drop, refl, sym, ap, ◌∙◌, subst, arith, append_assoc}
use Rattle.std.specs.Int.{w64, to_le_bytes}
use Rattle.std.proofs.lemmas.List.{take_more, drop_more, drop-take, drop-drop, append-nil, length-drop, length-take-le, take-take}
use Rattle.cas_model.specs.declared.digest.Digest.{Digest}
use Rattle.cas_model.specs.Content.{content_places, content_bytes, bytes_of}
use Rattle.cas_model.specs.Object.{canon, ref_bytes, le64}
use Rattle.cas_model.specs.Trie.{IsDigest}
use Rattle.region_core.specs.Leads.{digest_there, digests_there, content_there, object_there, length_told}
use Rattle.region_core.specs.Words.{HasWords, words_of}
use Rattle.region_core.proofs.Reading.{digest_held-there}

digests_append : (words ps qs : List ℕ) → digests_there words (ps ++ qs) ≡ digests_there words ps ++ digests_there words qs
digests_append words [] qs = refl
digests_append words (p ∷ ps) qs = ap (λ ds. digest_there words p ∷ ds) (digests_append words ps qs)

refs_append : (xs ys : List Digest) → ref_bytes (xs ++ ys) ≡ ref_bytes xs ++ ref_bytes ys
refs_append [] ys = refl
refs_append (x ∷ xs) ys = ap (λ bs. x.bytes ++ bs) (refs_append xs ys) ∙ sym (append_assoc x.bytes (ref_bytes xs) (ref_bytes ys))

-- one more digest
pub refs_more : (words places m : List ℕ) (i : ℕ) (d : Digest) → i < length places → IsDigest d.bytes → HasWords words (get_or places i 0) (words_of d.bytes) → (m ++ ref_bytes (digests_there words (take i places))) ++ d.bytes ≡ m ++ ref_bytes (digests_there words (take (i + 1) places))
refs_more words places m i d h digest has =
    let bytes : d.bytes ≡ (digest_there words (get_or places i 0)).bytes = ap (λ (e : Digest). e.bytes) (sym (digest_held-there words d.bytes (get_or places i 0) digest has)) in
    let one : ref_bytes (digests_there words (get_or places i 0 ∷ [])) ≡ d.bytes = append-nil (digest_there words (get_or places i 0)).bytes ∙ sym bytes in
    append_assoc m (ref_bytes (digests_there words (take i places))) d.bytes
    ∙ ap (λ bs. m ++ bs)
    (ap (λ bs. ref_bytes (digests_there words (take i places)) ++ bs) (sym one)
    ∙ sym (refs_append (digests_there words (take i places)) (digests_there words (get_or places i 0 ∷ [])))
    ∙ ap ref_bytes (sym (digests_append words (take i places) (get_or places i 0 ∷ [])))
    ∙ ap (λ ps. ref_bytes (digests_there words ps)) (sym (take_more places i 0 h)))

take_none : (k : ℕ) → take {A = ℕ} k [] ≡ []
take_none zero = refl
take_none (suc k) = refl

-- the first bytes of words: those of whole words, and some of the next
pub bytes_split : (words : List ℕ) (k r : ℕ) → take (8 * k + r) (bytes_of words) ≡ bytes_of (take k words) ++ take r (bytes_of (drop k words))
bytes_split words zero r = ap (λ n. take n (bytes_of words)) (let e : 8 * 0 + r ≡ r = omega arith in e)
bytes_split [] (suc k) r = take_none (8 * suc k + r) ∙ sym (take_none r)
bytes_split (w ∷ words) (suc k) r =
    let more : 8 * suc k + r ≡ suc (suc (suc (suc (suc (suc (suc (suc (8 * k + r)))))))) = omega arith in
    ap (λ n. take n (to_le_bytes w64 w ++ bytes_of words)) more ∙ ap (λ bs. to_le_bytes w64 w ++ bs) (bytes_split words k r) ∙ sym (append_assoc (to_le_bytes w64 w) (bytes_of (take k words)) (take r (bytes_of (drop k words))))

-- the bytes of the first words
bytes_take : (words : List ℕ) (n : ℕ) → bytes_of (take n words) ≡ take (8 * n) (bytes_of words)
bytes_take words n = sym (append-nil (bytes_of (take n words))) ∙ sym (bytes_split words n 0) ∙ ap (λ k. take k (bytes_of words)) (let e : 8 * n + 0 ≡ 8 * n = omega arith in e)

-- the first bytes, and some of those after them
bytes_next : (words m : List ℕ) (n r : ℕ) → (m ++ take (8 * n) (bytes_of words)) ++ take r (bytes_of (drop n words)) ≡ m ++ take (8 * n + r) (bytes_of words)
bytes_next words m n r =
    append_assoc m (take (8 * n) (bytes_of words)) (take r (bytes_of (drop n words)))
    ∙ ap (λ bs. m ++ bs) (ap (λ bs. bs ++ take r (bytes_of (drop n words))) (sym (bytes_take words n)) ∙ sym (bytes_split words n r))

-- a whole piece more
pub piece_more : (words m : List ℕ) (i : ℕ) → (m ++ take (256 * i) (bytes_of words)) ++ take 256 (bytes_of (take 32 (drop (32 * i) words))) ≡ m ++ take (256 * (i + 1)) (bytes_of words)
piece_more words m i =
    let before : 256 * i ≡ 8 * (32 * i) = omega arith in
    let after : 8 * (32 * i) + 256 ≡ 256 * (i + 1) = omega arith in
    let whole : take 256 (bytes_of (take 32 (drop (32 * i) words))) ≡ take 256 (bytes_of (drop (32 * i) words)) = ap (take 256) (bytes_take (drop (32 * i) words) 32) ∙ take-take 256 256 (bytes_of (drop (32 * i) words)) (omega arith) in
    (λ j. (m ++ take (before j) (bytes_of words)) ++ whole j) ∙ bytes_next words m (32 * i) 256 ∙ ap (λ k. m ++ take k (bytes_of words)) after

-- and what is left
pub piece_last : (words m : List ℕ) (count : ℕ) → (m ++ take (256 * (count / 256)) (bytes_of words)) ++ take (count % 256) (bytes_of (drop (32 * (count / 256)) words)) ≡ m ++ take count (bytes_of words)
piece_last words m count =
    let before : 256 * (count / 256) ≡ 8 * (32 * (count / 256)) = omega arith in
    let after : 8 * (32 * (count / 256)) + count % 256 ≡ count = omega arith in
    ap (λ k. (m ++ take k (bytes_of words)) ++ take (count % 256) (bytes_of (drop (32 * (count / 256)) words))) before ∙ bytes_next words m (32 * (count / 256)) (count % 256) ∙ ap (λ k. m ++ take k (bytes_of words)) after

length-bytes_of : (ws : List ℕ) → length (bytes_of ws) ≡ 8 * length ws
length-bytes_of [] = refl
length-bytes_of (w ∷ ws) = eight_more (length (bytes_of ws)) (length ws) (length-bytes_of ws)
  where
    eight_more : (n m : ℕ) → n ≡ 8 * m → suc (suc (suc (suc (suc (suc (suc (suc n))))))) ≡ 8 * suc m
    eight_more n m h = omega arith

take_within : (xs : List ℕ) (n m : ℕ) → take n (take (n + m) xs) ≡ take n xs
take_within xs zero m = refl
take_within [] (suc n) m = ap (take (suc n)) (take_none (suc n + m))
take_within (x ∷ xs) (suc n) m = ap (λ k. take (suc n) (take k (x ∷ xs))) (let e : suc n + m ≡ suc (n + m) = omega arith in e) ∙ ap (λ ys. x ∷ ys) (take_within xs n m)

digests_long : (words ns : List ℕ) → length (digests_there words ns) ≡ length ns
digests_long words [] = refl
digests_long words (n ∷ ns) = ap suc (digests_long words ns)

-- the parts of a content, by the numbers that its head tells
pub record Parts (words : List ℕ) (place refs size : ℕ) : Type 0 where
  pub refs_are : content_places (content_there words place) ≡ take refs (drop (place + 1) words)
  pub bytes_are : content_bytes (content_there words place) ≡ take (get_or words place 0 % 2 ^ 32) (bytes_of (take size (drop (place + 1 + refs) words)))
  pub refs_long : length (content_places (content_there words place)) ≡ refs
  pub bytes_long : length (content_bytes (content_there words place)) ≡ get_or words place 0 % 2 ^ 32

pub parts_of : (words : List ℕ) (place : ℕ) → place < length words → place + length_told (get_or words place 0) ≤ length words → Parts words place (get_or words place 0 / 2 ^ 32) ((get_or words place 0 % 2 ^ 32 + 7) / 8)
unfolding content_there
parts_of words place inside end =
    let head : ℕ = get_or words place 0 in
    let refs : ℕ = get_or words place 0 / 2 ^ 32 in
    let count : ℕ = get_or words place 0 % 2 ^ 32 in
    let size : ℕ = (get_or words place 0 % 2 ^ 32 + 7) / 8 in
    let told_is : length_told (get_or words place 0) ≡ suc (refs + size) = one_more (get_or words place 0 / 2 ^ 32) ((get_or words place 0 % 2 ^ 32 + 7) / 8) in
    let split : content_there words place ≡ get_or words place 0 ∷ take (refs + size) (drop (place + 1) words) = (λ i. take (told_is i) (drop_more words place 0 inside i)) in
    let refs_eq : content_places (content_there words place) ≡ take refs (drop (place + 1) words) = ap content_places split ∙ take_within (drop (place + 1) words) refs size in
    let bytes_eq : content_bytes (content_there words place) ≡ take count (bytes_of (take size (drop (place + 1 + refs) words))) = ap content_bytes split ∙ ap (λ ws. take count (bytes_of ws)) (drop-take refs size (drop (place + 1) words) ∙ ap (take size) (drop-drop refs (place + 1) words)) in
    let within : place + suc (refs + size) ≤ length words = subst (λ n. place + n ≤ length words) told_is end in
    let left : length (drop (place + 1) words) ≡ length words - (place + 1) = length-drop (place + 1) words in
    let rest : length (drop (place + 1 + refs) words) ≡ length words - (place + 1 + refs) = length-drop (place + 1 + refs) words in
    record {
      refs_are = refs_eq;
      bytes_are = bytes_eq;
      refs_long = ap length refs_eq ∙ length-take-le refs (drop (place + 1) words) (room (length (drop (place + 1) words)) (length words) place refs size left within);
      bytes_long = ap length bytes_eq ∙ length-take-le count (bytes_of (take size (drop (place + 1 + refs) words)))
          (whole count (length (take size (drop (place + 1 + refs) words))) (length (bytes_of (take size (drop (place + 1 + refs) words))))
          (length-take-le size (drop (place + 1 + refs) words) (room_after (length (drop (place + 1 + refs) words)) (length words) place refs size rest within))
          (length-bytes_of (take size (drop (place + 1 + refs) words))));
    }
  where
    one_more : (a b : ℕ) → 1 + a + b ≡ suc (a + b)
    one_more a b = omega arith

    room : (left total p refs size : ℕ) → left ≡ total - (p + 1) → p + suc (refs + size) ≤ total → refs ≤ left
    room left total p refs size is h = omega arith

    room_after : (rest total p refs size : ℕ) → rest ≡ total - (p + 1 + refs) → p + suc (refs + size) ≤ total → size ≤ rest
    room_after rest total p refs size is h = omega arith

    whole : (count long bytes : ℕ) → long ≡ (count + 7) / 8 → bytes ≡ 8 * long → count ≤ bytes
    whole count long bytes is eight = omega arith

-- the canonical bytes, by the parts
pub canon_parts :
    (words : List ℕ) (place refs count : ℕ) (places ws : List ℕ) → refs ≡ get_or words place 0 / 2 ^ 32 → count ≡ get_or words place 0 % 2 ^ 32
    → place < length words → place + length_told (get_or words place 0) ≤ length words
    → places ≡ take (get_or words place 0 / 2 ^ 32) (drop (place + 1) words) → ws ≡ take ((get_or words place 0 % 2 ^ 32 + 7) / 8) (drop (place + 1 + get_or words place 0 / 2 ^ 32) words)
    → ((([] ++ le64 refs) ++ ref_bytes (digests_there words places)) ++ le64 count) ++ take count (bytes_of ws) ≡ canon (object_there words place).refs (object_there words place).data
canon_parts words place refs count places ws refs_is count_is inside end places_are ws_are =
    let p = parts_of words place inside end in
    let own : List Digest = (object_there words place).refs in
    let bytes : List ℕ = (object_there words place).data in
    let few : refs ≡ length own = refs_is ∙ sym p.refs_long ∙ sym (digests_long words (content_places (content_there words place))) in
    let many : count ≡ length bytes = count_is ∙ sym p.bytes_long in
    let digests_are : digests_there words places ≡ own = ap (digests_there words) (places_are ∙ sym p.refs_are) in
    let bytes_are : take count (bytes_of ws) ≡ bytes = (λ i. take (count_is i) (bytes_of (ws_are i))) ∙ sym p.bytes_are in
    λ i. ((le64 (few i) ++ ref_bytes (digests_are i)) ++ le64 (many i)) ++ bytes_are i
