-- Reading an object's content.
use Rattle.std.proofs.Common.{◌≡◌, ℕ, zero, suc, ◌+◌, ◌-◌, ◌*◌, ◌/◌, ◌%◌, ◌^◌, ◌<◌, ◌≤◌, List, [], ◌∷◌, ◌++◌, false, not, ◌==◌, ◌&&◌, inl, inr, Some, refl, ap, sym, ◌∙◌, subst, arith, take, drop, length, get_or, add-one, length-append, length-take, length-drop, w32, w64}
use Rattle.std.specs.Option.{option_map}
use Rattle.std.specs.Int.{to_be_bytes, from_be_bytes, to_le_bytes}
use Rattle.std.proofs.lemmas.Nat.{be_bytes_8}
use Rattle.std.proofs.lemmas.Slice.{take-put_mid}
use Rattle.std.proofs.Math.Seq.{take-add}
use Rattle.sha2.specs.Sha256.{sha256, digest_bytes, final_hash, initial_hash_256}
use borrow.Rule.Slice.PartMut.{put_mid}
use Rattle.cas_model.specs.declared.call.Call.TheVariants.{Load}
use Rattle.cas_model.specs.declared.call.Reply.TheVariants.{Found, Missing}
use Rattle.cas_model.specs.declared.call.Who.{Who}
use Rattle.cas_model.specs.declared.digest.Digest.{Digest}
use Rattle.cas_model.specs.declared.object.Object.{Object}
use Rattle.cas_model.specs.declared.place.Place.{Place}
use Rattle.cas_model.specs.declared.place.Space.TheVariants.{Objects}
use Rattle.cas_model.specs.declared.place.Space.{Space}
use Rattle.cas_model.specs.declared.tables.Record.{Record}
use Rattle.cas_model.specs.Content.{IsContent, content_head, content_places, content_bytes, data_words, words_from, bytes_of}
use Rattle.cas_model.specs.Object.{object_digest, canon}
use Rattle.cas_model.specs.Primary.{cell_under, cell_at, object_in, object_under}
use Rattle.cas_model.specs.Start.{IsFilled, RefsBelow, CellNames}
use Rattle.cas_model.specs.State.{State, has, AreBytes}
use Rattle.cas_model.specs.Tables.{Tables, record_at, cell_of, words_at, digest_at, digests_at, digest_of_record, object_of}
use Rattle.cas_model.proofs.Maps.{get-object}
use Rattle.cas_history.specs.Conduct.{is_own}
use Rattle.cas_history.specs.History.{decided_at, loaded, reply_where}
use Rattle.cas_history.specs.Run.{tables as tables_after}
use Rattle.cas_history.proofs.Sound.{IsSound, sound-run}
use Rattle.cas_history.proofs.Under.{IsUnder, under-cases, under-some}
use Rattle.cas_port.specs.Calls.{IsLawful, HasWord, WordIs, digest_word}
use Rattle.cas_port.specs.View.{View, tables}
use Rattle.graph_db.specs.Holds.{HasSought, SeekStops}
use Rattle.cas_model.specs.Notes.{own_note}
use Rattle.graph_db.specs.Loads.{HasFound, IsMissing, LoadStops}
use Rattle.graph_db.specs.Storing.{HasSoughtValue, words_or, content_at, IsWholeRecord, AreWholeRecords, HasContent}
use Rattle.graph_db.proofs.Steps.{goes-upstream, reads-goes}
use Rattle.graph_db.proofs.Found.{sought-ends, sought-last, missed-here, seek-stops}

-- ---- digests of objects are 32 bytes

bytes-append : (xs ys : List ℕ) → AreBytes xs → AreBytes ys → AreBytes (xs ++ ys)
bytes-append [] ys one two = two
bytes-append (x ∷ xs) ys one two = (one.0, bytes-append xs ys one.1 two)

word-bytes : (n : ℕ) → AreBytes (to_be_bytes w32 n)
word-bytes n = (omega arith, (omega arith, (omega arith, (omega arith, tt))))

digest-long : (h : List ℕ) (n : ℕ) → length (digest_bytes h n) ≡ 4 * n
unfolding digest_bytes
digest-long h zero = refl
digest-long h (suc n) = let e = length-append (digest_bytes h n) (to_be_bytes w32 (get_or h n 0)) in let below = digest-long h n in omega (arith, e, below)

digest-small : (h : List ℕ) (n : ℕ) → AreBytes (digest_bytes h n)
unfolding digest_bytes
digest-small h zero = tt
digest-small h (suc n) = bytes-append (digest_bytes h n) (to_be_bytes w32 (get_or h n 0)) (digest-small h n) (word-bytes (get_or h n 0))

sha-long : (m : List ℕ) → length (sha256 m) ≡ 32
unfolding sha256
sha-long m = digest-long (final_hash initial_hash_256 m) 8

sha-small : (m : List ℕ) → AreBytes (sha256 m)
unfolding sha256
sha-small m = digest-small (final_hash initial_hash_256 m) 8

-- ---- what a filled object holds

pub whole-record : (s : Tables) (n : ℕ) → IsSound s → IsFilled s n → IsWholeRecord s n
whole-record s n sound filled =
    let r : Record = filled.object.found in
    let names = subst (λ (space : Space). CellNames s space r.digest (cell_of s.filled n)) filled.object.in_space (sound.names n r filled.object.is filled.filled) in
    let o : Object = object_of s.bound names.0 in
    let named : object_digest o ≡ r.digest = names.2.named in
    record {
      found = r;
      is = filled.object.is;
      long = ap (λ (d : Digest). length d.bytes) (sym named) ∙ sha-long (canon o.refs o.data);
      bytes = subst (λ (d : Digest). AreBytes d.bytes) named (sha-small (canon o.refs o.data));
    }

whole-records : (s : Tables) (value : ℕ) (ns : List ℕ) → IsSound s → RefsBelow s value ns → AreWholeRecords s ns
whole-records s value [] sound below = tt
whole-records s value (n ∷ ns) sound below = (whole-record s n sound below.0, whole-records s value ns sound below.2)

under-content : (s : Tables) (digest : Digest) (value : ℕ) → IsSound s → (u : IsUnder s digest) → value ≡ cell_under s Objects digest → HasContent s value × (object_of s.bound (content_at s value) ≡ object_of s.bound u.words) × (0 < value)
under-content s digest value sound u is =
    let cell : value ≡ cell_of s.filled u.place.at = is ∙ ap (cell_at s.filled) u.at in
    let there : words_at s.blocks value ≡ Some u.words = ap (words_at s.blocks) cell ∙ u.there in
    let words : content_at s value ≡ u.words = ap words_or there in
    let some = u.some in (
      record {
        there = there ∙ ap (λ (ws : List ℕ). Some ws) (sym words);
        content = subst IsContent (sym words) u.is.content;
        refs = subst (λ (ws : List ℕ). AreWholeRecords s (content_places ws)) (sym words) (whole-records s (cell_of s.filled u.place.at) (content_places u.words) sound u.is.refs);
      },
      ap (object_of s.bound) words,
      omega (arith, cell, some),
    )

-- a value that was sought is the place of the content
module _ (s : Tables) (digest : Digest) (value : ℕ) (sound : IsSound s) (some : value ≡ 0 → ⊥) (is : value ≡ cell_under s Objects digest) where
  its-under : IsUnder s digest
  its-under = elim (under-cases s digest sound) [ inl none ↦ absurd (some (is ∙ none)) | inr u ↦ u ]

  pub has-content : HasContent s value
  has-content = (under-content s digest value sound its-under is).0

  its-object : object_under s digest ≡ Some (object_of s.bound (content_at s value))
  its-object = under-some s digest its-under ∙ ap (λ (o : Object). Some o) (sym (under-content s digest value sound its-under is).1)

  object-there : object_in s value ≡ Some (object_of s.bound (content_at s value))
  object-there = ap (object_in s) is ∙ its-object

-- ---- what a load decides

module _ (who : Who) (digest : Digest) (old new : View) (value : ℕ) (v : HasSoughtValue (own_note who) digest old new value) (lawful : IsLawful old new) where
  s-is : tables new ≡ tables_after new.start v.sought.earlier
  s-is = ap (tables_after new.start) v.sought.is ∙ v.sought.same

  pub found-content : (value ≡ 0 → ⊥) → HasContent (tables new) value
  found-content some = has-content (tables new) digest value (sound-run new.upstream new.start new.seen lawful.is) some v.value_is

  pub load-found : (value ≡ 0 → ⊥) → HasFound who digest old new (object_of (tables new).bound (content_at (tables new) value))
  load-found some =
      let sound = sound-run new.upstream new.start new.seen lawful.is in
      let o : Object = object_of (tables new).bound (content_at (tables new) value) in
      let there : object_in (tables_after new.start v.sought.earlier) value ≡ Some (object_of (tables new).bound (content_at (tables new) value)) =
      ap (λ (s : Tables). object_in s value) (sym s-is) ∙ object-there (tables new) digest value sound some v.value_is in
      let says : decided_at new.upstream (tables_after new.start v.sought.earlier) (Load digest) ((own_note who).stage) v.sought.act ≡ Some (Found o) =
      ap (loaded new.upstream (tables_after new.start v.sought.earlier) digest v.sought.act) v.read ∙ loaded-some value some ∙ ap (option_map (λ (x : Object). Found x)) there in
      record {
        there = get-object (tables new) digest ∙ its-object (tables new) digest value sound some v.value_is;
        reads = v.sought.reads;
        ends = sought-ends (own_note who) digest old new (not (value == 0)) (Load digest) (Some (Found o)) v.sought ((refl, refl), tt) says;
        last = sought-last (own_note who) digest old new (not (value == 0)) (Load digest) (Some (Found o)) v.sought says;
      } where
        loaded-some : (n : ℕ) → (n ≡ 0 → ⊥) → loaded new.upstream (tables_after new.start v.sought.earlier) digest v.sought.act n ≡ option_map (λ (x : Object). Found x) (object_in (tables_after new.start v.sought.earlier) n)
        loaded-some zero some = absurd (some refl)
        loaded-some (suc n) some = refl

pub load-missing : (who : Who) (digest : Digest) (old new : View) → HasSoughtValue (own_note who) digest old new 0 → IsMissing who digest old new
load-missing who digest old new v =
    let h : HasSought (own_note who) digest old new false = v.sought in
    let up : new.upstream ≡ old.upstream = goes-upstream who old new (reads-goes who old new h.reads) in
    let says : decided_at new.upstream (tables_after new.start h.earlier) (Load digest) ((own_note who).stage) h.act ≡ reply_where (not (has old.upstream digest)) Missing =
    ap (loaded new.upstream (tables_after new.start h.earlier) digest h.act) v.read
    ∙ ap (λ b. reply_where (b && not (has new.upstream digest)) Missing) h.missed ∙ ap (λ (u : State). reply_where (not (has u digest)) Missing) up in
    record {
      lacks = sym h.there;
      reads = h.reads;
      ends = sought-ends (own_note who) digest old new false (Load digest) _ h ((refl, refl), tt) says;
      last = sought-last (own_note who) digest old new false (Load digest) _ h says;
      missed = missed-here (own_note who) digest old new is_own refl h;
    }

pub load-stops : (who : Who) (digest : Digest) (old new : View) → SeekStops (own_note who) digest old new → LoadStops who digest old new
load-stops who digest old new h = inl (seek-stops (own_note who) digest old new (Load digest) h ((refl, refl), tt))

-- ---- the words of a record

get-bytes : (xs : List ℕ) → AreBytes xs → (i : ℕ) → get_or xs i 0 < 256
get-bytes [] ok i = omega arith
get-bytes (x ∷ xs) ok zero = ok.0
get-bytes (x ∷ xs) ok (suc i) = get-bytes xs ok.1 i

take-bytes : (n : ℕ) (xs : List ℕ) → AreBytes xs → AreBytes (take n xs)
take-bytes zero xs ok = tt
take-bytes (suc n) [] ok = tt
take-bytes (suc n) (x ∷ xs) ok = (ok.0, take-bytes n xs ok.1)

drop-bytes : (n : ℕ) (xs : List ℕ) → AreBytes xs → AreBytes (drop n xs)
drop-bytes zero xs ok = ok
drop-bytes (suc n) [] ok = tt
drop-bytes (suc n) (x ∷ xs) ok = drop-bytes n xs ok.1

first-eight : (xs : List ℕ) → from_be_bytes w64 (take 8 xs) ≡ from_be_bytes w64 xs
first-eight [] = refl
first-eight (a ∷ []) = refl
first-eight (a ∷ b ∷ []) = refl
first-eight (a ∷ b ∷ c ∷ []) = refl
first-eight (a ∷ b ∷ c ∷ d ∷ []) = refl
first-eight (a ∷ b ∷ c ∷ d ∷ e ∷ []) = refl
first-eight (a ∷ b ∷ c ∷ d ∷ e ∷ f ∷ []) = refl
first-eight (a ∷ b ∷ c ∷ d ∷ e ∷ f ∷ g ∷ []) = refl
first-eight (a ∷ b ∷ c ∷ d ∷ e ∷ f ∷ g ∷ h ∷ rest) = refl

length-eight : (n : ℕ) (xs : List ℕ) → n + 8 ≤ length xs → length (take 8 (drop n xs)) ≡ 8
length-eight zero (a ∷ b ∷ c ∷ d ∷ e ∷ f ∷ g ∷ h ∷ rest) le = refl
length-eight zero [] le = absurd (omega arith)
length-eight zero (a ∷ []) le = absurd (omega arith)
length-eight zero (a ∷ b ∷ []) le = absurd (omega arith)
length-eight zero (a ∷ b ∷ c ∷ []) le = absurd (omega arith)
length-eight zero (a ∷ b ∷ c ∷ d ∷ []) le = absurd (omega arith)
length-eight zero (a ∷ b ∷ c ∷ d ∷ e ∷ []) le = absurd (omega arith)
length-eight zero (a ∷ b ∷ c ∷ d ∷ e ∷ f ∷ []) le = absurd (omega arith)
length-eight zero (a ∷ b ∷ c ∷ d ∷ e ∷ f ∷ g ∷ []) le = absurd (omega arith)
length-eight (suc n) [] le = absurd (omega arith)
length-eight (suc n) (x ∷ xs) le = length-eight n xs (omega (arith, le))

word-back : (d : Digest) (i word : ℕ) → length d.bytes ≡ 32 → AreBytes d.bytes → i < 4 → word ≡ digest_word d i → to_be_bytes w64 word ≡ take 8 (drop (8 * i) d.bytes)
unfolding digest_word
word-back d i word long ok lt is =
    be_bytes_8 (take 8 (drop (8 * i) d.bytes)) word (length-eight (8 * i) d.bytes (omega (arith, long, lt)))
    (get-bytes (take 8 (drop (8 * i) d.bytes)) (take-bytes 8 (drop (8 * i) d.bytes) (drop-bytes (8 * i) d.bytes ok))) (is ∙ sym (first-eight (drop (8 * i) d.bytes)))

length-mid : (a k : ℕ) (xs ys : List ℕ) → length ys ≡ k → a + k ≤ length xs → length (put_mid a k xs ys) ≡ length xs
length-mid a k xs ys size le = simp (length-append, length-take, length-drop) (omega arith)

-- one word more
pub record-step : (s : Tables) (n i word : ℕ) (bytes after : List ℕ) → IsWholeRecord s n → i < 4 → length bytes ≡ 32 → take (8 * i) bytes ≡ take (8 * i) (digest_at s.bound n).bytes
    → ((r : Record) → record_at s.bound n ≡ Some r → i < 4 → word ≡ digest_word r.digest i) → after ≡ to_be_bytes w64 word
    → (length (put_mid (8 * i) (8 * i + 8 - 8 * i) bytes after) ≡ 32) × (take (8 * (i + 1)) (put_mid (8 * i) (8 * i + 8 - 8 * i) bytes after) ≡ take (8 * (i + 1)) (digest_at s.bound n).bytes)
record-step s n i word bytes after w lt long read is made =
    let d : Digest = w.found.digest in
    let at : digest_at s.bound n ≡ d = ap digest_of_record w.is in
    let eight : 8 * i + 8 - 8 * i ≡ 8 = omega arith in
    let back : after ≡ take 8 (drop (8 * i) d.bytes) = made ∙ word-back d i word w.long w.bytes lt (is w.found w.is lt) in
    let size : length after ≡ 8 = ap length back ∙ length-eight (8 * i) d.bytes (let l = w.long in omega (arith, l, lt)) in
    let next : 8 * (i + 1) ≡ 8 * i + 8 = omega arith in (
      length-mid (8 * i) (8 * i + 8 - 8 * i) bytes after (omega (arith, size)) (omega (arith, long, lt)) ∙ long,
      take-put_mid (8 * i) (8 * i + 8 - 8 * i) bytes after (8 * (i + 1)) (omega (arith, size)) (omega (arith, long, lt))
          ∙ (λ j. (read ∙ ap (λ (x : Digest). take (8 * i) x.bytes) at) j ++ back j) ∙ sym (take-add (8 * i) 8 d.bytes) ∙ ap (λ k. take k d.bytes) (sym next) ∙ ap (λ (x : Digest). take (8 * (i + 1)) x.bytes) (sym at),
    )

-- ---- the words of a content

get-taken : (xs : List ℕ) (n i : ℕ) → i < length (take n xs) → (i < length xs) × (get_or xs i 0 ≡ get_or (take n xs) i 0)
get-taken xs zero i lt = absurd (omega arith)
get-taken [] (suc n) i lt = absurd (omega arith)
get-taken (x ∷ xs) (suc n) zero lt = (omega arith, refl)
get-taken (x ∷ xs) (suc n) (suc i) lt = let rest = get-taken xs n i (omega (arith, lt)) in (omega (arith, rest.0), rest.1)

-- the word of a reference
place-word : (ws : List ℕ) (i : ℕ) → i < length (content_places ws) → (i + 1 < length ws) × (get_or ws (i + 1) 0 ≡ get_or (content_places ws) i 0)
place-word [] i lt = absurd (omega arith)
place-word (h ∷ ws) i lt = let rest = get-taken ws (h / 2 ^ 32) i lt in (omega (arith, rest.0), ap (λ k. get_or (h ∷ ws) k 0) (add-one i) ∙ rest.1)

whole-at : (s : Tables) (ns : List ℕ) (i : ℕ) → AreWholeRecords s ns → i < length ns → IsWholeRecord s (get_or ns i 0)
whole-at s [] i w lt = absurd (omega arith)
whole-at s (n ∷ ns) zero w lt = w.0
whole-at s (n ∷ ns) (suc i) w lt = whole-at s ns i w.1 (omega (arith, lt))

digests-more : (bound : List Record) (ns : List ℕ) (i : ℕ) → i < length ns → digests_at bound (take (i + 1) ns) ≡ digests_at bound (take i ns) ++ (digest_at bound (get_or ns i 0) ∷ [])
digests-more bound [] i lt = absurd (omega arith)
digests-more bound (n ∷ ns) zero lt = refl
digests-more bound (n ∷ ns) (suc i) lt =
    let e : suc i + 1 ≡ suc (i + 1) = omega arith in
    ap (λ k. digests_at bound (take k (n ∷ ns))) e ∙ ap (λ (ds : List Digest). digest_at bound n ∷ ds) (digests-more bound ns i (omega (arith, lt)))

take-whole : (xs : List ℕ) (n : ℕ) → n ≡ length xs → take n xs ≡ xs
take-whole [] n is = ap (λ k. take k []) is
take-whole (x ∷ xs) n is = ap (λ k. take k (x ∷ xs)) is ∙ ap (λ (ys : List ℕ). x ∷ ys) (take-whole xs (length xs) refl)

length-words : (n : ℕ) (bytes : List ℕ) → length (words_from n bytes) ≡ n
length-words zero bytes = refl
length-words (suc n) bytes = ap suc (length-words n (drop 8 bytes))

-- what the first word says, and how many words there are
pub record HasSize (ws : List ℕ) : Type 0 where
  pub refs : get_or ws 0 0 / 2 ^ 32 ≡ length (content_places ws)
  pub size : get_or ws 0 0 % 2 ^ 32 ≡ length (content_bytes ws)
  pub long : length ws ≡ 1 + length (content_places ws) + (length (content_bytes ws) + 7) / 8

pub has-size : (ws : List ℕ) → IsContent ws → HasSize ws
has-size ws content =
    let head : get_or ws 0 0 ≡ content_head (length (content_places ws)) (length (content_bytes ws)) = ap (λ (xs : List ℕ). get_or xs 0 0) content.is in
    let few = content.few_refs in
    let short = content.short in
    let long : length ws ≡ suc (length (content_places ws ++ data_words (content_bytes ws))) = ap length content.is in
    let both = length-append (content_places ws) (data_words (content_bytes ws)) in
    let rest = length-words ((length (content_bytes ws) + 7) / 8) (content_bytes ws) in
    record {
      refs = omega (arith, head, few, short);
      size = omega (arith, head, few, short);
      long = omega (arith, long, both, rest);
    }

get-dropped : (xs : List ℕ) (n i : ℕ) → get_or (drop n xs) i 0 ≡ get_or xs (n + i) 0
get-dropped xs zero i = let e : i ≡ 0 + i = omega arith in ap (λ k. get_or xs k 0) e
get-dropped [] (suc n) i = refl
get-dropped (x ∷ xs) (suc n) i = let e : suc (n + i) ≡ suc n + i = omega arith in get-dropped xs n i ∙ ap (λ k. get_or (x ∷ xs) k 0) e

bytes-more : (xs : List ℕ) (i : ℕ) → i < length xs → bytes_of (take (i + 1) xs) ≡ bytes_of (take i xs) ++ to_le_bytes w64 (get_or xs i 0)
bytes-more [] i lt = absurd (omega arith)
bytes-more (x ∷ xs) zero lt = refl
bytes-more (x ∷ xs) (suc i) lt =
    let e : suc i + 1 ≡ suc (i + 1) = omega arith in
    ap (λ k. bytes_of (take k (x ∷ xs))) e ∙ ap (λ (bs : List ℕ). to_le_bytes w64 x ++ bs) (bytes-more xs i (omega (arith, lt)))

-- the data words follow the references
data-after : (ws : List ℕ) → HasSize ws → content_bytes ws ≡ take (get_or ws 0 0 % 2 ^ 32) (bytes_of (drop (length (content_places ws) + 1) ws))
data-after [] h = refl
data-after (w ∷ ws) h =
    let e : length (content_places (w ∷ ws)) + 1 ≡ suc (w / 2 ^ 32) = let r = h.refs in omega (arith, r) in
    ap (λ k. take (w % 2 ^ 32) (bytes_of (drop k (w ∷ ws)))) (sym e)

module _ (v now : View) (content : Place) (same : now ≡ v) (h : HasContent (tables v) content.at) where
  -- a word of the content may be read
  pub content-word : (i : ℕ) → i < length (content_at (tables v) content.at) → HasWord now content i
  content-word i lt = subst (λ (x : View). HasWord x content i) (sym same) (inr (content_at (tables v) content.at, h.there, lt))

  pub word-is : (i word : ℕ) → i < length (content_at (tables v) content.at) → WordIs now content i word → word ≡ get_or (content_at (tables v) content.at) i 0
  word-is i word lt w = (subst (λ (x : View). WordIs x content i word) same w).of_content (content_at (tables v) content.at) h.there lt

  pub ref-word : (i : ℕ) → i < length (content_places (content_at (tables v) content.at)) → HasWord now content (i + 1)
  ref-word i lt = content-word (i + 1) (place-word (content_at (tables v) content.at) i lt).0

  ref-is : (i word : ℕ) → i < length (content_places (content_at (tables v) content.at)) → WordIs now content (i + 1) word → word ≡ get_or (content_places (content_at (tables v) content.at)) i 0
  ref-is i word lt w = let p = place-word (content_at (tables v) content.at) i lt in word-is (i + 1) word p.0 w ∙ p.1

  pub ref-whole : (i word : ℕ) (after : View) → after ≡ now → i < length (content_places (content_at (tables v) content.at)) → WordIs now content (i + 1) word → IsWholeRecord (tables after) word
  ref-whole i word after is lt w =
      subst (λ (x : View). IsWholeRecord (tables x) word) (sym (is ∙ same))
      (subst (λ n. IsWholeRecord (tables v) n) (sym (ref-is i word lt w)) (whole-at (tables v) (content_places (content_at (tables v) content.at)) i h.refs lt))

  pub refs-more : (i word : ℕ) (digest : Digest) (read more : List Digest) (after : View) → after ≡ now → i < length (content_places (content_at (tables v) content.at)) → WordIs now content (i + 1) word
      → digest ≡ digest_at (tables after).bound word → read ≡ digests_at (tables v).bound (take i (content_places (content_at (tables v) content.at))) → more ≡ read ++ (digest ∷ [])
      → more ≡ digests_at (tables v).bound (take (i + 1) (content_places (content_at (tables v) content.at)))
  refs-more i word digest read more after is lt w named sofar made =
      let d : digest ≡ digest_at (tables v).bound (get_or (content_places (content_at (tables v) content.at)) i 0) =
      named ∙ (λ j. digest_at (tables ((is ∙ same) j)).bound (ref-is i word lt w j)) in
      made ∙ (λ j. sofar j ++ (d j ∷ [])) ∙ sym (digests-more (tables v).bound (content_places (content_at (tables v) content.at)) i lt)

  pub data-word : (begin size i : ℕ) → begin ≡ length (content_places (content_at (tables v) content.at)) + 1 → size ≡ get_or (content_at (tables v) content.at) 0 0 % 2 ^ 32 → i < (size + 7) / 8
      → begin + i < length (content_at (tables v) content.at)
  data-word begin size i begins sized lt =
      let s = has-size (content_at (tables v) content.at) h.content in
      let a = s.size in
      let b = s.long in
      omega (arith, begins, sized, lt, a, b)

  pub data-more : (begin size i word : ℕ) (read more : List ℕ) → begin ≡ length (content_places (content_at (tables v) content.at)) + 1 → size ≡ get_or (content_at (tables v) content.at) 0 0 % 2 ^ 32 → i < (size + 7) / 8
      → WordIs now content (begin + i) word → read ≡ bytes_of (take i (drop begin (content_at (tables v) content.at))) → more ≡ read ++ to_le_bytes w64 word
      → more ≡ bytes_of (take (i + 1) (drop begin (content_at (tables v) content.at)))
  data-more begin size i word read more begins sized lt w sofar made =
      let ws : List ℕ = content_at (tables v) content.at in
      let within = data-word begin size i begins sized lt in
      let is : word ≡ get_or (drop begin (content_at (tables v) content.at)) i 0 = word-is (begin + i) word within w ∙ sym (get-dropped (content_at (tables v) content.at) begin i) in
      let dropped = length-drop begin (content_at (tables v) content.at) in
      made ∙ (λ j. sofar j ++ to_le_bytes w64 (is j)) ∙ sym (bytes-more (drop begin (content_at (tables v) content.at)) i (omega (arith, within, dropped)))

-- all of the data
pub data-done : (v : View) (content : Place) (begin size n : ℕ) (read all : List ℕ) → HasContent (tables v) content.at → begin ≡ length (content_places (content_at (tables v) content.at)) + 1
    → size ≡ get_or (content_at (tables v) content.at) 0 0 % 2 ^ 32 → n ≡ (size + 7) / 8 → read ≡ bytes_of (take n (drop begin (content_at (tables v) content.at))) → all ≡ take size read
    → all ≡ content_bytes (content_at (tables v) content.at)
data-done v content begin size n read all h begins sized is sofar made =
    let ws : List ℕ = content_at (tables v) content.at in
    let s = has-size (content_at (tables v) content.at) h.content in
    let a = s.size in
    let b = s.long in
    let dropped = length-drop begin (content_at (tables v) content.at) in
    let whole : take n (drop begin (content_at (tables v) content.at)) ≡ drop begin (content_at (tables v) content.at) = take-whole (drop begin (content_at (tables v) content.at)) n (omega (arith, is, begins, sized, a, b, dropped)) in
    made ∙ (λ j. take (sized j) (sofar j)) ∙ ap (λ (xs : List ℕ). take (get_or (content_at (tables v) content.at) 0 0 % 2 ^ 32) (bytes_of xs)) whole
    ∙ ap (λ k. take (get_or (content_at (tables v) content.at) 0 0 % 2 ^ 32) (bytes_of (drop k (content_at (tables v) content.at)))) begins ∙ sym (data-after (content_at (tables v) content.at) s)

pub refs-done : (v : View) (content : Place) (n : ℕ) (read : List Digest) → n ≡ length (content_places (content_at (tables v) content.at)) → read ≡ digests_at (tables v).bound (take n (content_places (content_at (tables v) content.at)))
    → read ≡ digests_at (tables v).bound (content_places (content_at (tables v) content.at))
refs-done v content n read is sofar = sofar ∙ ap (digests_at (tables v).bound) (take-whole (content_places (content_at (tables v) content.at)) n is)

-- the numbers that the first word tells
pub head-refs : (v now : View) (content : Place) (word refs : ℕ) → now ≡ v → HasContent (tables v) content.at → WordIs v content 0 word → refs ≡ word / 2 ^ 32
    → refs ≡ length (content_places (content_at (tables now) content.at))
head-refs v now content word refs same h w is =
    let s = has-size (content_at (tables v) content.at) h.content in
    let long = s.long in
    let first : word ≡ get_or (content_at (tables v) content.at) 0 0 = w.of_content (content_at (tables v) content.at) h.there (omega (arith, long)) in
    is ∙ ap (λ n. n / 2 ^ 32) first ∙ s.refs ∙ ap (λ (x : View). length (content_places (content_at (tables x) content.at))) (sym same)

-- memory was wanted after the call was decided
pub found-stops : (who : Who) (digest : Digest) (old mid new : View) (o : Object) → new ≡ mid → HasFound who digest old mid o → LoadStops who digest old new
found-stops who digest old mid new o same h = inr (o, subst (λ (v : View). HasFound who digest old v o) (sym same) h)
