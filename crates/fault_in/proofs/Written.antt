-- Writing the words of a content into the call's newest block.
use Rattle.std.proofs.Common.{◌≡◌, ℕ, zero, suc, ◌+◌, ◌*◌, ◌/◌, ◌<◌, List, [], ◌∷◌, ◌++◌, Bool, cond, Some, refl, ap, sym, ◌∙◌, subst, arith, add-one, drop, length, get_or, set, map, w64}
use Rattle.std.specs.declared.option.Option.{Option}
use Rattle.std.specs.Int.{from_le_bytes}
use Rattle.std.proofs.lemmas.Bool.{eq-eqb}
use Rattle.std.proofs.lemmas.List.{drop-drop}
use Rattle.cas_model.specs.declared.call.Who.{Who}
use Rattle.cas_model.specs.Content.{content_size, content_head, content_words, data_words, words_from, data_word_at}
use Rattle.cas_port.specs.declared.block.Block.{Block}
use Rattle.cas_port.specs.declared.block.OpenBlock.{OpenBlock}
use Rattle.cas_port.specs.Blank.{none_written}
use Rattle.cas_port.specs.Calls.{IsOpen, HasWritten}
use Rattle.cas_port.specs.View.{View, open_words, write_word}
use Rattle.graph_db.specs.Storing.{partly, block_of, IsOpenAlone}
use Rattle.graph_db.proofs.Written.{partly-none, length-partly, partly-more, partly-all}
use Rattle.fault_in.specs.Bringing.{HasWords}

-- ---- lists of words

length-words_from : (n : ℕ) (bytes : List ℕ) → length (words_from n bytes) ≡ n
length-words_from zero bytes = refl
length-words_from (suc n) bytes = ap suc (length-words_from n (drop 8 bytes))

get_or-words_from : (n : ℕ) (bytes : List ℕ) (i : ℕ) → i < n → get_or (words_from n bytes) i 0 ≡ data_word_at bytes i
get_or-words_from zero bytes i lt = absurd (omega arith)
get_or-words_from (suc n) bytes zero lt = refl
get_or-words_from (suc n) bytes (suc i) lt =
    let e : 8 + 8 * i ≡ 8 * suc i = omega arith in
    get_or-words_from n (drop 8 bytes) i (omega arith) ∙ ap (from_le_bytes w64) (drop-drop (8 * i) 8 bytes ∙ ap (λ k. drop k bytes) e)

length-append : (xs ys : List ℕ) → length (xs ++ ys) ≡ length xs + length ys
length-append [] ys = omega arith
length-append (x ∷ xs) ys = let e = length-append xs ys in omega (arith, e)

get_or-append : (xs ys : List ℕ) (i : ℕ) → get_or (xs ++ ys) (length xs + i) 0 ≡ get_or ys i 0
get_or-append [] ys i = let e : 0 + i ≡ i = omega arith in ap (λ k. get_or ys k 0) e
get_or-append (x ∷ xs) ys i = let e : suc (length xs) + i ≡ suc (length xs + i) = omega arith in ap (λ k. get_or (x ∷ (xs ++ ys)) k 0) e ∙ get_or-append xs ys i

get_or-first : (xs ys : List ℕ) (i : ℕ) → i < length xs → get_or (xs ++ ys) i 0 ≡ get_or xs i 0
get_or-first [] ys i lt = absurd (omega arith)
get_or-first (x ∷ xs) ys zero lt = refl
get_or-first (x ∷ xs) ys (suc i) lt = get_or-first xs ys i (omega arith)

pub length-content : (places bytes : List ℕ) → length (content_words places bytes) ≡ content_size (length places) (length bytes)
length-content places bytes =
    let a = length-append places (data_words bytes) in
    let d = length-words_from ((length bytes + 7) / 8) bytes in
    omega (arith, a, d)

data-content : (places bytes : List ℕ) (i : ℕ) → 8 * i < length bytes → get_or (content_words places bytes) (length places + 1 + i) 0 ≡ data_word_at bytes i
data-content places bytes i lt =
    let e : length places + 1 + i ≡ suc (length places + i) = omega arith in
    ap (λ k. get_or (content_words places bytes) k 0) e ∙ get_or-append places (data_words bytes) i ∙ get_or-words_from ((length bytes + 7) / 8) bytes i (omega arith)

place-content : (places bytes : List ℕ) (i : ℕ) → i < length places → get_or (content_words places bytes) (i + 1) 0 ≡ get_or places i 0
place-content places bytes i lt = ap (λ k. get_or (content_words places bytes) k 0) (add-one i) ∙ get_or-first places (data_words bytes) i lt

-- ---- the newest open block

words-none : (who : Who) (v : View) (block : Block) (words : List (Option ℕ)) → IsOpenAlone v who block words → HasWords who v v block words
words-none who v block words h = record {
  is = ap (λ (os : List OpenBlock). record v { opened = os }) (h.is ∙ ap (λ (os : List OpenBlock). block_of block who words ∷ os) (sym (ap (drop 1) h.is)));
}

words-open : (who : Who) (old v : View) (block : Block) (words : List (Option ℕ)) → HasWords who old v block words → length words ≡ block.length → IsOpen v block
words-open who old v block words h len =
    let P : View → Type 0 = λ x. length (open_words x.opened block.place.at) ≡ block.length in
    let Q : Bool → Type 0 = λ b. length (cond b words (open_words (drop 1 old.opened) block.place.at)) ≡ block.length in
    subst P (sym h.is) (subst Q (sym (eq-eqb block.place.at block.place.at refl)) len)

words-more : (who : Who) (old v new : View) (block : Block) (words : List (Option ℕ)) (i w : ℕ) → HasWords who old v block words → HasWritten v new block i w
    → HasWords who old new block (set words i (Some w))
words-more who old v new block words i w h wrote =
    let changed : write_word v.opened block.place.at i w ≡ block_of block who (set words i (Some w)) ∷ drop 1 old.opened =
    ap (λ (x : View). write_word x.opened block.place.at i w) h.is
    ∙ ap (λ (b : Bool). cond b (block_of block who (set words i (Some w)) ∷ drop 1 old.opened) (block_of block who words ∷ write_word (drop 1 old.opened) block.place.at i w)) (eq-eqb block.place.at block.place.at refl) in
    record { is = wrote ∙ (λ j. record (h.is j) { opened = changed j }) }

-- ---- the words, one after another

module _ (who : Who) (places bytes : List ℕ) (old : View) (block : Block) (len : block.length ≡ content_size (length places) (length bytes)) where
  whole : (k : ℕ) → length (partly k (content_words places bytes)) ≡ block.length
  whole k = length-partly k (content_words places bytes) ∙ length-content places bytes ∙ sym len

  pub write-opened : (k : ℕ) (v : View) → HasWords who old v block (partly k (content_words places bytes)) → IsOpen v block
  write-opened k v h = words-open who old v block _ h (whole k)

  next-word : (k w : ℕ) (v new : View) → k < content_size (length places) (length bytes) → get_or (content_words places bytes) k 0 ≡ w
      → HasWords who old v block (partly k (content_words places bytes)) → HasWritten v new block k w → HasWords who old new block (partly (k + 1) (content_words places bytes))
  next-word k w v new lt is h wrote =
      subst (λ (ws : List (Option ℕ)). HasWords who old new block ws)
      (partly-more k (content_words places bytes) w (let e = length-content places bytes in omega (arith, e, lt)) is)
      (words-more who old v new block (partly k (content_words places bytes)) k w h wrote)

  pub write-head : (new : View) → IsOpenAlone old who block (none_written block.length) → HasWritten old new block 0 (content_head (length places) (length bytes))
      → HasWords who old new block (partly 1 (content_words places bytes))
  write-head new opens wrote =
      let none : none_written block.length ≡ partly 0 (content_words places bytes) =
      ap none_written (len ∙ sym (length-content places bytes)) ∙ sym (partly-none (content_words places bytes)) in
      next-word 0 (content_head (length places) (length bytes)) old new (omega arith) refl
      (subst (λ (ws : List (Option ℕ)). HasWords who old old block ws) none (words-none who old block (none_written block.length) opens)) wrote

  pub write-place : (i w : ℕ) (v new : View) → i < length places → get_or places i 0 ≡ w → HasWords who old v block (partly (i + 1) (content_words places bytes))
      → HasWritten v new block (i + 1) w → HasWords who old new block (partly (i + 1 + 1) (content_words places bytes))
  write-place i w v new lt is h wrote = next-word (i + 1) w v new (omega (arith, lt)) (place-content places bytes i lt ∙ is) h wrote

  pub write-data : (i : ℕ) (v new : View) → i < (length bytes + 7) / 8 → HasWords who old v block (partly (length places + 1 + i) (content_words places bytes))
      → HasWritten v new block (length places + 1 + i) (data_word_at bytes i) → HasWords who old new block (partly (length places + 1 + (i + 1)) (content_words places bytes))
  write-data i v new lt h wrote =
      let e : length places + 1 + i + 1 ≡ length places + 1 + (i + 1) = omega arith in
      subst (λ k. HasWords who old new block (partly k (content_words places bytes))) e
      (next-word (length places + 1 + i) (data_word_at bytes i) v new (omega (arith, lt)) (data-content places bytes i (omega (arith, lt))) h wrote)

  pub write-done : (n : ℕ) (v : View) → n ≡ (length bytes + 7) / 8 → HasWords who old v block (partly (length places + 1 + n) (content_words places bytes))
      → HasWords who old v block (map Some (content_words places bytes))
  write-done n v is h =
      let all : length places + 1 + n ≡ length (content_words places bytes) = let e = length-content places bytes in omega (arith, e, is) in
      subst (λ (ws : List (Option ℕ)). HasWords who old v block ws)
      (ap (λ k. partly k (content_words places bytes)) all ∙ partly-all (content_words places bytes)) h
