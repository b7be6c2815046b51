-- What the descent of a digest finds.
use Rattle.std.proofs.Common.{◌≡◌, ◌≢◌, ℕ, ◌+◌, ◌-◌, ◌*◌, ◌/◌, ◌%◌, ◌<◌, ◌≤◌, List, [], ◌∷◌, length, get_or, ◌⊎◌, zero, suc, inl, inr, refl, sym, ap, ◌∙◌, subst, arith, cond, ◌==◌, true, false}
use Rattle.std.proofs.lemmas.Bool.{cases_order}
use Rattle.region_core.proofs.Digests.{same_digest}
use Rattle.region_core.specs.Words.{slot_word, HasWords}
use Rattle.region_core.specs.declared.slot.Slot.{Slot}
use Rattle.region_core.specs.declared.slot.Slot.TheVariants as slots
use Rattle.cas_model.specs.declared.place.Space.{Space}
use Rattle.cas_model.specs.Trie.{IsDigest, path, index_of}
use Rattle.region_core.specs.Words.{width, words_of}
use Rattle.region_core.specs.Heap.{Block, Table, Record, extent, fixed, Names, NamesRecord, Shape, Keeps, Tries, Laid, memory_of}
use Rattle.region_core.specs.Holds.{IsRecord, IsAbsent}

pub unique_table : (heap : ℕ → Block) (memory : ℕ → ℕ) (s : Space) (π : List ℕ) (u v : ℕ) → Tries heap memory → heap u ≡ Table s π → heap v ≡ Table s π → u ≡ v
unique_table heap memory s [] u v tries hu hv = tries.only u s hu ∙ sym (tries.only v s hv)
unique_table heap memory s (j ∷ π) u v tries hu hv =
    let x = tries.tables u s π j hu in
    let y = tries.tables v s π j hv in
    let same : x.table ≡ y.table = unique_table heap memory s π x.table y.table tries x.here y.here in
    let words : memory (x.table + j) ≡ memory (y.table + j) = ap (λ t. memory (t + j)) same in
    omega (arith, x.is, y.is)

-- a table on a digest's path, above one on that path
pub record Above (heap : ℕ → Block) (memory : ℕ → ℕ) (s : Space) (d : List ℕ) (level : ℕ) : Type 0 where
  pub table : ℕ
  pub here : heap table ≡ Table s (path d level)
  pub below : ℕ
  pub is : memory (table + index_of d level) ≡ 4 * below + 2

pub above_table : (heap : ℕ → Block) (memory : ℕ → ℕ) (s : Space) (d : List ℕ) (level n : ℕ) (v : ℕ) → Tries heap memory → heap v ≡ Table s (path d (suc (level + n))) → Above heap memory s d level
above_table heap memory s d level zero v tries h =
    let e : level + 0 ≡ level = omega arith in
    let x = tries.tables v s (path d (level + 0)) (index_of d (level + 0)) h in
    record {
      table = x.table;
      here = x.here ∙ ap (λ l. Table s (path d l)) e;
      below = v;
      is = ap (λ l. memory (x.table + index_of d l)) (sym e) ∙ x.is;
    }
above_table heap memory s d level (suc n) v tries h =
    let e : level + suc n ≡ suc (level + n) = omega arith in
    let x = tries.tables v s (path d (level + suc n)) (index_of d (level + suc n)) h in
    above_table heap memory s d level n x.table tries (x.here ∙ ap (λ l. Table s (path d l)) e)

-- at a table on a digest's path, the slot names that digest's record, or a table
pub on_the_way : (heap : ℕ → Block) (memory : ℕ → ℕ) (s : Space) (d : List ℕ) (c p u level : ℕ) → Tries heap memory → heap p ≡ Record s d c → heap u ≡ Table s (path d level) → (memory (u + index_of d level) ≡ 4 * p + 1) ⊎ ((t : ℕ) × (memory (u + index_of d level) ≡ 4 * t + 2))
on_the_way heap memory s d c p u level tries h here =
    let x = tries.records p s d c h in
    elim (cases_order level x.level) [
      | inl e ↦
          let same : u ≡ x.table = unique_table heap memory s (path d level) u x.table tries here (x.here ∙ ap (λ l. Table s (path d l)) (sym e)) in
          inl (ap (λ t. memory (t + index_of d level)) same ∙ ap (λ l. memory (x.table + index_of d l)) e ∙ x.is)
      | inr (inl less) ↦
          let e : x.level ≡ suc (level + (x.level - level - 1)) = omega arith in
          let a = above_table heap memory s d level (x.level - level - 1) x.table tries (x.here ∙ ap (λ l. Table s (path d l)) e) in
          let same : u ≡ a.table = unique_table heap memory s (path d level) u a.table tries here a.here in
          inr (a.below, ap (λ t. memory (t + index_of d level)) same ∙ a.is)
      | inr (inr more) ↦
          let e : level ≡ suc (x.level + (level - x.level - 1)) = omega arith in
          let a = above_table heap memory s d x.level (level - x.level - 1) u tries (here ∙ ap (λ l. Table s (path d l)) e) in
          let same : a.table ≡ x.table = unique_table heap memory s (path d x.level) a.table x.table tries a.here x.here in
          let words : memory (a.table + index_of d x.level) ≡ memory (x.table + index_of d x.level) = ap (λ t. memory (t + index_of d x.level)) same in
          absurd (omega (arith, x.is, a.is))
    ]

pub unique_record : (heap : ℕ → Block) (memory : ℕ → ℕ) (s : Space) (d : List ℕ) (c n p r : ℕ) → Tries heap memory → heap p ≡ Record s d c → heap r ≡ Record s d n → p ≡ r
unique_record heap memory s d c n p r tries hp hr =
    let x = tries.records p s d c hp in
    elim (on_the_way heap memory s d n r x.table x.level tries hr x.here) [
      | inl e ↦ omega (arith, x.is)
      | inr e ↦ absurd (omega (arith, x.is, e.1))
    ]

pub index_within : (d : List ℕ) (level : ℕ) → IsDigest d → index_of d level < width (path d level)
unfolding index_of
index_within d zero digest = digest.small 0
index_within d (suc level) digest =
    elim ((level + 2) % 2 == 0) as (λ b. cond b (get_or d ((level + 2) / 2) 0 / 16) (get_or d ((level + 2) / 2) 0 % 16) < 16) [
      | true ↦ omega (arith, digest.small ((level + 2) / 2))
      | false ↦ omega arith
    ]

-- an empty slot on a digest's path: it has no record
pub missed : (heap : ℕ → Block) (memory : ℕ → ℕ) (s : Space) (d : List ℕ) (u level : ℕ) → Tries heap memory → heap u ≡ Table s (path d level) → memory (u + index_of d level) ≡ 0 → IsAbsent heap s d
missed heap memory s d u level tries here word p c h =
    elim (on_the_way heap memory s d c p u level tries h here) [
      | inl e ↦ omega (arith, e)
      | inr e ↦ omega (arith, e.1)
    ]

-- another digest's record on a digest's path: it has no record
pub differs : (heap : ℕ → Block) (memory : ℕ → ℕ) (s : Space) (d e : List ℕ) (u level r n : ℕ) → Tries heap memory → heap u ≡ Table s (path d level) → memory (u + index_of d level) ≡ 4 * r + 1 → heap r ≡ Record s e n → e ≢ d → IsAbsent heap s d
differs heap memory s d e u level r n tries here word stands other p c h =
    elim (on_the_way heap memory s d c p u level tries h here) [
      | inl w ↦
          let one : p ≡ r = omega (arith, w) in
          let same : Record s d c ≡ Record s e n = sym h ∙ ap heap one ∙ stands in
          let is : e ≡ d = cc in
          other is
      | inr w ↦ omega (arith, w.1)
    ]

-- what a record's slot word names
pub record_there : (heap : ℕ → Block) (memory : ℕ → ℕ) (s : Space) (π : List ℕ) (j u r : ℕ) → Tries heap memory → heap u ≡ Table s π → j < width π → memory (u + j) ≡ 4 * r + 1 → NamesRecord heap s (j ∷ π) (4 * r + 1)
record_there heap memory s π j u r tries here hj word =
    elim (tries.slots u s π j here hj) [
      | inl e ↦ absurd (omega arith)
      | inr (inl x) ↦ rw word at x
      | inr (inr x) ↦ absurd (omega (arith, x.is))
    ]

pub table_there : (heap : ℕ → Block) (memory : ℕ → ℕ) (s : Space) (π : List ℕ) (j u t : ℕ) → Tries heap memory → heap u ≡ Table s π → j < width π → memory (u + j) ≡ 4 * t + 2 → heap t ≡ Table s (j ∷ π)
table_there heap memory s π j u t tries here hj word =
    elim (tries.slots u s π j here hj) [
      | inl e ↦ absurd (omega arith)
      | inr (inl x) ↦ absurd (omega (arith, x.is))
      | inr (inr x) ↦ let one : t ≡ x.place = omega (arith, x.is) in ap heap one ∙ x.here
    ]

-- a slot lies below the counter
pub slot_below : (heap : ℕ → Block) (counter : ℕ) (s : Space) (π : List ℕ) (u j : ℕ) → Shape heap counter → heap u ≡ Table s π → j < width π → u + j < counter
slot_below heap counter s π u j shape here hj = omega (arith, shape.high u (rw here (omega arith)), ap extent here)

-- the descent of `look` at a slot that names a record
pub at_record : (heap : ℕ → Block) (ws d : List ℕ) (s : Space) (u level j r : ℕ) → Laid heap (memory_of ws) (length ws) → heap u ≡ Table s (path d level) → j ≡ index_of d level → j < width (path d level) → 4 * r + 1 ≡ get_or ws (u + j) 0 → NamesRecord heap s (j ∷ path d level) (4 * r + 1)
at_record heap ws d s u level j r laid here j_is hj word = record_there heap (memory_of ws) s (path d level) j u r laid.tries here hj (sym word)

pub named_at : (heap : ℕ → Block) (s : Space) (π : List ℕ) (r : ℕ) → (x : NamesRecord heap s π (4 * r + 1)) → heap r ≡ Record s x.digest x.cell
named_at heap s π r x = let one : r ≡ x.place = omega (arith, x.is) in ap heap one ∙ x.here

pub record_below : (heap : ℕ → Block) (counter : ℕ) (s : Space) (e : List ℕ) (n r : ℕ) → Shape heap counter → heap r ≡ Record s e n → r + 5 ≤ counter
record_below heap counter s e n r shape h = omega (arith, shape.high r (rw h (omega arith)), ap extent h)

-- the digest words of a record
pub digest_held : (heap : ℕ → Block) (memory : ℕ → ℕ) (counter : ℕ) (s : Space) (e : List ℕ) (n r k : ℕ) → Keeps heap memory counter → heap r ≡ Record s e n → k < 4 → memory (r + k) ≡ get_or (words_of e) k 0
digest_held heap memory counter s e n r zero keeps h hk = keeps.held r 0 (rw h (omega arith)) ∙ ap (λ b. get_or (fixed b) 0 0) h
digest_held heap memory counter s e n r (suc zero) keeps h hk = keeps.held r 1 (rw h (omega arith)) ∙ ap (λ b. get_or (fixed b) 1 0) h
digest_held heap memory counter s e n r (suc (suc zero)) keeps h hk = keeps.held r 2 (rw h (omega arith)) ∙ ap (λ b. get_or (fixed b) 2 0) h
digest_held heap memory counter s e n r (suc (suc (suc zero))) keeps h hk = keeps.held r 3 (rw h (omega arith)) ∙ ap (λ b. get_or (fixed b) 3 0) h
digest_held heap memory counter s e n r (suc (suc (suc (suc m)))) keeps h hk = absurd (omega arith)

-- a record's words are those of its digest
pub own_words : (heap : ℕ → Block) (ws e : List ℕ) (s : Space) (n r : ℕ) → Keeps heap (memory_of ws) (length ws) → heap r ≡ Record s e n → HasWords ws r (words_of e)
own_words heap ws e s n r keeps h =
    let at0 : r + 0 ≡ r = omega arith in (
      ap (λ i. get_or ws i 0) (sym at0) ∙ digest_held heap (memory_of ws) (length ws) s e n r 0 keeps h (omega arith),
      digest_held heap (memory_of ws) (length ws) s e n r 1 keeps h (omega arith),
      digest_held heap (memory_of ws) (length ws) s e n r 2 keeps h (omega arith),
      digest_held heap (memory_of ws) (length ws) s e n r 3 keeps h (omega arith),
    )

pub same_words : (ws d e : List ℕ) (r : ℕ) → IsDigest d → IsDigest e → HasWords ws r (words_of d) → HasWords ws r (words_of e) → e ≡ d
same_words ws d e r hd he a b =
    let e0 = sym b.0 ∙ a.0 in
    let e1 = sym b.1 ∙ a.1 in
    let e2 = sym b.2 ∙ a.2 in
    let e3 = sym b.3 ∙ a.3 in
    same_digest e d he hd (λ i. e0 i ∷ e1 i ∷ e2 i ∷ e3 i ∷ [])

-- the record that a slot names is the digest's, or the digest has none
pub if_same : (heap : ℕ → Block) (ws d own : List ℕ) (s : Space) (π : List ℕ) (r : ℕ) → Laid heap (memory_of ws) (length ws) → IsDigest d → own ≡ words_of d → NamesRecord heap s π (4 * r + 1) → HasWords ws r own → IsRecord heap s d r
if_same heap ws d own s π r laid hd own_is x same =
    let stands = named_at heap s π r x in
    let e : x.digest ≡ d = same_words ws d x.digest r hd (laid.tries.digests r s x.digest x.cell stands) (rw own_is at same) (own_words heap ws x.digest s x.cell r laid.keeps stands) in
    (x.cell, stands ∙ ap (λ y. Record s y x.cell) e)

pub if_other : (heap : ℕ → Block) (ws d own : List ℕ) (s : Space) (u level j r : ℕ) → Laid heap (memory_of ws) (length ws) → IsDigest d → own ≡ words_of d → heap u ≡ Table s (path d level) → j ≡ index_of d level → 4 * r + 1 ≡ get_or ws (u + j) 0 → NamesRecord heap s (j ∷ path d level) (4 * r + 1) → (HasWords ws r own → ⊥) → IsAbsent heap s d
if_other heap ws d own s u level j r laid hd own_is here j_is word x other =
    let stands = named_at heap s (j ∷ path d level) r x in
    differs heap (memory_of ws) s d x.digest u level r x.cell laid.tries here (ap (λ k. get_or ws (u + k) 0) (sym j_is) ∙ sym word) stands
    (λ e. other (subst (λ y. HasWords ws r y) (ap words_of e ∙ sym own_is) (own_words heap ws x.digest s x.cell r laid.keeps stands)))

-- no slot holds another word
pub lawful : (heap : ℕ → Block) (s : Space) (π : List ℕ) (w : ℕ) → ((x : Slot) → slot_word x ≢ w) → Names heap s π w → ⊥
lawful heap s π w none names =
    elim names [
      | inl e ↦ none slots.Empty (sym e)
      | inr (inl x) ↦ none (slots.Record record { at = x.place }) (sym x.is)
      | inr (inr x) ↦ none (slots.Subtrie record { at = x.place }) (sym x.is)
    ]

pub length-path : (d : List ℕ) (level : ℕ) → length (path d level) ≡ level
length-path d zero = refl
length-path d (suc level) = ap suc (length-path d level)
