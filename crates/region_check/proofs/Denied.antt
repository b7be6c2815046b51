-- Words that stand for a state have no flaw.
use Rattle.std.proofs.Common.{◌≡◌, ◌≢◌, ℕ, zero, suc, ◌+◌, ◌-◌, ◌*◌, ◌/◌, ◌%◌, ◌^◌, ◌<◌, ◌≤◌, List, [], ◌∷◌, ◌++◌, length, get_or, inl, inr, refl, sym, ap, ◌∙◌, subst, arith}
use Rattle.std.proofs.lemmas.Bool.{cases_eq, cases_lt}
use Rattle.std.proofs.lemmas.List.{get_or_append_left, get_or-append-add}
use Rattle.cas_model.specs.declared.place.Space.{Space}
use Rattle.cas_model.specs.declared.place.Space.TheVariants.{Objects}
use Rattle.cas_model.specs.Content.{IsContent, content_places, content_bytes, content_words, content_head, data_words, words_from}
use Rattle.cas_model.specs.State.{State}
use Rattle.cas_model.specs.Trie.{path}
use Rattle.region_core.specs.Heap.{Block, Table, Record, Content, extent}
use Rattle.region_core.specs.Leads.{NamesTableAt, NamesRecordAt, Leads, IsSlot, IsFilledOf, IsContentOf, IsNamed, digest_there, cell_there, content_there, length_told}
use Rattle.region_core.specs.Stands.{Stands, AreReferences}
use Rattle.region_core.proofs.Founding.{there_read}
use Rattle.region_core.proofs.Labels.{told, some_words, length-content_words}
use Rattle.region_check.specs.declared.flaw.FlawKind.{FlawKind}
use Rattle.region_check.specs.Flaws.{Naming, BySlot, ByCell, Covers, IsShared, IsNoSlot, NamesOutside, IsTooLong, IsBadHead, HasKind, turn, refs_told, bytes_told, end_told}
use Rattle.region_check.specs.Passes.{RowOf}
use Rattle.region_check.proofs.Data.{last_small, content_small}
use Rattle.region_check.proofs.Loops.{one_lead, leads_down}
use Rattle.region_check.proofs.Firsts.{by_turn}

-- the head of a content tells its numbers
head_tells : (ws : List ℕ) → IsContent ws → (get_or ws 0 0 / 2 ^ 32 ≡ length (content_places ws)) × (get_or ws 0 0 % 2 ^ 32 ≡ length (content_bytes ws))
head_tells ws x =
    let head : get_or ws 0 0 ≡ content_head (length (content_places ws)) (length (content_bytes ws)) = ap (λ (z : List ℕ). get_or z 0 0) x.is in
    parts (get_or ws 0 0) (length (content_places ws)) (length (content_bytes ws)) head x.short
  where
    parts : (h refs count : ℕ) → h ≡ content_head refs count → count ≤ 16777215 → (h / 2 ^ 32 ≡ refs) × (h % 2 ^ 32 ≡ count)
    parts h refs count is short = (omega arith, omega arith)

module _ (words : List ℕ) (size : ℕ) (state : State) (st : Stands words size state) where
  -- ---- the header

  no_bad_head : (i : ℕ) → IsBadHead words i → ⊥
  no_bad_head zero bad = bad st.headed.magic
  no_bad_head (suc zero) bad = bad st.headed.version
  no_bad_head (suc (suc zero)) bad = elim bad [
    | inl low ↦ omega (arith, low, st.headed.size_there, st.headed.least)
    | inr high ↦ omega (arith, high, st.headed.size_there, st.headed.most)
  ]
  no_bad_head (suc (suc (suc zero))) bad = elim bad [
    | inl low ↦ omega (arith, low, st.headed.counter, st.headed.long)
    | inr rest ↦ elim rest [
      | inl size_low ↦ omega (arith, size_low, st.headed.counter, st.headed.size_there, st.headed.within)
      | inr past ↦ omega (arith, past, st.headed.counter)
    ]
  ]
  no_bad_head (suc (suc (suc (suc n)))) bad = bad.1 (st.headed.zeros (4 + n) (omega arith) (omega (arith, bad.0)))

  -- ---- slots

  no_outside : (s : Space) (above : List ℕ) (j slot : ℕ) → IsSlot words s above j slot → NamesOutside words slot → ⊥
  no_outside s above j slot x bad = elim bad [
    | inl r ↦ elim (st.slots s above j slot x) [
      | inl e ↦ omega (arith, r.1, e)
      | inr (inl z) ↦ let same : z.0 ≡ r.0 = omega (arith, z.1.0, r.1) in r.2 (subst (NamesRecordAt words slot) same z.1)
      | inr (inr z) ↦ omega (arith, z.1.0, r.1)
    ]
    | inr t ↦ elim (st.slots s above j slot x) [
      | inl e ↦ omega (arith, t.1, e)
      | inr (inl z) ↦ omega (arith, z.1.0, t.1)
      | inr (inr z) ↦ let same : z.0 ≡ t.0 = omega (arith, z.1.0, t.1) in t.2 (subst (NamesTableAt words slot) same z.1)
    ]
  ]

  no_empty_slot : (s : Space) (above : List ℕ) (j slot : ℕ) → IsSlot words s above j slot → IsNoSlot (get_or words slot 0) → ⊥
  no_empty_slot s above j slot x bad = elim (st.slots s above j slot x) [
    | inl e ↦ bad.some e
    | inr (inl z) ↦ bad.no_record z.0 z.1.0
    | inr (inr z) ↦ bad.no_table z.0 z.1.0
  ]

  -- ---- contents

  content_ends : (r c : ℕ) → IsContentOf words r c → (520 ≤ c) × (c < length words) × (length (content_there words c) ≡ length_told (get_or words c 0))
  content_ends r c x =
      let z = st.contents r c x in
      let some = some_words (content_there words c) z.0 in
      let head : get_or (content_there words c) 0 0 ≡ get_or words c 0 = there_read words c 0 some ∙ ap (λ k. get_or words k 0) (let e : c + 0 ≡ c = omega arith in e) in
      (z.1, omega (arith, z.2, some), sym (told (content_there words c) z.0) ∙ ap length_told head)

  numbers : (r c : ℕ) → IsContentOf words r c → (refs_told words c ≡ length (content_places (content_there words c))) × (bytes_told words c ≡ length (content_bytes (content_there words c)))
  numbers r c x =
      let z = st.contents r c x in
      let some = some_words (content_there words c) z.0 in
      let head : get_or (content_there words c) 0 0 ≡ get_or words c 0 = there_read words c 0 some ∙ ap (λ k. get_or words k 0) (let e : c + 0 ≡ c = omega arith in e) in
      let tells = head_tells (content_there words c) z.0 in
      (ap (λ h. h / 2 ^ 32) (sym head) ∙ tells.0, ap (λ h. h % 2 ^ 32) (sym head) ∙ tells.1)

  no_long : (r c : ℕ) → IsContentOf words r c → IsTooLong words c → ⊥
  no_long r c x bad =
      let z = st.contents r c x in
      let n = numbers r c x in
      elim bad [
        | inl many ↦ omega (arith, many, n.0, z.0.few_refs)
        | inr rest ↦ elim rest [
          | inl big ↦ omega (arith, big, n.1, z.0.short)
          | inr past ↦ omega (arith, past, (content_ends r c x).2, z.2)
        ]
      ]

  -- the words of a content after its head
  content_word : (r c k : ℕ) → (x : IsContentOf words r c) → k < length (content_there words c) → get_or words (c + k) 0 ≡ get_or (content_words (content_places (content_there words c)) (content_bytes (content_there words c))) k 0
  content_word r c k x h = sym (there_read words c k h) ∙ ap (λ (z : List ℕ). get_or z k 0) (st.contents r c x).0.is

  place_word : (ps ds : List ℕ) (h i : ℕ) → i < length ps → get_or (h ∷ (ps ++ ds)) (suc i) 0 ≡ get_or ps i 0
  place_word ps ds h i below = get_or_append_left ps ds 0 i below

  data_word : (ps ds : List ℕ) (h k : ℕ) → get_or (h ∷ (ps ++ ds)) (suc (length ps + k)) 0 ≡ get_or ds k 0
  data_word ps ds h k = get_or-append-add ps ds k 0

  reference_word : (r c i : ℕ) → (x : IsContentOf words r c) → i < refs_told words c → get_or words (c + 1 + i) 0 ≡ get_or (content_places (content_there words c)) i 0
  reference_word r c i x h =
      let n = numbers r c x in
      let z = st.contents r c x in
      let below : i < length (content_places (content_there words c)) = omega (arith, h, n.0) in
      let inside : suc i < length (content_there words c) = omega (arith, below, length-content_words (content_places (content_there words c)) (content_bytes (content_there words c)), ap length z.0.is) in
      let at : c + 1 + i ≡ c + suc i = omega arith in
      ap (λ k. get_or words k 0) at ∙ content_word r c (suc i) x inside
      ∙ place_word (content_places (content_there words c)) (data_words (content_bytes (content_there words c))) (content_head (length (content_places (content_there words c))) (length (content_bytes (content_there words c)))) i below

  each_reference : (c : ℕ) (ns : List ℕ) (i : ℕ) → AreReferences words c ns → i < length ns → IsFilledOf words Objects (get_or ns i 0) × (cell_there words (get_or ns i 0) < c)
  each_reference c [] i all h = absurd (omega arith)
  each_reference c (n ∷ ns) zero all h = (all.0, all.1)
  each_reference c (n ∷ ns) (suc i) all h = each_reference c ns i all.2 (omega arith)

  reference_there : (r c i : ℕ) → (x : IsContentOf words r c) → i < refs_told words c → IsFilledOf words Objects (get_or words (c + 1 + i) 0) × (cell_there words (get_or words (c + 1 + i) 0) < c)
  reference_there r c i x h =
      subst (λ n. IsFilledOf words Objects n × (cell_there words n < c)) (sym (reference_word r c i x h))
      (each_reference c (content_places (content_there words c)) i (st.references r c x) (omega (arith, h, (numbers r c x).0)))

  -- the last word has no stray bits
  no_stray : (r c p : ℕ) → (x : IsContentOf words r c) → p + 1 ≡ end_told words c → bytes_told words c % 8 ≢ 0 → 2 ^ (8 * (bytes_told words c % 8)) ≤ get_or words p 0 → ⊥
  no_stray r c p x end odd stray =
      let n = numbers r c x in
      let z = st.contents r c x in
      let count : ℕ = length (content_bytes (content_there words c)) in
      let odd_count : length (content_bytes (content_there words c)) % 8 ≢ 0 = λ e. odd (ap (λ k. k % 8) n.1 ∙ e) in
      let k : ℕ = (length (content_bytes (content_there words c)) + 7) / 8 - 1 in
      let size : suc ((length (content_bytes (content_there words c)) + 7) / 8 - 1) ≡ (length (content_bytes (content_there words c)) + 7) / 8 = some_more (length (content_bytes (content_there words c))) odd_count in
      let small = last_small ((length (content_bytes (content_there words c)) + 7) / 8 - 1) (content_bytes (content_there words c)) size odd_count (content_small (content_there words c)) in
      let told_is : length_told (get_or words c 0) ≡ 1 + length (content_places (content_there words c)) + (length (content_bytes (content_there words c)) + 7) / 8 = (λ i. 1 + n.0 i + (n.1 i + 7) / 8) in
      let at : p ≡ c + suc (length (content_places (content_there words c)) + ((length (content_bytes (content_there words c)) + 7) / 8 - 1)) = last_at p c (length_told (get_or words c 0)) (length (content_places (content_there words c))) ((length (content_bytes (content_there words c)) + 7) / 8) ((length (content_bytes (content_there words c)) + 7) / 8 - 1) end told_is size in
      let inside : suc (length (content_places (content_there words c)) + ((length (content_bytes (content_there words c)) + 7) / 8 - 1)) < length (content_there words c) = omega (arith, size, length-content_words (content_places (content_there words c)) (content_bytes (content_there words c)), ap length z.0.is) in
      let word : get_or words p 0 ≡ get_or (words_from (suc ((length (content_bytes (content_there words c)) + 7) / 8 - 1)) (content_bytes (content_there words c))) ((length (content_bytes (content_there words c)) + 7) / 8 - 1) 0 =
      ap (λ i. get_or words i 0) at ∙ content_word r c (suc (length (content_places (content_there words c)) + ((length (content_bytes (content_there words c)) + 7) / 8 - 1))) x inside
      ∙ data_word (content_places (content_there words c)) (data_words (content_bytes (content_there words c))) (content_head (length (content_places (content_there words c))) (length (content_bytes (content_there words c)))) ((length (content_bytes (content_there words c)) + 7) / 8 - 1)
      ∙ ap (λ m. get_or (words_from m (content_bytes (content_there words c))) ((length (content_bytes (content_there words c)) + 7) / 8 - 1) 0) (sym size) in
      let same : 2 ^ (8 * (length (content_bytes (content_there words c)) % 8)) ≤ get_or words p 0 = subst (λ m. 2 ^ (8 * (m % 8)) ≤ get_or words p 0) n.1 stray in
      clash (2 ^ (8 * (length (content_bytes (content_there words c)) % 8))) (get_or words p 0) (get_or (words_from (suc ((length (content_bytes (content_there words c)) + 7) / 8 - 1)) (content_bytes (content_there words c))) ((length (content_bytes (content_there words c)) + 7) / 8 - 1) 0) same word small
    where
      some_more : (n : ℕ) → n % 8 ≢ 0 → suc ((n + 7) / 8 - 1) ≡ (n + 7) / 8
      some_more n odd = elim (cases_eq n 0) [ inl e ↦ absurd (odd (ap (λ k. k % 8) e)) | inr ne ↦ omega arith ]

      last_at : (p c told refs size k : ℕ) → p + 1 ≡ c + told → told ≡ 1 + refs + size → suc k ≡ size → p ≡ c + suc (refs + k)
      last_at p c told refs size k a b e = omega arith

      clash : (bound word last : ℕ) → bound ≤ word → word ≡ last → last < bound → ⊥
      clash bound word last a b e = omega arith

  -- ---- blocks

  -- the block that a naming names
  abbrev block_of : (x : Naming) (p n : ℕ) → Covers words x p n → Block
  block_of (BySlot slot) p n x = elim x.1 [
    | inl r ↦ Record x.0.0 (digest_there words p).bytes (cell_there words p)
    | inr t ↦ Table x.0.0 (x.0.1.1 ∷ x.0.1.0)
  ]
  block_of (ByCell cell) p n x = Content x.0 (content_there words p)

  block_named : (x : Naming) (p n : ℕ) → (y : Covers words x p n) → IsNamed words p (block_of x p n y) × (extent (block_of x p n y) ≡ n)
  block_named (BySlot slot) p n ((s, (above, j, at)), inl r) = (((above, j, slot, at, r.0), refl, refl), sym r.1)
  block_named (BySlot slot) p n ((s, (above, j, at)), inr t) = ((at.0, at.1, at.2, subst (λ k. NamesTableAt words k p) at.3 t.0), sym t.1)
  block_named (ByCell cell) p n (r, is, reach, size) = ((reach.0, refl), (content_ends r p reach.0).2 ∙ sym size)

  -- a record that two slots name has one slot
  two_slots : (s : Space) (above beyond : List ℕ) (j i a b p : ℕ) → IsSlot words s above j a → IsSlot words s beyond i b → NamesRecordAt words a p → NamesRecordAt words b p → length above < length beyond → ⊥
  two_slots s above beyond j i a b p x y named other less =
      let d : List ℕ = (digest_there words p).bytes in
      let one : path (digest_there words p).bytes (suc (length above)) ≡ j ∷ above = st.paths s above j a p x named in
      let two : path (digest_there words p).bytes (suc (length beyond)) ≡ i ∷ beyond = st.paths s beyond i b p y other in
      let tail : path (digest_there words p).bytes (length beyond) ≡ beyond = cc in
      let down = leads_down words s (digest_there words p).bytes (length beyond) (suc (length above)) y.0 (omega arith) (subst (λ q. Leads words s q y.0) (sym tail) y.1) in
      let lead : Leads words s (j ∷ above) down.0 = subst (λ q. Leads words s q down.0) one down.1 in
      let up : lead.0 ≡ x.0 = one_lead words s above lead.0 x.0 lead.1 x.1 in
      let slot : lead.0 + j ≡ a = ap (λ k. k + j) up ∙ sym x.3 in
      let word : get_or words (lead.0 + j) 0 ≡ get_or words a 0 = ap (λ k. get_or words k 0) slot in
      omega (arith, word, lead.3.0, named.0)

  one_of_two : (s : Space) (above beyond : List ℕ) (j i a b p : ℕ) → IsSlot words s above j a → IsSlot words s beyond i b → NamesRecordAt words a p → NamesRecordAt words b p → a ≡ b
  one_of_two s above beyond j i a b p x y named other = elim (cases_lt (length above) (length beyond)) [
    | inl less ↦ absurd (two_slots s above beyond j i a b p x y named other less)
    | inr more ↦ elim (cases_lt (length beyond) (length above)) [
      | inl less ↦ absurd (two_slots s beyond above i j b a p y x other named less)
      | inr least ↦
          let long : length above ≡ length beyond = omega arith in
          let same : j ∷ above ≡ i ∷ beyond = sym (st.paths s above j a p x named) ∙ ap (λ n. path (digest_there words p).bytes (suc n)) long ∙ st.paths s beyond i b p y other in
          let index : j ≡ i = cc in
          let rest : above ≡ beyond = cc in
          let table : x.0 ≡ y.0 = one_lead words s beyond x.0 y.0 (subst (λ q. Leads words s q x.0) rest x.1) y.1 in
          x.3 ∙ (λ k. table k + index k) ∙ sym y.3
    ]
  ]

  same_naming : (x y : Naming) (p q n m : ℕ) (a : Covers words x p n) (b : Covers words y q m) → p ≡ q → block_of x p n a ≡ block_of y q m b → x ≡ y
  same_naming (BySlot u) (BySlot v) p q n m ((s, (above, j, at)), inl r) ((t, (beyond, i, to)), inl z) e same =
      let space : s ≡ t = cc in
      ap BySlot (one_of_two t above beyond j i u v q (subst (λ (k : Space). IsSlot words k above j u) space at) to (subst (NamesRecordAt words u) e r.0) z.0)
  same_naming (BySlot u) (BySlot v) p q n m ((s, (above, j, at)), inl r) ((t, (beyond, i, to)), inr z) e same = absurd (cc)
  same_naming (BySlot u) (BySlot v) p q n m ((s, (above, j, at)), inr r) ((t, (beyond, i, to)), inl z) e same = absurd (cc)
  same_naming (BySlot u) (BySlot v) p q n m ((s, (above, j, at)), inr r) ((t, (beyond, i, to)), inr z) e same =
      let space : s ≡ t = cc in
      let index : j ≡ i = cc in
      let rest : above ≡ beyond = cc in
      let lead : Leads words t beyond at.0 = subst (λ q. Leads words t q at.0) rest (subst (λ (k : Space). Leads words k above at.0) space at.1) in
      let table : at.0 ≡ to.0 = one_lead words t beyond at.0 to.0 lead to.1 in
      ap BySlot (at.3 ∙ (λ k. table k + index k) ∙ sym to.3)
  same_naming (BySlot u) (ByCell v) p q n m ((s, (above, j, at)), inl r) b e same = absurd (cc)
  same_naming (BySlot u) (ByCell v) p q n m ((s, (above, j, at)), inr r) b e same = absurd (cc)
  same_naming (ByCell u) (BySlot v) p q n m a ((t, (beyond, i, to)), inl z) e same = absurd (cc)
  same_naming (ByCell u) (BySlot v) p q n m a ((t, (beyond, i, to)), inr z) e same = absurd (cc)
  same_naming (ByCell u) (ByCell v) p q n m a b e same =
      let owner : a.0 ≡ b.0 = cc in
      ap ByCell (a.1 ∙ ap (λ k. k + 4) owner ∙ sym b.1)

  no_shared : (w : ℕ) → IsShared words w → ⊥
  no_shared w (x, y, differ, a, b) =
      let one = block_named x a.0 a.1 a.2 in
      let two = block_named y b.0 b.1 b.2 in
      let same = st.apart a.0 b.0 w (block_of x a.0 a.1 a.2) (block_of y b.0 b.1 b.2) one.0 two.0 a.3 (omega (arith, one.1, a.4)) b.3 (omega (arith, two.1, b.4)) in
      differ (same_naming x y a.0 b.0 a.1 b.1 a.2 b.2 same.0 same.1)

  -- ---- no flaw at all

  denied : (n p : ℕ) → RowOf words n p → ⊥
  denied zero p bad = bad
  denied (suc zero) p bad = elim bad [ inl x ↦ omega (arith, x.0, st.headed.long) | inr x ↦ no_bad_head p x.1 ]
  denied (suc (suc zero)) p bad = omega (arith, bad.0, bad.1, st.headed.counter)
  denied (suc (suc (suc zero))) p (s, (above, j, at), bad) = no_empty_slot s above j p at bad
  denied (suc (suc (suc (suc zero)))) p (inl (s, (above, j, at), bad)) = no_outside s above j p at bad
  denied (suc (suc (suc (suc zero)))) p (inr (r, is, place, bad)) =
      let cell : get_or words p 0 ≡ cell_there words r = ap (λ k. get_or words k 0) place in
      let z = content_ends r (cell_there words r) ((is, λ e. bad.0 (cell ∙ e)), refl) in
      elim bad.1 [ inl low ↦ omega (arith, low, cell, z.0) | inr high ↦ omega (arith, high, cell, z.1) ]
  denied (suc (suc (suc (suc (suc zero))))) p (r, x, bad) = no_long r p x.0 bad
  denied (suc (suc (suc (suc (suc (suc zero)))))) p bad = no_shared p bad
  denied (suc (suc (suc (suc (suc (suc (suc zero))))))) p (s, above, j, at, inl deep) =
      let long = st.levels s (j ∷ above) deep.1.0 (at.0, at.1, at.2, subst (λ k. NamesTableAt words k deep.1.0) at.3 deep.1.1) in
      omega (arith, long, deep.0)
  denied (suc (suc (suc (suc (suc (suc (suc zero))))))) p (s, above, j, at, inr lost) = elim lost.2 [
    | inl last ↦ omega (arith, last, st.levels s above at.0 at.1)
    | inr other ↦ other.1 (st.paths s above j p lost.0 at lost.1)
  ]
  denied (suc (suc (suc (suc (suc (suc (suc (suc zero)))))))) p (r, c, x, (end, odd, stray)) = no_stray r c p x.0 end odd stray
  denied (suc (suc (suc (suc (suc (suc (suc (suc (suc zero))))))))) p (r, c, x, (i, h, at), absent) = absent (subst (λ k. IsFilledOf words Objects (get_or words k 0)) (sym at) (reference_there r c i x.0 h).0)
  denied (suc (suc (suc (suc (suc (suc (suc (suc (suc (suc zero)))))))))) p (r, c, x, (i, h, at), above) =
      let below = (reference_there r c i x.0 h).1 in
      let same : cell_there words (get_or words p 0) ≡ cell_there words (get_or words (c + 1 + i) 0) = ap (λ k. cell_there words (get_or words k 0)) at in
      omega (arith, above, same, below)
  denied (suc (suc (suc (suc (suc (suc (suc (suc (suc (suc (suc zero))))))))))) p (kept, found, (c, x, kept_is, found_is, differ)) = differ (kept_is ∙ sym (st.named p c x.0) ∙ sym found_is)
  denied (suc (suc (suc (suc (suc (suc (suc (suc (suc (suc (suc (suc n)))))))))))) p (zero_is, (r, is, at, some, absent)) =
      let cell : get_or words p 0 ≡ cell_there words r = ap (λ k. get_or words k 0) at in
      absent (subst (IsFilledOf words Objects) (sym cell) (st.values r (is, λ e. some (cell ∙ e))))

  pub flaw_denied : (k : FlawKind) (p : ℕ) → HasKind words k p → ⊥
  flaw_denied k p bad = denied (turn k) p (by_turn words k p bad)
