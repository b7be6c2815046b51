-- Words that stand for a state have a certificate: the blocks that are found from the roots down.
use Rattle.std.proofs.Common.{◌≡◌, ◌≢◌, ◌⊎◌, ℕ, zero, suc, ◌+◌, ◌*◌, ◌/◌, ◌%◌, ◌<◌, ◌≤◌, ◌==◌, List, [], ◌∷◌, ◌++◌, length, get_or, take, drop, min, true, refl, sym, ap, ◌∙◌, subst, inl, inr, arith}
use Rattle.std.specs.Int.{w64, to_be_bytes, from_be_bytes}
use Rattle.std.proofs.lemmas.Bool.{cases_eq, cases_Bool, cond-true, cond-false, eq-eqb, eqb-true}
use Rattle.std.proofs.lemmas.List.{get_or-take, get_or-drop, get_or_past, length-take}
use Rattle.std.proofs.lemmas.Nat.{from_be_bytes-to_be_bytes_8}
use Rattle.cas_model.specs.declared.digest.Digest.{Digest}
use Rattle.cas_model.specs.declared.object.Object.{Object}
use Rattle.cas_model.specs.declared.place.Space.{Space}
use Rattle.cas_model.specs.declared.place.Space.TheVariants.{Objects, Actions}
use Rattle.cas_model.specs.Content.{IsContent, content_places, content_bytes}
use Rattle.cas_model.specs.Object.{object_digest}
use Rattle.cas_model.specs.State.{State}
use Rattle.cas_model.specs.Trie.{IsDigest, path, index_of}
use Rattle.region_core.specs.Certificate.{digest_in, digests_in, object_in, AllBelow, IsContentIn, AreContents, ObjectIn, ActionIn, Names, IsCertified}
use Rattle.region_core.specs.Found.{Way, Named, ways_below, all_below, ways_at, content_named, record_named, records_below, blocks_of, blocks_to, blocks_in, block_at, heap_of}
use Rattle.region_core.specs.Heap.{Block, Free, Table, Record, Content, Claimed, extent, fixed, Shape, Keeps, Tries, Cells, Laid, memory_of}
use Rattle.region_core.specs.Leads.{NamesTableAt, NamesRecordAt, Leads, IsSlot, IsRecordOf, IsFilledOf, IsContentOf, IsNamed, digest_there, digests_there, cell_there, content_there, object_there, length_told}
use Rattle.region_core.specs.Stands.{AreWords, IsHeaded, IsLawfulSlot, Stands, AreReferences, HasObject, HasAction}
use Rattle.region_core.specs.Words.{root, width, word_of, words_of}
use Rattle.region_core.proofs.Labels.{length-content_words}

-- ---- lists

abbrev pub IsIn : {X : Type 0} → X → List X → Type 0
IsIn x [] = ⊥
IsIn x (y ∷ ys) = (y ≡ x) ⊎ IsIn x ys

in_left : {X : Type 0} (x : X) (xs ys : List X) → IsIn x xs → IsIn x (xs ++ ys)
in_left x [] ys m = absurd m
in_left x (y ∷ xs) ys m = elim m [ inl e ↦ inl e | inr r ↦ inr (in_left x xs ys r) ]

in_right : {X : Type 0} (x : X) (xs ys : List X) → IsIn x ys → IsIn x (xs ++ ys)
in_right x [] ys m = m
in_right x (y ∷ xs) ys m = inr (in_right x xs ys m)

in_cases : {X : Type 0} (x : X) (xs ys : List X) → IsIn x (xs ++ ys) → IsIn x xs ⊎ IsIn x ys
in_cases x [] ys m = inr m
in_cases x (y ∷ xs) ys m = elim m [
  | inl e ↦ inl (inl e)
  | inr r ↦ elim (in_cases x xs ys r) [ inl a ↦ inl (inr a) | inr b ↦ inr b ]
]

-- ---- the bytes of a record's digest

byte_small : (n i : ℕ) → get_or (to_be_bytes w64 n) i 0 < 256
byte_small n zero = omega arith
byte_small n (suc zero) = omega arith
byte_small n (suc (suc zero)) = omega arith
byte_small n (suc (suc (suc zero))) = omega arith
byte_small n (suc (suc (suc (suc zero)))) = omega arith
byte_small n (suc (suc (suc (suc (suc zero))))) = omega arith
byte_small n (suc (suc (suc (suc (suc (suc zero)))))) = omega arith
byte_small n (suc (suc (suc (suc (suc (suc (suc zero))))))) = omega arith
byte_small n (suc (suc (suc (suc (suc (suc (suc (suc i)))))))) = omega arith

append_small : (xs ys : List ℕ) → ((i : ℕ) → get_or xs i 0 < 256) → ((i : ℕ) → get_or ys i 0 < 256) → (i : ℕ) → get_or (xs ++ ys) i 0 < 256
append_small [] ys hx hy i = hy i
append_small (x ∷ xs) ys hx hy zero = hx zero
append_small (x ∷ xs) ys hx hy (suc i) = append_small xs ys (λ k. hx (suc k)) hy i

pub there_digest : (words : List ℕ) (p : ℕ) → IsDigest (digest_there words p).bytes
unfolding digest_there
there_digest words p = record {
  long = refl;
  small =
      append_small (to_be_bytes w64 (get_or words p 0) ++ to_be_bytes w64 (get_or words (p + 1) 0) ++ to_be_bytes w64 (get_or words (p + 2) 0)) (to_be_bytes w64 (get_or words (p + 3) 0))
      (append_small (to_be_bytes w64 (get_or words p 0) ++ to_be_bytes w64 (get_or words (p + 1) 0)) (to_be_bytes w64 (get_or words (p + 2) 0))
      (append_small (to_be_bytes w64 (get_or words p 0)) (to_be_bytes w64 (get_or words (p + 1) 0)) (byte_small (get_or words p 0)) (byte_small (get_or words (p + 1) 0)))
      (byte_small (get_or words (p + 2) 0)))
      (byte_small (get_or words (p + 3) 0));
}

-- the words of the digest are those of the record
there_words : (words : List ℕ) (p : ℕ) → AreWords words → words_of (digest_there words p).bytes ≡ get_or words p 0 ∷ get_or words (p + 1) 0 ∷ get_or words (p + 2) 0 ∷ get_or words (p + 3) 0 ∷ []
unfolding digest_there word_of
there_words words p all =
    let a : from_be_bytes w64 (to_be_bytes w64 (get_or words p 0)) ≡ get_or words p 0 = from_be_bytes-to_be_bytes_8 (get_or words p 0) (all.small p) in
    let b : from_be_bytes w64 (to_be_bytes w64 (get_or words (p + 1) 0)) ≡ get_or words (p + 1) 0 = from_be_bytes-to_be_bytes_8 (get_or words (p + 1) 0) (all.small (p + 1)) in
    let c : from_be_bytes w64 (to_be_bytes w64 (get_or words (p + 2) 0)) ≡ get_or words (p + 2) 0 = from_be_bytes-to_be_bytes_8 (get_or words (p + 2) 0) (all.small (p + 2)) in
    let d : from_be_bytes w64 (to_be_bytes w64 (get_or words (p + 3) 0)) ≡ get_or words (p + 3) 0 = from_be_bytes-to_be_bytes_8 (get_or words (p + 3) 0) (all.small (p + 3)) in
    λ i. a i ∷ b i ∷ c i ∷ d i ∷ []

-- all that words which stand for a state keep, but for the state
pub record IsLawful (words : List ℕ) (size : ℕ) : Type 0 where
  pub headed : IsHeaded words size
  pub slots : (s : Space) (above : List ℕ) (j slot : ℕ) → IsSlot words s above j slot → IsLawfulSlot words slot
  pub levels : (s : Space) (above : List ℕ) (t : ℕ) → Leads words s above t → length above ≤ 62
  pub paths : (s : Space) (above : List ℕ) (j slot p : ℕ) → IsSlot words s above j slot → NamesRecordAt words slot p → path (digest_there words p).bytes (suc (length above)) ≡ j ∷ above
  pub contents : (r c : ℕ) → IsContentOf words r c → IsContent (content_there words c) × (520 ≤ c) × (c + length (content_there words c) ≤ length words)
  pub apart : (p q w : ℕ) (b c : Block) → IsNamed words p b → IsNamed words q c → p ≤ w → w < p + extent b → q ≤ w → w < q + extent c → (p ≡ q) × (b ≡ c)
  pub references : (r c : ℕ) → IsContentOf words r c → AreReferences words c (content_places (content_there words c))
  pub named : (r c : ℕ) → IsContentOf words r c → object_digest (object_there words c) ≡ digest_there words r
  pub values : (r : ℕ) → IsFilledOf words Actions r → IsFilledOf words Objects (cell_there words r)

pub stands_lawful : (words : List ℕ) (size : ℕ) (state : State) → Stands words size state → IsLawful words size
stands_lawful words size state st = record {
  headed = st.headed;
  slots = st.slots;
  levels = st.levels;
  paths = st.paths;
  contents = st.contents;
  apart = st.apart;
  references = st.references;
  named = st.named;
  values = st.values;
}

-- ---- the ways that are found are those that lead

module _ (words : List ℕ) (size : ℕ) (st : IsLawful words size) where
  -- a slot word that is 2 modulo 4 names a table
  slot_table : (s : Space) (above : List ℕ) (j slot : ℕ) → IsSlot words s above j slot → get_or words slot 0 % 4 ≡ 2 → NamesTableAt words slot (get_or words slot 0 / 4)
  slot_table s above j slot x two = elim (st.slots s above j slot x) [
    | inl e ↦ absurd (omega arith)
    | inr (inl r) ↦ absurd (omega (arith, r.1.0))
    | inr (inr t) ↦ let t_is : t.0 ≡ get_or words slot 0 / 4 = omega (arith, t.1.0) in subst (NamesTableAt words slot) t_is t.1
  ]

  slot_record : (s : Space) (above : List ℕ) (j slot : ℕ) → IsSlot words s above j slot → get_or words slot 0 % 4 ≡ 1 → NamesRecordAt words slot (get_or words slot 0 / 4)
  slot_record s above j slot x one = elim (st.slots s above j slot x) [
    | inl e ↦ absurd (omega arith)
    | inr (inl r) ↦ let r_is : r.0 ≡ get_or words slot 0 / 4 = omega (arith, r.1.0) in subst (NamesRecordAt words slot) r_is r.1
    | inr (inr t) ↦ absurd (omega (arith, t.1.0))
  ]

  below_leads : (s : Space) (way : Way) (n : ℕ) → n ≤ width way.indexes → Leads words s way.indexes way.table → (w : Way) → IsIn w (ways_below words way n) → Leads words s w.indexes w.table
  below_leads s way zero h lead w m = absurd m
  below_leads s way (suc j) h lead w m = elim (cases_Bool (get_or words (way.table + j) 0 % 4 == 2)) [
    | inl hit ↦
        let next : Way = record { indexes = j ∷ way.indexes; table = get_or words (way.table + j) 0 / 4 } in
        let here : IsIn w (next ∷ ways_below words way j) = subst (IsIn w) (cond-true (get_or words (way.table + j) 0 % 4 == 2) (next ∷ ways_below words way j) (ways_below words way j) hit) m in
        elim here [
          | inl e ↦
              let named = slot_table s way.indexes j (way.table + j) (way.table, lead, omega arith, refl) (eqb-true (get_or words (way.table + j) 0 % 4) 2 hit) in
              subst (λ (z : Way). Leads words s z.indexes z.table) e (way.table, lead, omega arith, named)
          | inr r ↦ below_leads s way j (omega arith) lead w r
        ]
    | inr miss ↦
        below_leads s way j (omega arith) lead w (subst (IsIn w) (cond-false (get_or words (way.table + j) 0 % 4 == 2) (record { indexes = j ∷ way.indexes; table = get_or words (way.table + j) 0 / 4 } ∷ ways_below words way j) (ways_below words way j) miss) m)
  ]

  all_lead : (s : Space) (ways : List Way) → ((w : Way) → IsIn w ways → Leads words s w.indexes w.table) → (w : Way) → IsIn w (all_below words ways) → Leads words s w.indexes w.table
  all_lead s [] lead w m = absurd m
  all_lead s (way ∷ ways) lead w m = elim (in_cases w (ways_below words way (width way.indexes)) (all_below words ways) m) [
    | inl a ↦ below_leads s way (width way.indexes) (omega arith) (lead way (inl refl)) w a
    | inr b ↦ all_lead s ways (λ v k. lead v (inr k)) w b
  ]

  ways_lead : (s : Space) (level : ℕ) (w : Way) → IsIn w (ways_at words s level) → Leads words s w.indexes w.table
  ways_lead s zero w m = elim m [ inl e ↦ subst (λ (z : Way). Leads words s z.indexes z.table) e refl | inr r ↦ absurd r ]
  ways_lead s (suc level) w m = all_lead s (ways_at words s level) (ways_lead s level) w m

  below_has : (way : Way) (j n : ℕ) → j < n → get_or words (way.table + j) 0 % 4 ≡ 2 → IsIn (record { indexes = j ∷ way.indexes; table = get_or words (way.table + j) 0 / 4 }) (ways_below words way n)
  below_has way j zero h two = absurd (omega arith)
  below_has way j (suc n) h two =
      let own : Way = record { indexes = j ∷ way.indexes; table = get_or words (way.table + j) 0 / 4 } in
      let next : Way = record { indexes = n ∷ way.indexes; table = get_or words (way.table + n) 0 / 4 } in
      elim (cases_Bool (get_or words (way.table + n) 0 % 4 == 2)) [
        | inl hit ↦
            subst (IsIn own) (sym (cond-true (get_or words (way.table + n) 0 % 4 == 2) (next ∷ ways_below words way n) (ways_below words way n) hit))
            (elim (cases_eq j n) [
              | inl e ↦ inl (ap (λ (k : ℕ). record { indexes = k ∷ way.indexes; table = get_or words (way.table + k) 0 / 4 }) (sym e))
              | inr ne ↦ inr (below_has way j n (omega arith) two)
            ])
        | inr miss ↦
            subst (IsIn own) (sym (cond-false (get_or words (way.table + n) 0 % 4 == 2) (next ∷ ways_below words way n) (ways_below words way n) miss))
            (elim (cases_eq j n) [
              | inl e ↦ absurd (let yes2 : (get_or words (way.table + n) 0 % 4 == 2) ≡ true = ap (λ k. get_or words (way.table + k) 0 % 4 == 2) (sym e) ∙ eq-eqb (get_or words (way.table + j) 0 % 4) 2 two in cc)
              | inr ne ↦ below_has way j n (omega arith) two
            ])
      ]

  all_has : (ways : List Way) (way w : Way) → IsIn way ways → IsIn w (ways_below words way (width way.indexes)) → IsIn w (all_below words ways)
  all_has [] way w m k = absurd m
  all_has (v ∷ ways) way w m k = elim m [
    | inl e ↦ in_left w (ways_below words v (width v.indexes)) (all_below words ways) (subst (λ (z : Way). IsIn w (ways_below words z (width z.indexes))) (sym e) k)
    | inr r ↦ in_right w (ways_below words v (width v.indexes)) (all_below words ways) (all_has ways way w r k)
  ]

  ways_has : (s : Space) (above : List ℕ) (t : ℕ) → Leads words s above t → IsIn (record { indexes = above; table = t }) (ways_at words s (length above))
  ways_has s [] t lead = inl (ap (λ (u : ℕ). record { indexes = []; table = u }) (sym lead))
  ways_has s (j ∷ above) t lead =
      let way : Way = record { indexes = above; table = lead.0 } in
      let two : get_or words (lead.0 + j) 0 % 4 ≡ 2 = omega (arith, lead.3.0) in
      let t_is : get_or words (lead.0 + j) 0 / 4 ≡ t = omega (arith, lead.3.0) in
      subst (λ (u : ℕ). IsIn (record { indexes = j ∷ above; table = u }) (all_below words (ways_at words s (length above)))) t_is
      (all_has (ways_at words s (length above)) way (record { indexes = j ∷ above; table = get_or words (lead.0 + j) 0 / 4 }) (ways_has s above lead.0 lead.1) (below_has way j (width above) lead.2 two))

  -- ---- the blocks that are found are those that are named

  content_is_named : (s : Space) (owner cell : ℕ) → IsRecordOf words s owner → cell_there words owner ≡ cell → (x : Named) → IsIn x (content_named words s owner cell) → IsNamed words x.place x.block
  content_is_named Objects owner (suc cell) r e x m = elim m [
    | inl is ↦ subst (λ (z : Named). IsNamed words z.place z.block) is (((r, λ k. omega arith), sym e), refl)
    | inr k ↦ absurd k
  ]
  content_is_named Objects owner zero r e x m = absurd m
  content_is_named Actions owner cell r e x m = absurd m

  record_is_named : (s : Space) (p : ℕ) → IsRecordOf words s p → (x : Named) → IsIn x (record_named words s p) → IsNamed words x.place x.block
  record_is_named s p r x m = elim m [
    | inl is ↦ subst (λ (z : Named). IsNamed words z.place z.block) is (r, refl, refl)
    | inr k ↦ content_is_named s p (cell_there words p) r refl x k
  ]

  records_are_named : (s : Space) (above : List ℕ) (table n : ℕ) → n ≤ width above → Leads words s above table → (x : Named) → IsIn x (records_below words s table n) → IsNamed words x.place x.block
  records_are_named s above table zero h lead x m = absurd m
  records_are_named s above table (suc j) h lead x m = elim (cases_Bool (get_or words (table + j) 0 % 4 == 1)) [
    | inl hit ↦
        let slot : IsSlot words s above j (table + j) = (table, lead, omega arith, refl) in
        let named = slot_record s above j (table + j) slot (eqb-true (get_or words (table + j) 0 % 4) 1 hit) in
        elim (in_cases x (record_named words s (get_or words (table + j) 0 / 4)) (records_below words s table j) (subst (IsIn x) (cond-true (get_or words (table + j) 0 % 4 == 1) (record_named words s (get_or words (table + j) 0 / 4) ++ records_below words s table j) (records_below words s table j) hit) m)) [
          | inl a ↦ record_is_named s (get_or words (table + j) 0 / 4) (above, j, table + j, slot, named) x a
          | inr b ↦ records_are_named s above table j (omega arith) lead x b
        ]
    | inr miss ↦
        records_are_named s above table j (omega arith) lead x (subst (IsIn x) (cond-false (get_or words (table + j) 0 % 4 == 1) (record_named words s (get_or words (table + j) 0 / 4) ++ records_below words s table j) (records_below words s table j) miss) m)
  ]

  blocks_are_named : (s : Space) (ways : List Way) → ((w : Way) → IsIn w ways → Leads words s w.indexes w.table) → (x : Named) → IsIn x (blocks_of words s ways) → IsNamed words x.place x.block
  blocks_are_named s [] lead x m = absurd m
  blocks_are_named s (way ∷ ways) lead x m = elim m [
    | inl is ↦ subst (λ (z : Named). IsNamed words z.place z.block) is (lead way (inl refl))
    | inr k ↦ elim (in_cases x (records_below words s way.table (width way.indexes)) (blocks_of words s ways) k) [
      | inl a ↦ records_are_named s way.indexes way.table (width way.indexes) (omega arith) (lead way (inl refl)) x a
      | inr b ↦ blocks_are_named s ways (λ w i. lead w (inr i)) x b
    ]
  ]

  all_named : (s : Space) (n : ℕ) (x : Named) → IsIn x (blocks_to words s n) → IsNamed words x.place x.block
  all_named s zero x m = absurd m
  all_named s (suc n) x m = elim (in_cases x (blocks_of words s (ways_at words s n)) (blocks_to words s n) m) [
    | inl a ↦ blocks_are_named s (ways_at words s n) (ways_lead s n) x a
    | inr b ↦ all_named s n x b
  ]

  found_named : (x : Named) → IsIn x (blocks_in words) → IsNamed words x.place x.block
  unfolding blocks_in
  found_named x m = elim (in_cases x (blocks_to words Objects 63) (blocks_to words Actions 63) m) [ inl a ↦ all_named Objects 63 x a | inr b ↦ all_named Actions 63 x b ]

  -- and each named block is found
  records_has : (s : Space) (table j n : ℕ) (x : Named) → j < n → get_or words (table + j) 0 % 4 ≡ 1 → IsIn x (record_named words s (get_or words (table + j) 0 / 4)) → IsIn x (records_below words s table n)
  records_has s table j zero x h one m = absurd (omega arith)
  records_has s table j (suc n) x h one m = elim (cases_Bool (get_or words (table + n) 0 % 4 == 1)) [
    | inl hit ↦
        subst (IsIn x) (sym (cond-true (get_or words (table + n) 0 % 4 == 1) (record_named words s (get_or words (table + n) 0 / 4) ++ records_below words s table n) (records_below words s table n) hit))
        (elim (cases_eq j n) [
          | inl e ↦ in_left x (record_named words s (get_or words (table + n) 0 / 4)) (records_below words s table n) (subst (λ k. IsIn x (record_named words s (get_or words (table + k) 0 / 4))) e m)
          | inr ne ↦ in_right x (record_named words s (get_or words (table + n) 0 / 4)) (records_below words s table n) (records_has s table j n x (omega arith) one m)
        ])
    | inr miss ↦
        subst (IsIn x) (sym (cond-false (get_or words (table + n) 0 % 4 == 1) (record_named words s (get_or words (table + n) 0 / 4) ++ records_below words s table n) (records_below words s table n) miss))
        (elim (cases_eq j n) [
          | inl e ↦ absurd (let hit2 : (get_or words (table + n) 0 % 4 == 1) ≡ true = ap (λ k. get_or words (table + k) 0 % 4 == 1) (sym e) ∙ eq-eqb (get_or words (table + j) 0 % 4) 1 one in cc)
          | inr ne ↦ records_has s table j n x (omega arith) one m
        ])
  ]

  blocks_has_table : (s : Space) (ways : List Way) (w : Way) → IsIn w ways → IsIn (record { place = w.table; block = Table s w.indexes }) (blocks_of words s ways)
  blocks_has_table s [] w m = absurd m
  blocks_has_table s (v ∷ ways) w m = elim m [
    | inl e ↦ inl (ap (λ (z : Way). record { place = z.table; block = Table s z.indexes }) e)
    | inr r ↦ inr (in_right (record { place = w.table; block = Table s w.indexes }) (records_below words s v.table (width v.indexes)) (blocks_of words s ways) (blocks_has_table s ways w r))
  ]

  blocks_has_record : (s : Space) (ways : List Way) (w : Way) (x : Named) → IsIn w ways → IsIn x (records_below words s w.table (width w.indexes)) → IsIn x (blocks_of words s ways)
  blocks_has_record s [] w x m k = absurd m
  blocks_has_record s (v ∷ ways) w x m k = elim m [
    | inl e ↦ inr (in_left x (records_below words s v.table (width v.indexes)) (blocks_of words s ways) (subst (λ (z : Way). IsIn x (records_below words s z.table (width z.indexes))) (sym e) k))
    | inr r ↦ inr (in_right x (records_below words s v.table (width v.indexes)) (blocks_of words s ways) (blocks_has_record s ways w x r k))
  ]

  to_has : (s : Space) (level n : ℕ) (x : Named) → level < n → IsIn x (blocks_of words s (ways_at words s level)) → IsIn x (blocks_to words s n)
  to_has s level zero x h m = absurd (omega arith)
  to_has s level (suc n) x h m = elim (cases_eq level n) [
    | inl e ↦ in_left x (blocks_of words s (ways_at words s n)) (blocks_to words s n) (subst (λ k. IsIn x (blocks_of words s (ways_at words s k))) e m)
    | inr ne ↦ in_right x (blocks_of words s (ways_at words s n)) (blocks_to words s n) (to_has s level n x (omega arith) m)
  ]

  in_space : (s : Space) (x : Named) → IsIn x (blocks_to words s 63) → IsIn x (blocks_in words)
  unfolding blocks_in
  in_space Objects x m = in_left x (blocks_to words Objects 63) (blocks_to words Actions 63) m
  in_space Actions x m = in_right x (blocks_to words Objects 63) (blocks_to words Actions 63) m

  table_found : (s : Space) (above : List ℕ) (t : ℕ) → Leads words s above t → IsIn (record { place = t; block = Table s above }) (blocks_in words)
  table_found s above t lead =
      in_space s (record { place = t; block = Table s above }) (to_has s (length above) 63 (record { place = t; block = Table s above }) (omega (arith, st.levels s above t lead))
      (blocks_has_table s (ways_at words s (length above)) (record { indexes = above; table = t }) (ways_has s above t lead)))

  by_record : (s : Space) (p : ℕ) (x : Named) → IsRecordOf words s p → IsIn x (record_named words s p) → IsIn x (blocks_in words)
  by_record s p x r m =
      let above : List ℕ = r.0 in
      let slot = r.3 in
      let word : get_or words (slot.0 + r.1) 0 ≡ 4 * p + 1 = ap (λ i. get_or words i 0) (sym slot.3) ∙ r.4.0 in
      let one : get_or words (slot.0 + r.1) 0 % 4 ≡ 1 = omega arith in
      let p_is : p ≡ get_or words (slot.0 + r.1) 0 / 4 = omega arith in
      in_space s x (to_has s (length r.0) 63 x (omega (arith, st.levels s r.0 slot.0 slot.1))
      (blocks_has_record s (ways_at words s (length r.0)) (record { indexes = r.0; table = slot.0 }) x (ways_has s r.0 slot.0 slot.1)
      (records_has s slot.0 r.1 (width r.0) x slot.2 one (subst (λ k. IsIn x (record_named words s k)) p_is m))))

  content_found : (r c v : ℕ) → cell_there words r ≡ v → v ≢ 0 → c ≡ v → IsIn (record { place = c; block = Content r (content_there words c) }) (content_named words Objects r v)
  content_found r c zero e filled at = absurd (filled refl)
  content_found r c (suc v) e filled at = inl (ap (λ (k : ℕ). record { place = k; block = Content r (content_there words k) }) (sym at))

  named_found : (p : ℕ) (b : Block) → IsNamed words p b → IsIn (record { place = p; block = b }) (blocks_in words)
  named_found p Free x = absurd x
  named_found p (Claimed ws) x = absurd x
  named_found p (Table s above) x = table_found s above p x
  named_found p (Record s d c) x =
      by_record s p (record { place = p; block = Record s d c }) x.0 (inl (λ i. record { place = p; block = Record s (sym x.1 i) (sym x.2 i) }))
  named_found p (Content r ws) x =
      by_record Objects r (record { place = p; block = Content r ws }) x.0.0.0
      (inr (subst (λ z. IsIn (record { place = p; block = Content r z }) (content_named words Objects r (cell_there words r))) (sym x.1) (content_found r p (cell_there words r) refl x.0.0.1 x.0.1)))

-- ---- the labelling that is found

in_at : (xs : List Named) (p : ℕ) (b : Block) → ((c : Block) → IsIn (record { place = p; block = c }) xs → c ≡ b) → IsIn (record { place = p; block = b }) xs → block_at xs p ≡ b
in_at [] p b one m = absurd m
in_at (x ∷ xs) p b one m = elim (cases_Bool (x.place == p)) [
  | inl hit ↦
      let at : x.place ≡ p = eqb-true x.place p hit in
      cond-true (x.place == p) x.block (block_at xs p) hit ∙ one x.block (inl (λ i. record { place = at i; block = x.block }))
  | inr miss ↦
      cond-false (x.place == p) x.block (block_at xs p) miss ∙ elim m [
        | inl e ↦ absurd (let hit : (x.place == p) ≡ true = eq-eqb x.place p (ap (λ (z : Named). z.place) e) in cc)
        | inr r ↦ in_at xs p b (λ c k. one c (inr k)) r
      ]
]

at_in : (xs : List Named) (p : ℕ) → (block_at xs p ≡ Free) ⊎ IsIn (record { place = p; block = block_at xs p }) xs
at_in [] p = inl refl
at_in (x ∷ xs) p = elim (cases_Bool (x.place == p)) [
  | inl hit ↦
      let at : x.place ≡ p = eqb-true x.place p hit in
      let is : x.block ≡ block_at (x ∷ xs) p = sym (cond-true (x.place == p) x.block (block_at xs p) hit) in
      inr (inl (λ i. record { place = at i; block = is i }))
  | inr miss ↦
      let is : block_at (x ∷ xs) p ≡ block_at xs p = cond-false (x.place == p) x.block (block_at xs p) miss in
      elim (at_in xs p) [
        | inl free ↦ inl (is ∙ free)
        | inr k ↦ inr (inr (subst (λ z. IsIn (record { place = p; block = z }) xs) (sym is) k))
      ]
]

under : (i total n m : ℕ) → total ≡ min n m → i < total → i < n
under i total n m e h = omega arith

pub there_read : (words : List ℕ) (p i : ℕ) → i < length (content_there words p) → get_or (content_there words p) i 0 ≡ get_or words (p + i) 0
unfolding content_there
there_read words p i h =
    get_or-take (length_told (get_or words p 0)) (drop p words) i 0
    (under i (length (take (length_told (get_or words p 0)) (drop p words))) (length_told (get_or words p 0)) (length (drop p words)) (length-take (length_told (get_or words p 0)) (drop p words)) h)
    ∙ get_or-drop p words i 0

content_some : (ws : List ℕ) → IsContent ws → 0 < length ws
content_some ws x = omega (arith, ap length x.is, length-content_words (content_places ws) (content_bytes ws))

module _ (words : List ℕ) (size : ℕ) (st : IsLawful words size) where
  -- a named block has words, and lies within
  lies : (p : ℕ) (b : Block) → IsNamed words p b → (0 < extent b) × (8 ≤ p) × (p + extent b ≤ length words)
  lies p Free x = absurd x
  lies p (Claimed ws) x = absurd x
  lies p (Table Objects []) x = (omega arith, omega (arith, x), omega (arith, x, st.headed.long))
  lies p (Table Actions []) x = (omega arith, omega (arith, x), omega (arith, x, st.headed.long))
  lies p (Table s (j ∷ above)) x = (omega arith, omega (arith, x.3.1), x.3.2)
  lies p (Record s d c) x = (omega arith, omega (arith, x.0.4.1), x.0.4.2)
  lies p (Content r ws) x =
      let z = st.contents r p x.0 in
      let same : length ws ≡ length (content_there words p) = ap length x.1 in
      let some = content_some (content_there words p) z.0 in
      (omega arith, omega (arith, z.1), omega (arith, z.2))

  one_name : (p : ℕ) (b c : Block) → IsNamed words p b → IsNamed words p c → c ≡ b
  one_name p b c hb hc =
      let lb = lies p b hb in
      let lc = lies p c hc in
      (st.apart p p p c b hc hb (omega arith) (omega (arith, lc.0)) (omega arith) (omega (arith, lb.0))).1

  pub named_there : (p : ℕ) (b : Block) → IsNamed words p b → heap_of words p ≡ b
  unfolding heap_of
  named_there p b x = in_at (blocks_in words) p b (λ c k. one_name p b c x (found_named words size st (record { place = p; block = c }) k)) (named_found words size st p b x)

  there_named : (p : ℕ) → (heap_of words p ≡ Free) ⊎ IsNamed words p (heap_of words p)
  unfolding heap_of
  there_named p = elim (at_in (blocks_in words) p) [
    | inl free ↦ inl free
    | inr k ↦ inr (found_named words size st (record { place = p; block = heap_of words p }) k)
  ]

  -- a block of the labelling that is not free is named
  pub is_named : (p : ℕ) (b : Block) → heap_of words p ≡ b → b ≢ Free → IsNamed words p b
  is_named p b h busy = elim (there_named p) [
    | inl free ↦ absurd (busy (sym h ∙ free))
    | inr x ↦ subst (IsNamed words p) h x
  ]

  none_there : (p : ℕ) → extent (heap_of words p) ≡ 0 → heap_of words p ≡ Free
  none_there p e = elim (there_named p) [
    | inl free ↦ free
    | inr x ↦ absurd (omega (arith, (lies p (heap_of words p) x).0))
  ]

  some_there : (p : ℕ) → 0 < extent (heap_of words p) → IsNamed words p (heap_of words p)
  some_there p h = elim (there_named p) [
    | inl free ↦ absurd (let e : extent (heap_of words p) ≡ 0 = ap extent free in omega arith)
    | inr x ↦ x
  ]

  found-shape : Shape (heap_of words) (length words)
  found-shape = record {
    apart = λ p q h1 h2. elim (cases_eq (extent (heap_of words q)) 0) [
      | inl none ↦ none
      | inr some ↦
          let np = some_there p (omega arith) in
          let nq = some_there q (omega arith) in
          let same = (st.apart p q q (heap_of words p) (heap_of words q) np nq (omega arith) h2 (omega arith) (omega arith)).0 in
          absurd (omega arith)
    ];
    low = λ p h. (lies p (heap_of words p) (some_there p h)).1;
    high = λ p h. (lies p (heap_of words p) (some_there p h)).2;
    solid = none_there;
  }

  filled_there : (n : ℕ) → IsFilledOf words Objects n → heap_of words n ≡ Record Objects (digest_there words n).bytes (cell_there words n)
  filled_there n x = named_there n (Record Objects (digest_there words n).bytes (cell_there words n)) (x.0, refl, refl)

  -- a record of the labelling is one that a slot names
  record_of : (p : ℕ) (s : Space) (d : List ℕ) (c : ℕ) → heap_of words p ≡ Record s d c → IsRecordOf words s p × (d ≡ (digest_there words p).bytes) × (c ≡ cell_there words p)
  record_of p s d c h = is_named p (Record s d c) h (λ e. cc)

  table_of : (p : ℕ) (s : Space) (above : List ℕ) → heap_of words p ≡ Table s above → Leads words s above p
  table_of p s above h = is_named p (Table s above) h (λ e. cc)

  content_of : (p r : ℕ) (ws : List ℕ) → heap_of words p ≡ Content r ws → IsContentOf words r p × (ws ≡ content_there words p)
  content_of p r ws h = is_named p (Content r ws) h (λ e. cc)

  held_named : AreWords words → (p : ℕ) (b : Block) → IsNamed words p b → (i : ℕ) → i < length (fixed b) → get_or words (p + i) 0 ≡ get_or (fixed b) i 0
  held_named all p Free x i h = absurd x
  held_named all p (Claimed ws) x i h = absurd x
  held_named all p (Table s above) x i h = absurd (omega arith)
  held_named all p (Record s d c) x i h =
      let own = there_words words p all in
      let fixed_is : words_of d ++ c ∷ [] ≡ get_or words p 0 ∷ get_or words (p + 1) 0 ∷ get_or words (p + 2) 0 ∷ get_or words (p + 3) 0 ∷ get_or words (p + 4) 0 ∷ [] =
      (λ k. words_of (x.1 k) ++ x.2 k ∷ []) ∙ ap (λ (ws : List ℕ). ws ++ cell_there words p ∷ []) own in
      five p i (get_or words) h ∙ sym (ap (λ (ws : List ℕ). get_or ws i 0) fixed_is)
    where
      five : (p i : ℕ) (read : ℕ → ℕ → ℕ) → i < 5 → read (p + i) 0 ≡ get_or (read p 0 ∷ read (p + 1) 0 ∷ read (p + 2) 0 ∷ read (p + 3) 0 ∷ read (p + 4) 0 ∷ []) i 0
      five p zero read h = ap (λ k. read k 0) (omega arith)
      five p (suc zero) read h = refl
      five p (suc (suc zero)) read h = refl
      five p (suc (suc (suc zero))) read h = refl
      five p (suc (suc (suc (suc zero)))) read h = refl
      five p (suc (suc (suc (suc (suc i))))) read h = absurd (omega arith)
  held_named all p (Content r ws) x i h =
      let z = st.contents r p x.0 in
      let size_is : length ws ≡ length (content_there words p) = ap length x.1 in
      sym (ap (λ (xs : List ℕ). get_or xs i 0) x.1 ∙ there_read words p i (omega arith))

  found-keeps : AreWords words → Keeps (heap_of words) (memory_of words) (length words)
  found-keeps all = record {
    held = λ p i h. elim (there_named p) [
      | inl free ↦ absurd (let e : length (fixed (heap_of words p)) ≡ 0 = ap (λ b. length (fixed b)) free in omega arith)
      | inr x ↦ held_named all p (heap_of words p) x i h
    ];
    clear = λ i h. get_or_past words i 0 h;
  }

  found-tries : Tries (heap_of words) (memory_of words)
  found-tries = record {
    roots = λ s. named_there (root s) (Table s []) refl;
    only = λ p s h. table_of p s [] h;
    levels = λ p s above h. st.levels s above p (table_of p s above h);
    slots = λ p s above j h hj.
        let slot : IsSlot words s above j (p + j) = (p, table_of p s above h, hj, refl) in
        elim (st.slots s above j (p + j) slot) [
          | inl e ↦ inl e
          | inr (inl r) ↦ inr (inl record {
            place = r.0;
            digest = (digest_there words r.0).bytes;
            cell = cell_there words r.0;
            is = r.1.0;
            here = named_there r.0 (Record s (digest_there words r.0).bytes (cell_there words r.0)) ((above, j, p + j, slot, r.1), refl, refl);
            leads = st.paths s above j (p + j) r.0 slot r.1;
          })
          | inr (inr t) ↦ inr (inr record { place = t.0; is = t.1.0; here = named_there t.0 (Table s (j ∷ above)) (p, table_of p s above h, hj, t.1) })
        ];
    tables = λ p s above j h.
        let lead = table_of p s (j ∷ above) h in
        record { table = lead.0; here = named_there lead.0 (Table s above) lead.1; within = lead.2; is = lead.3.0 };
    records = λ p s d c h.
        let x = record_of p s d c h in
        let r = x.0 in
        let leads : path (digest_there words p).bytes (suc (length r.0)) ≡ r.1 ∷ r.0 = st.paths s r.0 r.1 r.2 p r.3 r.4 in
        let index_is : index_of (digest_there words p).bytes (length r.0) ≡ r.1 = cc in
        let path_is : path (digest_there words p).bytes (length r.0) ≡ r.0 = cc in
        let d_index : index_of d (length r.0) ≡ r.1 = ap (λ z. index_of z (length r.0)) x.1 ∙ index_is in
        let d_path : path d (length r.0) ≡ r.0 = ap (λ z. path z (length r.0)) x.1 ∙ path_is in
        record {
          level = length r.0;
          table = r.3.0;
          here = named_there r.3.0 (Table s r.0) r.3.1 ∙ ap (Table s) (sym d_path);
          within = subst (λ k. k < width (path d (length r.0))) (sym d_index) (subst (λ z. r.1 < width z) (sym d_path) r.3.2);
          is = ap (λ k. get_or words (r.3.0 + k) 0) d_index ∙ ap (λ k. get_or words k 0) (sym r.3.3) ∙ r.4.0;
        };
    digests = λ p s d c h. subst IsDigest (sym (record_of p s d c h).1) (there_digest words p);
  }

  found-cells : Cells (heap_of words)
  found-cells = record {
    objects = λ p d c h filled.
        let x = record_of p Objects d c h in
        record { words = content_there words c; here = named_there c (Content p (content_there words c)) (((x.0, λ e. filled (x.2 ∙ e)), x.2), refl) };
    contents = λ p r ws h.
        let x = content_of p r ws h in
        record { digest = (digest_there words r).bytes; here = filled_there r x.0.0 ∙ ap (Record Objects (digest_there words r).bytes) (sym x.0.1) };
    actions = λ p d c h filled.
        let x = record_of p Actions d c h in
        let v = st.values p (x.0, λ e. filled (x.2 ∙ e)) in
        record {
          digest = (digest_there words c).bytes;
          content = cell_there words c;
          here = filled_there c (subst (IsFilledOf words Objects) (sym x.2) v);
          filled = (subst (IsFilledOf words Objects) (sym x.2) v).1;
        };
  }

  pub found_laid : AreWords words → Laid (heap_of words) (memory_of words) (length words)
  found_laid all = record { shape = found-shape; keeps = found-keeps all; tries = found-tries; cells = found-cells }

  -- ---- the contents

  refs_below : (c : ℕ) (ns : List ℕ) → AreReferences words c ns → AllBelow (heap_of words) c ns
  refs_below c [] all = tt
  refs_below c (n ∷ ns) all = (
    record { digest = (digest_there words n).bytes; content = cell_there words n; here = filled_there n all.0; filled = all.0.1; below = all.1 },
    refs_below c ns all.2,
  )

  refs_same : (c : ℕ) (ns : List ℕ) → AreReferences words c ns → digests_in (heap_of words) ns ≡ digests_there words ns
  refs_same c [] all = refl
  refs_same c (n ∷ ns) all =
      let one : digest_in (heap_of words n) ≡ digest_there words n = ap digest_in (filled_there n all.0) in
      let rest = refs_same c ns all.2 in
      λ i. one i ∷ rest i

  object_same : (r c : ℕ) → IsContentOf words r c → object_in (heap_of words) (content_there words c) ≡ object_there words c
  object_same r c x =
      let refs = refs_same c (content_places (content_there words c)) (st.references r c x) in
      λ i. record { refs = refs i; «data» = content_bytes (content_there words c) }

  pub found_contents : AreContents (heap_of words)
  found_contents p r d ws content owned =
      let x = content_of p r ws content in
      let y = record_of r Objects d p owned in
      let in_words : IsContentIn (heap_of words) p (digest_there words r).bytes (content_there words p) = record {
        content = (st.contents r p x.0).0;
        refs = refs_below p (content_places (content_there words p)) (st.references r p x.0);
        named = ap object_digest (object_same r p x.0) ∙ st.named r p x.0;
      } in
      subst (λ z. IsContentIn (heap_of words) p z ws) (sym y.1) (subst (IsContentIn (heap_of words) p (digest_there words r).bytes) (sym x.1) in_words)

  object_to : (d : Digest) (o : Object) → HasObject words d o → ObjectIn (heap_of words) d o
  object_to d o z = record {
    owner = z.owner;
    place = z.place;
    words = content_there words z.place;
    record_ = filled_there z.owner z.content.0 ∙ (λ i. Record Objects (z.digest i).bytes (sym z.content.1 i));
    content = named_there z.place (Content z.owner (content_there words z.place)) (z.content, refl);
    object = object_same z.owner z.place z.content ∙ z.object;
  }

  object_from : (d : Digest) (o : Object) → ObjectIn (heap_of words) d o → HasObject words d o
  object_from d o z =
      let x = content_of z.place z.owner z.words z.content in
      let y = record_of z.owner Objects d.bytes z.place z.record_ in
      record {
        owner = z.owner;
        place = z.place;
        content = x.0;
        digest = (λ i. record { bytes = sym y.1 i });
        object = sym (object_same z.owner z.place x.0) ∙ ap (object_in (heap_of words)) (sym x.1) ∙ z.object;
      }

  action_to : (k v : Digest) → HasAction words k v → ActionIn (heap_of words) k v
  action_to k v z = record {
    owner = z.owner;
    cell = cell_there words z.owner;
    record_ = named_there z.owner (Record Actions (digest_there words z.owner).bytes (cell_there words z.owner)) (z.filled.0, refl, refl) ∙ (λ i. Record Actions (z.digest i).bytes (cell_there words z.owner));
    filled = z.filled.1;
    value_in = ap digest_in (filled_there (cell_there words z.owner) (st.values z.owner z.filled)) ∙ z.value_there;
  }

  action_from : (k v : Digest) → ActionIn (heap_of words) k v → HasAction words k v
  action_from k v z =
      let y = record_of z.owner Actions k.bytes z.cell z.record_ in
      let filled : IsFilledOf words Actions z.owner = (y.0, λ e. z.filled (y.2 ∙ e)) in
      record {
        owner = z.owner;
        filled = filled;
        digest = (λ i. record { bytes = sym y.1 i });
        value_there = sym (ap digest_in (filled_there (cell_there words z.owner) (st.values z.owner filled))) ∙ ap (λ n. digest_in (heap_of words n)) (sym y.2) ∙ z.value_in;
      }

  pub lawful_certified : AreWords words → (state : State) → Names (heap_of words) state → IsCertified (heap_of words) words size state
  lawful_certified all state names = record { headed = st.headed; laid = found_laid all; contents = found_contents; names = names }

-- words that stand for a state have a certificate
pub stands_certified : (words : List ℕ) (size : ℕ) (state : State) → Stands words size state → AreWords words → IsCertified (heap_of words) words size state
stands_certified words size state st all =
    let lawful = stands_lawful words size state st in
    lawful_certified words size lawful all state
    (record {
      objects = λ d o. (λ h. object_to words size lawful d o ((st.objects d o).0 h), λ h. (st.objects d o).1 (object_from words size lawful d o h));
      cache = λ k v. (λ h. action_to words size lawful k v ((st.cache k v).0 h), λ h. (st.cache k v).1 (action_from words size lawful k v h));
    })
