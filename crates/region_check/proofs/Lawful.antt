-- Words without a flaw are lawful.
use Rattle.std.proofs.Common.{◌≡◌, ◌≢◌, ◌⊎◌, ℕ, zero, suc, ◌+◌, ◌-◌, ◌*◌, ◌/◌, ◌%◌, ◌^◌, ◌<◌, ◌≤◌, List, [], ◌∷◌, ◌++◌, length, get_or, take, drop, min, true, false, inl, inr, refl, sym, ap, ◌∙◌, subst, arith}
use Rattle.std.proofs.lemmas.Bool.{cases_eq, cases_lt, cases_Bool}
use Rattle.std.proofs.lemmas.List.{get_or-take, get_or-drop, length-take-le, length-drop, length-take, get_or_past, drop_more, drop-drop}
use Rattle.cas_model.specs.declared.digest.Digest.{Digest}
use Rattle.cas_model.specs.declared.place.Space.{Space}
use Rattle.cas_model.specs.declared.place.Space.TheVariants.{Objects, Actions}
use Rattle.cas_model.specs.Content.{IsContent, content_places, content_bytes, content_head, data_words, words_from, bytes_of}
use Rattle.cas_model.specs.Object.{object_digest}
use Rattle.cas_model.specs.Tables.{same_digest}
use Rattle.cas_model.specs.Trie.{path}
use Rattle.cas_model.proofs.Maps.{same-is, same-self}
use Rattle.region_core.specs.Heap.{Block, Free, Table, Record, Content, Claimed, extent}
use Rattle.region_core.specs.Leads.{NamesTableAt, NamesRecordAt, Leads, IsSlot, IsRecordOf, IsFilledOf, IsContentOf, IsNamed, digest_there, cell_there, content_there, object_there, length_told}
use Rattle.region_core.specs.Stands.{AreWords, IsHeaded, IsLawfulSlot, AreReferences}
use Rattle.region_core.specs.Words.{root}
use Rattle.region_core.proofs.Founding.{IsLawful}
use Rattle.region_check.specs.Flaws.{Naming, BySlot, ByCell, LiesIn, IsShared, IsSlotOf, IsReached, IsTooLong, refs_told, bytes_told, end_told}
use Rattle.region_check.specs.Passes.{HasNoneBefore}
use Rattle.region_check.specs.Roles.{AreRoles}
use Rattle.region_check.proofs.Data.{refill}
use Rattle.region_check.proofs.Summing.{parts_of}
use Rattle.region_check.proofs.Unique.{one_naming, one_slot}

same_list : (xs ys : List ℕ) → (xs ≡ ys) ⊎ (xs ≢ ys)
same_list [] [] = inl refl
same_list [] (y ∷ ys) = inr (λ e. omega (arith, ap length e))
same_list (x ∷ xs) [] = inr (λ e. omega (arith, ap length e))
same_list (x ∷ xs) (y ∷ ys) = elim (cases_eq x y) [
  | inl head ↦ elim (same_list xs ys) [
    | inl tail ↦ inl (λ i. head i ∷ tail i)
    | inr differ ↦ inr (λ e. differ (let z : xs ≡ ys = cc in z))
  ]
  | inr differ ↦ inr (λ e. differ (let z : x ≡ y = cc in z))
]

take_none : {X : Type 0} (k : ℕ) → take {A = X} k [] ≡ []
take_none zero = refl
take_none (suc k) = refl

split_take : {X : Type 0} (xs : List X) (n m : ℕ) → take (n + m) xs ≡ take n xs ++ take m (drop n xs)
split_take xs zero m = ap (λ k. take k xs) (let e : 0 + m ≡ m = omega arith in e)
split_take [] (suc n) m = take_none (suc n + m) ∙ sym (take_none m)
split_take (x ∷ xs) (suc n) m = ap (λ k. take k (x ∷ xs)) (let e : suc n + m ≡ suc (n + m) = omega arith in e) ∙ ap (λ ys. x ∷ ys) (split_take xs n m)

there_long : (words : List ℕ) (p : ℕ) → p < length words → p + length_told (get_or words p 0) ≤ length words → length (content_there words p) ≡ length_told (get_or words p 0)
unfolding content_there
there_long words p inside end = length-take-le (length_told (get_or words p 0)) (drop p words) (rest (length (drop p words)) (length words) p (length_told (get_or words p 0)) (length-drop p words) end)
  where
    rest : (left total p n : ℕ) → left ≡ total - p → p + n ≤ total → n ≤ left
    rest left total p n is h = omega arith

module _ (words : List ℕ) (size : ℕ) (roles : List ℕ) (headed : IsHeaded words size) (none : HasNoneBefore words 13) (are : AreRoles words roles) (all : AreWords words) where
  -- ---- slots

  record_inside : (s : Space) (slot p : ℕ) → IsSlotOf words s slot → get_or words slot 0 ≡ 4 * p + 1 → NamesRecordAt words slot p
  record_inside s slot p at is = elim (cases_lt p 520) [
    | inl low ↦ absurd (none.none 4 slot (omega arith) (inl (s, at, inl (p, is, λ z. omega (arith, z.1, low)))))
    | inr ok ↦ elim (cases_lt (length words) (p + 5)) [
      | inl past ↦ absurd (none.none 4 slot (omega arith) (inl (s, at, inl (p, is, λ z. omega (arith, z.2, past)))))
      | inr fits ↦ (is, ok, fits)
    ]
  ]

  table_inside : (s : Space) (slot t : ℕ) → IsSlotOf words s slot → get_or words slot 0 ≡ 4 * t + 2 → NamesTableAt words slot t
  table_inside s slot t at is = elim (cases_lt t 520) [
    | inl low ↦ absurd (none.none 4 slot (omega arith) (inl (s, at, inr (t, is, λ z. omega (arith, z.1, low)))))
    | inr ok ↦ elim (cases_lt (length words) (t + 16)) [
      | inl past ↦ absurd (none.none 4 slot (omega arith) (inl (s, at, inr (t, is, λ z. omega (arith, z.2, past)))))
      | inr fits ↦ (is, ok, fits)
    ]
  ]

  lawful_slot : (s : Space) (above : List ℕ) (j slot : ℕ) → IsSlot words s above j slot → IsLawfulSlot words slot
  lawful_slot s above j slot x =
      let at : IsSlotOf words s slot = (above, j, x) in
      elim (cases_eq (get_or words slot 0) 0) [
        | inl e ↦ inl e
        | inr some ↦ elim (cases_eq (get_or words slot 0 % 4) 1) [
          | inl one ↦ inr (inl (get_or words slot 0 / 4, record_inside s slot (get_or words slot 0 / 4) at (omega arith)))
          | inr other ↦ elim (cases_eq (get_or words slot 0 % 4) 2) [
            | inl two ↦ inr (inr (get_or words slot 0 / 4, table_inside s slot (get_or words slot 0 / 4) at (omega arith)))
            | inr neither ↦ absurd (none.none 3 slot (omega arith) (s, at, record { some = some; no_record = λ p e. omega arith; no_table = λ t e. omega arith }))
          ]
        ]
      ]

  lawful_levels : (s : Space) (above : List ℕ) (t : ℕ) → Leads words s above t → length above ≤ 62
  lawful_levels s [] t lead = omega arith
  lawful_levels s (j ∷ above) t lead = elim (cases_eq (length above) 62) [
    | inl deep ↦ absurd (none.none 7 (lead.0 + j) (omega arith) (s, above, j, (lead.0, lead.1, lead.2, refl), inl (deep, (t, lead.3))))
    | inr less ↦ omega (arith, lawful_levels s above lead.0 lead.1)
  ]

  lawful_paths : (s : Space) (above : List ℕ) (j slot p : ℕ) → IsSlot words s above j slot → NamesRecordAt words slot p → path (digest_there words p).bytes (suc (length above)) ≡ j ∷ above
  lawful_paths s above j slot p x named = elim (same_list (path (digest_there words p).bytes (suc (length above))) (j ∷ above)) [
    | inl same ↦ same
    | inr differ ↦ absurd (none.none 7 slot (omega arith) (s, above, j, x, inr (p, named, inr (lawful_levels s above x.0 x.1, differ))))
  ]

  -- ---- contents

  reached : (r c : ℕ) → IsContentOf words r c → IsReached words r c
  reached r c x = elim (cases_lt c 520) [
    | inl low ↦ absurd (none.none 4 (r + 4) (omega arith) (inr (r, x.0.0, refl, (x.0.1, inl (omega (arith, x.1, low))))))
    | inr ok ↦ elim (cases_lt c (length words)) [
      | inl inside ↦ (x, ok, inside)
      | inr past ↦ absurd (none.none 4 (r + 4) (omega arith) (inr (r, x.0.0, refl, (x.0.1, inr (omega (arith, x.1, past))))))
    ]
  ]

  not_long : (r c : ℕ) → IsContentOf words r c → IsTooLong words c → ⊥
  not_long r c x bad = none.none 5 c (omega arith) (r, reached r c x, bad)

  lawful_content : (r c : ℕ) → IsContentOf words r c → IsContent (content_there words c) × (520 ≤ c) × (c + length (content_there words c) ≤ length words)
  unfolding content_there
  lawful_content r c x =
      let y = reached r c x in
      let refs : ℕ = get_or words c 0 / 2 ^ 32 in
      let count : ℕ = get_or words c 0 % 2 ^ 32 in
      let size : ℕ = (get_or words c 0 % 2 ^ 32 + 7) / 8 in
      let few : get_or words c 0 / 2 ^ 32 ≤ 65535 = elim (cases_lt 65535 (refs_told words c)) [ inl bad ↦ absurd (not_long r c x (inl bad)) | inr ok ↦ ok ] in
      let short : get_or words c 0 % 2 ^ 32 ≤ 16777215 = elim (cases_lt 16777215 (bytes_told words c)) [ inl bad ↦ absurd (not_long r c x (inr (inl bad))) | inr ok ↦ ok ] in
      let end : c + length_told (get_or words c 0) ≤ length words = elim (cases_lt (length words) (end_told words c)) [ inl bad ↦ absurd (not_long r c x (inr (inr bad))) | inr ok ↦ ok ] in
      let p = parts_of words c y.2 end in
      let told_is : length_told (get_or words c 0) ≡ suc (refs + size) = one_more (get_or words c 0 / 2 ^ 32) ((get_or words c 0 % 2 ^ 32 + 7) / 8) in
      let split : content_there words c ≡ get_or words c 0 ∷ take (refs + size) (drop (c + 1) words) = (λ i. take (told_is i) (drop_more words c 0 y.2 i)) in
      let within : c + suc (refs + size) ≤ length words = subst (λ n. c + n ≤ length words) told_is end in
      let data_is : List ℕ = take size (drop (c + 1 + refs) words) in
      let parts : take (refs + size) (drop (c + 1) words) ≡ take refs (drop (c + 1) words) ++ take size (drop (c + 1 + refs) words) = split_take (drop (c + 1) words) refs size ∙ ap (λ ws. take refs (drop (c + 1) words) ++ take size ws) (drop-drop refs (c + 1) words) in
      let long : length (take size (drop (c + 1 + refs) words)) ≡ size = length-take-le size (drop (c + 1 + refs) words) (room (length (drop (c + 1 + refs) words)) (length words) c refs size (length-drop (c + 1 + refs) words) within) in
      let at = λ (k : ℕ) (h : k < size). get_or-take size (drop (c + 1 + refs) words) k 0 h ∙ get_or-drop (c + 1 + refs) words k 0 in
      let small : (k : ℕ) → get_or (take size (drop (c + 1 + refs) words)) k 0 < 2 ^ 64 = λ k. elim (cases_lt k size) [
        | inl h ↦ subst (λ n. n < 2 ^ 64) (sym (at k h)) (all.small (c + 1 + refs + k))
        | inr h ↦ omega (arith, get_or_past (take size (drop (c + 1 + refs) words)) k 0 (omega (arith, long, h)))
      ] in
      let last : (k : ℕ) → length (take size (drop (c + 1 + refs) words)) ≡ suc k → count % 8 ≢ 0 → get_or (take size (drop (c + 1 + refs) words)) k 0 < 2 ^ (8 * (count % 8)) = λ k e odd. elim (cases_lt (get_or (take size (drop (c + 1 + refs) words)) k 0) (2 ^ (8 * (count % 8)))) [
        | inl fine ↦ fine
        | inr stray ↦
            let word : get_or (take size (drop (c + 1 + refs) words)) k 0 ≡ get_or words (c + 1 + refs + k) 0 = at k (omega (arith, e, long)) in
            absurd (none.none 8 (c + 1 + refs + k) (omega arith) (r, c, y, (last_place c refs size k (length_told (get_or words c 0)) told_is (sym long ∙ e), odd, subst (λ n. 2 ^ (8 * (count % 8)) ≤ n) word stray)))
      ] in
      let back : words_from (length (take size (drop (c + 1 + refs) words))) (take count (bytes_of (take size (drop (c + 1 + refs) words)))) ≡ take size (drop (c + 1 + refs) words) = refill (take size (drop (c + 1 + refs) words)) count long small last in
      let data_back : data_words (content_bytes (content_there words c)) ≡ take size (drop (c + 1 + refs) words) =
      (λ i. words_from ((p.bytes_long i + 7) / 8) (p.bytes_are i)) ∙ ap (λ n. words_from n (take count (bytes_of (take size (drop (c + 1 + refs) words))))) (sym long) ∙ back in
      let head_is : content_head (length (content_places (content_there words c))) (length (content_bytes (content_there words c))) ≡ get_or words c 0 = (λ i. content_head (p.refs_long i) (p.bytes_long i)) ∙ whole (get_or words c 0) in (
        record {
          is = split ∙ ap (λ ws. get_or words c 0 ∷ ws) parts ∙ sym (λ i. head_is i ∷ (p.refs_are i ++ data_back i));
          few_refs = omega (arith, p.refs_long, few);
          short = omega (arith, p.bytes_long, short);
        },
        y.1,
        omega (arith, end, take_long (length (drop c words)) (length_told (get_or words c 0)) (length (take (length_told (get_or words c 0)) (drop c words))) (length-take (length_told (get_or words c 0)) (drop c words))),
      )
    where
      one_more : (a b : ℕ) → 1 + a + b ≡ suc (a + b)
      one_more a b = omega arith

      whole : (n : ℕ) → n / 2 ^ 32 * 2 ^ 32 + n % 2 ^ 32 ≡ n
      whole n = omega arith

      room : (rest total p refs size : ℕ) → rest ≡ total - (p + 1 + refs) → p + suc (refs + size) ≤ total → size ≤ rest
      room rest total p refs size is h = omega arith

      last_place : (c refs size k told : ℕ) → told ≡ suc (refs + size) → size ≡ suc k → c + 1 + refs + k + 1 ≡ c + told
      last_place c refs size k told a b = omega arith

      take_long : (total n m : ℕ) → m ≡ min n total → m ≤ n
      take_long total n m h = omega arith

  -- ---- references and values

  -- whether a place is that of the record of a present object is told by the roles
  present : (n : ℕ) → IsFilledOf words Objects n ⊎ (IsFilledOf words Objects n → ⊥)
  present n = elim (cases_eq (get_or roles (n + 4) 0 / 2 % 2) 1) [
    | inl cell ↦
        let z = (are.cells (n + 4)).0 cell in
        let at : z.0 ≡ n = omega (arith, z.2) in
        elim (cases_eq (get_or words (n + 4) 0) 0) [
          | inl empty ↦ inr (λ x. x.1 empty)
          | inr filled ↦ inl (subst (IsRecordOf words Objects) at z.1, filled)
        ]
    | inr other ↦ inr (λ x. other ((are.cells (n + 4)).1 (n, x.0, refl)))
  ]

  lawful_reference : (r c i : ℕ) → IsContentOf words r c → i < refs_told words c → IsFilledOf words Objects (get_or words (c + 1 + i) 0) × (cell_there words (get_or words (c + 1 + i) 0) < c)
  lawful_reference r c i x h = (
    elim (present (get_or words (c + 1 + i) 0)) [
      | inl there ↦ there
      | inr absent ↦ absurd (none.none 9 (c + 1 + i) (omega arith) (r, c, reached r c x, (i, h, refl), absent))
    ],
    elim (cases_lt (cell_there words (get_or words (c + 1 + i) 0)) c) [
      | inl below ↦ below
      | inr above ↦ absurd (none.none 10 (c + 1 + i) (omega arith) (r, c, reached r c x, (i, h, refl), above))
    ],
  )

  all_references : (c : ℕ) (ns : List ℕ) → ((i : ℕ) → i < length ns → IsFilledOf words Objects (get_or ns i 0) × (cell_there words (get_or ns i 0) < c)) → AreReferences words c ns
  all_references c [] each = tt
  all_references c (n ∷ ns) each = let first = each 0 (omega arith) in (first.0, first.1, all_references c ns (λ i h. each (suc i) (omega arith)))

  lawful_references : (r c : ℕ) → IsContentOf words r c → AreReferences words c (content_places (content_there words c))
  lawful_references r c x =
      let y = reached r c x in
      let end : c + length_told (get_or words c 0) ≤ length words = elim (cases_lt (length words) (end_told words c)) [ inl bad ↦ absurd (not_long r c x (inr (inr bad))) | inr ok ↦ ok ] in
      let p = parts_of words c y.2 end in
      all_references c (content_places (content_there words c)) (λ i h.
      let below : i < get_or words c 0 / 2 ^ 32 = omega (arith, h, p.refs_long) in
      let is : get_or (content_places (content_there words c)) i 0 ≡ get_or words (c + 1 + i) 0 = ap (λ (ns : List ℕ). get_or ns i 0) p.refs_are ∙ get_or-take (get_or words c 0 / 2 ^ 32) (drop (c + 1) words) i 0 below ∙ get_or-drop (c + 1) words i 0 in
      subst (λ n. IsFilledOf words Objects n × (cell_there words n < c)) (sym is) (lawful_reference r c i x below))

  lawful_named : (r c : ℕ) → IsContentOf words r c → object_digest (object_there words c) ≡ digest_there words r
  lawful_named r c x = elim (cases_Bool (same_digest (object_digest (object_there words c)) (digest_there words r))) [
    | inl same ↦ same-is (object_digest (object_there words c)) (digest_there words r) same
    | inr differ ↦ absurd (none.none 11 r (omega arith) (digest_there words r, object_digest (object_there words c), (c, reached r c x, refl, refl, λ e. other (object_digest (object_there words c)) (digest_there words r) differ (sym e))))
  ]
    where
      other : (a b : Digest) → same_digest a b ≡ false → a ≡ b → ⊥
      other a b differ e = let clash : true ≡ false = sym (same-self a) ∙ ap (same_digest a) e ∙ differ in cc

  lawful_values : (r : ℕ) → IsFilledOf words Actions r → IsFilledOf words Objects (cell_there words r)
  lawful_values r x = elim (present (cell_there words r)) [
    | inl there ↦ there
    | inr absent ↦ absurd (none.none 12 (r + 4) (omega arith) (refl, (r, x.0, refl, x.1, absent)))
  ]

  -- ---- blocks apart

  apart_words : (w : ℕ) → IsShared words w → ⊥
  apart_words w bad = none.none 6 w (omega arith) bad

  -- the naming of a named block that is no root
  abbrev NamedBy : ℕ → Block → Naming → Type 0
  NamedBy p (Table s (j ∷ above)) x = (lead : Leads words s (j ∷ above) p) × (x ≡ BySlot (lead.0 + j))
  NamedBy p (Record s d c) x = (r : IsRecordOf words s p) × (x ≡ BySlot r.2) × (d ≡ (digest_there words p).bytes) × (c ≡ cell_there words p)
  NamedBy p (Content r ws) x = IsContentOf words r p × (x ≡ ByCell (r + 4)) × (ws ≡ content_there words p)
  NamedBy p b x = ⊥

  lies_by : (p w : ℕ) (b : Block) (x : Naming) → NamedBy p b x → p ≤ w → w < p + extent b → LiesIn words x w
  lies_by p w (Table s (j ∷ above)) x h low high =
      let lead = h.0 in
      subst (λ (y : Naming). LiesIn words y w) (sym h.1) (p, 16, ((s, (above, j, (lead.0, lead.1, lead.2, refl))), inr (lead.3, refl)), low, high)
  lies_by p w (Record s d c) x h low high =
      let r = h.0 in
      subst (λ (y : Naming). LiesIn words y w) (sym h.1) (p, 5, ((s, (r.0, r.1, r.3)), inl (r.4, refl)), low, high)
  lies_by p w (Content r ws) x h low high =
      let y = reached r p h.0 in
      let end : p + length_told (get_or words p 0) ≤ length words = elim (cases_lt (length words) (end_told words p)) [ inl bad ↦ absurd (not_long r p h.0 (inr (inr bad))) | inr ok ↦ ok ] in
      let long : length ws ≡ length_told (get_or words p 0) = ap length h.2 ∙ content_long p y.2 end in
      subst (λ (y : Naming). LiesIn words y w) (sym h.1) (p, length_told (get_or words p 0), (r, refl, y, refl), low, omega (arith, long, high))
    where
      content_long : (p : ℕ) → p < length words → p + length_told (get_or words p 0) ≤ length words → length (content_there words p) ≡ length_told (get_or words p 0)
      content_long p inside end = there_long words p inside end
  lies_by p w (Table s []) x h low high = absurd h
  lies_by p w Free x h low high = absurd h
  lies_by p w (Claimed ws) x h low high = absurd h

  -- two blocks with one naming are one
  same_named : (p q : ℕ) (b c : Block) (x : Naming) → NamedBy p b x → NamedBy q c x → (p ≡ q) × (b ≡ c)
  same_named p q (Table s (j ∷ above)) (Table t (i ∷ beyond)) x h k =
      let names : BySlot (h.0.0 + j) ≡ BySlot (k.0.0 + i) = sym h.1 ∙ k.1 in
      let slot : h.0.0 + j ≡ k.0.0 + i = cc in
      let one = one_slot words apart_words s t above beyond j i (h.0.0 + j) (h.0.0, h.0.1, h.0.2, refl) (k.0.0, k.0.1, k.0.2, slot) in
      let word : get_or words (h.0.0 + j) 0 ≡ get_or words (k.0.0 + i) 0 = ap (λ n. get_or words n 0) slot in
      let place : p ≡ q = omega (arith, word, h.0.3.0, k.0.3.0) in
      (place, λ m. Table (one.0 m) (one.2 m ∷ one.1 m))
  same_named p q (Table s (j ∷ above)) (Record t d e) x h k =
      let names : BySlot (h.0.0 + j) ≡ BySlot k.0.2 = sym h.1 ∙ k.1 in
      let slot : h.0.0 + j ≡ k.0.2 = cc in
      let word : get_or words (h.0.0 + j) 0 ≡ get_or words k.0.2 0 = ap (λ n. get_or words n 0) slot in
      absurd (omega (arith, word, h.0.3.0, k.0.4.0))
  same_named p q (Record s d e) (Table t (i ∷ beyond)) x h k =
      let names : BySlot h.0.2 ≡ BySlot (k.0.0 + i) = sym h.1 ∙ k.1 in
      let slot : h.0.2 ≡ k.0.0 + i = cc in
      let word : get_or words h.0.2 0 ≡ get_or words (k.0.0 + i) 0 = ap (λ n. get_or words n 0) slot in
      absurd (omega (arith, word, h.0.4.0, k.0.3.0))
  same_named p q (Record s d e) (Record t f g) x h k =
      let names : BySlot h.0.2 ≡ BySlot k.0.2 = sym h.1 ∙ k.1 in
      let slot : h.0.2 ≡ k.0.2 = cc in
      let one = one_slot words apart_words s t h.0.0 k.0.0 h.0.1 k.0.1 h.0.2 h.0.3 (subst (IsSlot words t k.0.0 k.0.1) (sym slot) k.0.3) in
      let word : get_or words h.0.2 0 ≡ get_or words k.0.2 0 = ap (λ n. get_or words n 0) slot in
      let place : p ≡ q = omega (arith, word, h.0.4.0, k.0.4.0) in
      let digest : d ≡ f = h.2 ∙ ap (λ n. (digest_there words n).bytes) place ∙ sym k.2 in
      let cell : e ≡ g = h.3 ∙ ap (cell_there words) place ∙ sym k.3 in
      (place, λ m. Record (one.0 m) (digest m) (cell m))
  same_named p q (Content r ws) (Content t vs) x h k =
      let names : ByCell (r + 4) ≡ ByCell (t + 4) = sym h.1 ∙ k.1 in
      let cell : r + 4 ≡ t + 4 = cc in
      let owner : r ≡ t = omega (arith, cell) in
      let place : p ≡ q = h.0.1 ∙ ap (cell_there words) owner ∙ sym k.0.1 in
      let own : ws ≡ vs = h.2 ∙ ap (content_there words) place ∙ sym k.2 in
      (place, λ m. Content (owner m) (own m))
  same_named p q (Content r ws) (Table t (i ∷ beyond)) x h k = absurd (let names : ByCell (r + 4) ≡ BySlot (k.0.0 + i) = sym h.1 ∙ k.1 in cc)
  same_named p q (Content r ws) (Record t f g) x h k = absurd (let names : ByCell (r + 4) ≡ BySlot k.0.2 = sym h.1 ∙ k.1 in cc)
  same_named p q (Table s (j ∷ above)) (Content t vs) x h k = absurd (let names : BySlot (h.0.0 + j) ≡ ByCell (t + 4) = sym h.1 ∙ k.1 in cc)
  same_named p q (Record s d e) (Content t vs) x h k = absurd (let names : BySlot h.0.2 ≡ ByCell (t + 4) = sym h.1 ∙ k.1 in cc)
  same_named p q (Table s []) c x h k = absurd h
  same_named p q Free c x h k = absurd h
  same_named p q (Claimed ws) c x h k = absurd h
  same_named p q b (Table s []) x h k = absurd k
  same_named p q b Free x h k = absurd k
  same_named p q b (Claimed ws) x h k = absurd k

  -- a named block is a root, or has a naming
  pub record IsRoot (p : ℕ) (b : Block) : Type 0 where
    pub space : Space
    pub place : p ≡ root space
    pub is : b ≡ Table space []

  root_or : (p : ℕ) (b : Block) → IsNamed words p b → IsRoot p b ⊎ ((x : Naming) × NamedBy p b x)
  root_or p Free h = absurd h
  root_or p (Claimed ws) h = absurd h
  root_or p (Table s []) h = inl (record { space = s; place = h; is = refl })
  root_or p (Table s (j ∷ above)) h = inr (BySlot (h.0 + j), (h, refl))
  root_or p (Record s d c) h = inr (BySlot h.0.2, (h.0, refl, h.1, h.2))
  root_or p (Content r ws) h = inr (ByCell (r + 4), (h.0, refl, h.1))

  -- a block with a naming lies in the arena
  high_named : (p : ℕ) (b : Block) (x : Naming) → NamedBy p b x → 520 ≤ p
  high_named p (Table s (j ∷ above)) x h = h.0.3.1
  high_named p (Record s d c) x h = h.0.4.1
  high_named p (Content r ws) x h = (reached r p h.0).1
  high_named p (Table s []) x h = absurd h
  high_named p Free x h = absurd h
  high_named p (Claimed ws) x h = absurd h

  root_range : (s : Space) → (8 ≤ root s) × (root s + 256 ≤ 520)
  root_range Objects = (omega arith, omega arith)
  root_range Actions = (omega arith, omega arith)

  root_extent : (p w : ℕ) (b : Block) (r : IsRoot p b) → p ≤ w → w < p + extent b → (root r.space ≤ w) × (w < root r.space + 256)
  root_extent p w b r low high = (omega (arith, r.place, low), omega (arith, high, r.place, ap extent r.is))

  roots_apart : (s t : Space) (w : ℕ) → root s ≤ w → w < root s + 256 → root t ≤ w → w < root t + 256 → s ≡ t
  roots_apart Objects Objects w a b c d = refl
  roots_apart Actions Actions w a b c d = refl
  roots_apart Objects Actions w a b c d = absurd (omega arith)
  roots_apart Actions Objects w a b c d = absurd (omega arith)

  lawful_apart : (p q w : ℕ) (b c : Block) → IsNamed words p b → IsNamed words q c → p ≤ w → w < p + extent b → q ≤ w → w < q + extent c → (p ≡ q) × (b ≡ c)
  lawful_apart p q w b c hb hc low high low2 high2 = elim (root_or p b hb) [
    | inl r ↦
        let rr = root_extent p w b r low high in
        elim (root_or q c hc) [
          | inl t ↦
              let tt2 = root_extent q w c t low2 high2 in
              let same : r.space ≡ t.space = roots_apart r.space t.space w rr.0 rr.1 tt2.0 tt2.1 in
              (r.place ∙ ap root same ∙ sym t.place, r.is ∙ ap (λ (s : Space). Table s []) same ∙ sym t.is)
          | inr y ↦ absurd (omega (arith, rr.1, (root_range r.space).1, high_named q c y.0 y.1, low2))
        ]
    | inr x ↦ elim (root_or q c hc) [
      | inl t ↦
          let tt2 = root_extent q w c t low2 high2 in
          absurd (omega (arith, tt2.1, (root_range t.space).1, high_named p b x.0 x.1, low))
      | inr y ↦
          let one : x.0 ≡ y.0 = one_naming words apart_words x.0 y.0 w (lies_by p w b x.0 x.1 low high) (lies_by q w c y.0 y.1 low2 high2) in
          same_named p q b c x.0 x.1 (subst (NamedBy q c) (sym one) y.1)
    ]
  ]

  pub words_lawful : IsLawful words size
  words_lawful = record {
    headed = headed;
    slots = lawful_slot;
    levels = lawful_levels;
    paths = lawful_paths;
    contents = lawful_content;
    apart = lawful_apart;
    references = lawful_references;
    named = lawful_named;
    values = lawful_values;
  }
