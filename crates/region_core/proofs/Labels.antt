-- What a labelling says of the words alone: words with a certificate stand for the state that it names.
use Rattle.std.proofs.Common.{◌≡◌, ◌≢◌, ℕ, ◌+◌, ◌-◌, ◌*◌, ◌/◌, ◌%◌, ◌^◌, ◌<◌, ◌≤◌, List, [], ◌∷◌, length, get_or, take, drop, zero, suc, inl, inr, refl, sym, ap, ◌∙◌, subst, arith}
use Rattle.std.proofs.lemmas.Bool.{cases_eq, cases_lt}
use Rattle.std.proofs.lemmas.List.{ext_get_or, get_or-take, get_or-drop, length-take-le, length-drop, length-append}
use Rattle.cas_model.specs.declared.digest.Digest.{Digest}
use Rattle.cas_model.specs.declared.object.Object.{Object}
use Rattle.cas_model.specs.declared.place.Space.{Space}
use Rattle.cas_model.specs.declared.place.Space.TheVariants.{Objects, Actions}
use Rattle.cas_model.specs.Content.{IsContent, content_places, content_bytes, content_words, content_head, content_size, data_words, words_from}
use Rattle.cas_model.specs.Object.{object_digest}
use Rattle.cas_model.specs.State.{State}
use Rattle.cas_model.specs.Trie.{path, index_of}
use Rattle.region_core.specs.Heap.{Block, Free, Table, Record, Content, Claimed, extent, fixed, NamesRecord, Laid, memory_of}
use Rattle.region_core.specs.Leads.{Leads, IsSlot, IsRecordOf, IsFilledOf, IsContentOf, IsNamed, digest_there, digests_there, cell_there, content_there, object_there, length_told}
use Rattle.region_core.specs.Stands.{AreReferences, HasObject, HasAction, Stands}
use Rattle.region_core.specs.Certificate.{digest_in, digests_in, object_in, AllBelow, IsContentIn, AreContents, ObjectIn, ActionIn, IsCertified}
use Rattle.region_core.proofs.Heap.{same_block}
use Rattle.region_core.proofs.Finding.{table_there, record_there, named_at, own_words}
use Rattle.region_core.proofs.Reading.{digest_held-there}

-- what is no root lies in the arena
pub arena : (heap : ℕ → Block) (memory : ℕ → ℕ) (counter p : ℕ) → Laid heap memory counter → 0 < extent (heap p) → ((s : Space) → heap p ≢ Table s []) → 520 ≤ p
arena heap memory counter p laid some other =
    let o : extent (heap 8) ≡ 256 = ap extent (laid.tries.roots Objects) in
    let a : extent (heap 264) ≡ 256 = ap extent (laid.tries.roots Actions) in
    elim (cases_lt p 520) [
      | inr h ↦ h
      | inl h ↦
          elim (cases_eq p 8) [
            | inl e ↦ absurd (other Objects (ap heap e ∙ laid.tries.roots Objects))
            | inr n8 ↦
                elim (cases_eq p 264) [
                  | inl e ↦ absurd (other Actions (ap heap e ∙ laid.tries.roots Actions))
                  | inr n264 ↦
                      elim (cases_lt p 264) [
                        | inl below ↦ absurd (omega (arith, laid.shape.low p some, laid.shape.apart 8 p (omega (arith, laid.shape.low p some)) (omega arith)))
                        | inr above ↦ absurd (omega (arith, laid.shape.apart 264 p (omega arith) (omega arith)))
                      ]
                ]
          ]
    ]

pub label_leads : (heap : ℕ → Block) (words : List ℕ) (s : Space) (above : List ℕ) (u : ℕ) → Laid heap (memory_of words) (length words) → heap u ≡ Table s above → Leads words s above u
label_leads heap words s [] u laid h = laid.tries.only u s h
label_leads heap words s (j ∷ above) u laid h =
    let x = laid.tries.tables u s above j h in
    let size : extent (heap u) ≡ 16 = ap extent h in (
      x.table,
      label_leads heap words s above x.table laid x.here,
      x.within,
      (x.is, arena heap (memory_of words) (length words) u laid (omega arith) (λ t e. let clash : Table s (j ∷ above) ≡ Table t [] = sym h ∙ e in cc), omega (arith, laid.shape.high u (omega arith))),
    )

pub leads_label : (heap : ℕ → Block) (words : List ℕ) (s : Space) (above : List ℕ) (u : ℕ) → Laid heap (memory_of words) (length words) → Leads words s above u → heap u ≡ Table s above
leads_label heap words s [] u laid way = ap heap way ∙ laid.tries.roots s
leads_label heap words s (j ∷ above) u laid way =
    table_there heap (memory_of words) s above j way.0 u laid.tries (leads_label heap words s above way.0 laid way.1) way.2 way.3.0

-- how many words a data has
pub length-words_from : (n : ℕ) (bytes : List ℕ) → length (words_from n bytes) ≡ n
length-words_from zero bytes = refl
length-words_from (suc n) bytes = ap suc (length-words_from n _)

pub length-content_words : (places bytes : List ℕ) → length (content_words places bytes) ≡ content_size (length places) (length bytes)
length-content_words places bytes = omega (arith, length-append places (data_words bytes), length-words_from ((length bytes + 7) / 8) bytes)

-- the head of a content tells its length
pub told : (ws : List ℕ) → IsContent ws → length_told (get_or ws 0 0) ≡ length ws
told ws x =
    let refs : ℕ = length (content_places ws) in
    let len : ℕ = length (content_bytes ws) in
    let head : get_or ws 0 0 ≡ content_head (length (content_places ws)) (length (content_bytes ws)) = ap (λ xs. get_or xs 0 0) x.is in
    let high : get_or ws 0 0 / 2 ^ 32 ≡ length (content_places ws) = omega (arith, x.short) in
    let low : get_or ws 0 0 % 2 ^ 32 ≡ length (content_bytes ws) = omega (arith, x.short) in
    (λ i. content_size (high i) (low i)) ∙ sym (ap length x.is ∙ length-content_words (content_places ws) (content_bytes ws))

pub some_words : (ws : List ℕ) → IsContent ws → 0 < length ws
some_words ws x = omega (arith, ap length x.is, length-content_words (content_places ws) (content_bytes ws))

-- words that are held are there
pub held_there : (words ws : List ℕ) (c : ℕ) → c + length ws ≤ length words → ((i : ℕ) → i < length ws → get_or words (c + i) 0 ≡ get_or ws i 0) → take (length ws) (drop c words) ≡ ws
held_there words ws c fits held =
    let size : length (take (length ws) (drop c words)) ≡ length ws = length-take-le (length ws) (drop c words) (omega (arith, length-drop c words)) in
    ext_get_or 0 (take (length ws) (drop c words)) ws size (λ i hi.
    let h : i < length ws = omega arith in
    get_or-take (length ws) (drop c words) i 0 h ∙ get_or-drop c words i 0 ∙ held i h)

pub content_is : (words ws : List ℕ) (c : ℕ) → IsContent ws → c + length ws ≤ length words → ((i : ℕ) → i < length ws → get_or words (c + i) 0 ≡ get_or ws i 0) → content_there words c ≡ ws
unfolding content_there
content_is words ws c x fits held =
    let zero_there : c + 0 ≡ c = omega arith in
    let head : get_or words c 0 ≡ get_or ws 0 0 = ap (λ i. get_or words i 0) (sym zero_there) ∙ held 0 (some_words ws x) in
    ap (λ n. take n (drop c words)) (ap length_told head ∙ told ws x) ∙ held_there words ws c fits held

-- the slots and blocks of a labelling, as the words alone name them
module _ (heap : ℕ → Block) (words : List ℕ) (laid : Laid heap (memory_of words) (length words)) where
  named_record : (s : Space) (above : List ℕ) (j a p : ℕ) → IsSlot words s above j a → get_or words a 0 ≡ 4 * p + 1 → NamesRecord heap s (j ∷ above) (4 * p + 1)
  named_record s above j a p i word =
      record_there heap (memory_of words) s above j i.0 p laid.tries (leads_label heap words s above i.0 laid i.1) i.2 (ap (λ x. get_or words x 0) (sym i.3) ∙ word)

  in_arena : (p : ℕ) (s : Space) (d : List ℕ) (c : ℕ) → heap p ≡ Record s d c → (520 ≤ p) × (p + 5 ≤ length words)
  in_arena p s d c h =
      let size : extent (heap p) ≡ 5 = ap extent h in
      (arena heap (memory_of words) (length words) p laid (omega arith) (λ t e. let clash : Record s d c ≡ Table t [] = sym h ∙ e in cc), omega (arith, laid.shape.high p (omega arith)))

  pub digest_is : (p : ℕ) (s : Space) (d : List ℕ) (c : ℕ) → heap p ≡ Record s d c → digest_there words p ≡ record { bytes = d }
  digest_is p s d c h = digest_held-there words d p (laid.tries.digests p s d c h) (own_words heap words d s c p laid.keeps h)

  pub cell_is : (p : ℕ) (s : Space) (d : List ℕ) (c : ℕ) → heap p ≡ Record s d c → cell_there words p ≡ c
  cell_is p s d c h = laid.keeps.held p 4 (rw h (omega arith)) ∙ ap (λ b. get_or (fixed b) 4 0) h

  pub record_named : (p : ℕ) (s : Space) (d : List ℕ) (c : ℕ) → heap p ≡ Record s d c → IsRecordOf words s p
  record_named p s d c h =
      let x = laid.tries.records p s d c h in
      let fits = in_arena p s d c h in
      (path d x.level, index_of d x.level, x.table + index_of d x.level, (x.table, label_leads heap words s (path d x.level) x.table laid x.here, x.within, refl), (x.is, fits.0, fits.1))

  pub record_label : (p : ℕ) (s : Space) → IsRecordOf words s p → (d : List ℕ) × (c : ℕ) × (heap p ≡ Record s d c)
  record_label p s x =
      let n = named_record s x.0 x.1 x.2 p x.3 x.4.0 in
      (n.digest, n.cell, named_at heap s (x.1 ∷ x.0) p n)

  pub filled_label : (p : ℕ) (s : Space) → IsFilledOf words s p → (d : List ℕ) × (c : ℕ) × (heap p ≡ Record s d c) × (c ≢ 0)
  filled_label p s x =
      let n = record_label p s x.0 in
      (n.0, n.1, n.2, λ e. x.1 (cell_is p s n.0 n.1 n.2 ∙ e))

  pub filled_named : (p : ℕ) (s : Space) (d : List ℕ) (c : ℕ) → heap p ≡ Record s d c → c ≢ 0 → IsFilledOf words s p
  filled_named p s d c h filled = (record_named p s d c h, λ e. filled (sym (cell_is p s d c h) ∙ e))

  pub refs_are : (place : ℕ) (ns : List ℕ) → AllBelow heap place ns → digests_there words ns ≡ digests_in heap ns
  refs_are place [] all = refl
  refs_are place (n ∷ ns) all =
      let one : digest_there words n ≡ digest_in (heap n) = digest_is n Objects all.0.digest all.0.content all.0.here ∙ sym (ap digest_in all.0.here) in
      let rest = refs_are place ns all.1 in
      λ i. one i ∷ rest i

  references_are : (place : ℕ) (ns : List ℕ) → AllBelow heap place ns → AreReferences words place ns
  references_are place [] all = tt
  references_are place (n ∷ ns) all = (
    filled_named n Objects all.0.digest all.0.content all.0.here all.0.filled,
    (let e = cell_is n Objects all.0.digest all.0.content all.0.here in omega (arith, e, all.0.below)),
    references_are place ns all.1,
  )

-- a content, by its label
pub record ContentLabel (heap : ℕ → Block) (words : List ℕ) (owner place : ℕ) : Type 0 where
  pub digest : List ℕ
  pub own : List ℕ
  pub record_ : heap owner ≡ Record Objects digest place
  pub content : heap place ≡ Content owner own
  pub is : IsContentIn heap place digest own
  pub there : content_there words place ≡ own

module _ (heap : ℕ → Block) (words : List ℕ) (laid : Laid heap (memory_of words) (length words)) (contents : AreContents heap) where
  pub content_label : (r c : ℕ) → IsContentOf words r c → ContentLabel heap words r c
  content_label r c x =
      let n = filled_label heap words laid r Objects x.0 in
      let place : n.1 ≡ c = sym (cell_is heap words laid r Objects n.0 n.1 n.2) ∙ sym x.1 in
      let at : heap r ≡ Record Objects n.0 c = n.2 ∙ ap (Record Objects n.0) place in
      let z = laid.cells.objects r n.0 c at (λ e. n.3 (place ∙ e)) in
      let is = contents c r n.0 z.words z.here at in
      let size : extent (heap c) ≡ length z.words = ap extent z.here in
      record {
        digest = n.0;
        own = z.words;
        record_ = at;
        content = z.here;
        is = is;
        there = content_is words z.words c is.content (omega (arith, laid.shape.high c (omega (arith, some_words z.words is.content))))
            (λ i hi. laid.keeps.held c i (rw z.here hi) ∙ ap (λ b. get_or (fixed b) i 0) z.here);
      }

  pub content_named : (r c : ℕ) (d ws : List ℕ) → heap r ≡ Record Objects d c → heap c ≡ Content r ws → IsContentOf words r c
  content_named r c d ws at here =
      let size : extent (heap c) ≡ length ws = ap extent here in
      let some : 0 < c = omega (arith, laid.shape.low c (omega (arith, some_words ws (contents c r d ws here at).content))) in
      (filled_named heap words laid r Objects d c at (λ e. omega arith), sym (cell_is heap words laid r Objects d c at))

  pub named_label : (p : ℕ) (b : Block) → IsNamed words p b → heap p ≡ b
  named_label p Free x = absurd x
  named_label p (Claimed ws) x = absurd x
  named_label p (Table s above) x = leads_label heap words s above p laid x
  named_label p (Record s d c) x =
      let n = record_label heap words laid p s x.0 in
      let d_is : n.0 ≡ d = sym (ap (λ (z : Digest). z.bytes) (digest_is heap words laid p s n.0 n.1 n.2)) ∙ sym x.1 in
      let c_is : n.1 ≡ c = sym (cell_is heap words laid p s n.0 n.1 n.2) ∙ sym x.2 in
      n.2 ∙ (λ i. Record s (d_is i) (c_is i))
  named_label p (Content r ws) x =
      let n = content_label r p x.0 in
      n.content ∙ ap (Content r) (sym n.there ∙ sym x.1)

  pub object_is : (r c : ℕ) (x : ContentLabel heap words r c) → object_there words c ≡ object_in heap x.own
  object_is r c x =
      let refs : digests_there words (content_places (content_there words c)) ≡ digests_in heap (content_places x.own) =
      ap (λ ws. digests_there words (content_places ws)) x.there ∙ refs_are heap words laid c (content_places x.own) x.is.refs in
      let bytes : content_bytes (content_there words c) ≡ content_bytes x.own = ap content_bytes x.there in
      λ i. record { refs = refs i; «data» = bytes i }

  pub owner_of : (p c : ℕ) (ws d : List ℕ) → heap p ≡ Record Objects d c → heap c ≡ Content p ws → ContentLabel heap words p c
  owner_of p c ws d at here = content_label p c (content_named p c d ws at here)

-- words with a certificate stand for the state that it names
module _ (heap : ℕ → Block) (words : List ℕ) (size : ℕ) (state : State) (x : IsCertified heap words size state) where
  object_on : (d : Digest) (o : Object) → ObjectIn heap d o → HasObject words d o
  object_on d o z =
      let n = owner_of heap words x.laid x.contents z.owner z.place z.words d.bytes z.record_ z.content in
      let same : Content z.owner n.own ≡ Content z.owner z.words = sym n.content ∙ z.content in
      let own : n.own ≡ z.words = cc in
      record {
        owner = z.owner;
        place = z.place;
        content = content_named heap words x.laid x.contents z.owner z.place d.bytes z.words z.record_ z.content;
        digest = digest_is heap words x.laid z.owner Objects d.bytes z.place z.record_;
        object = object_is heap words x.laid x.contents z.owner z.place n ∙ ap (object_in heap) own ∙ z.object;
      }

  object_back : (d : Digest) (o : Object) → HasObject words d o → ObjectIn heap d o
  object_back d o z =
      let n = content_label heap words x.laid x.contents z.owner z.place z.content in
      let d_is : n.digest ≡ d.bytes = sym (ap (λ (y : Digest). y.bytes) (digest_is heap words x.laid z.owner Objects n.digest z.place n.record_)) ∙ ap (λ (y : Digest). y.bytes) z.digest in
      record {
        owner = z.owner;
        place = z.place;
        words = n.own;
        record_ = n.record_ ∙ ap (λ y. Record Objects y z.place) d_is;
        content = n.content;
        object = sym (object_is heap words x.laid x.contents z.owner z.place n) ∙ z.object;
      }

  action_on : (k v : Digest) → ActionIn heap k v → HasAction words k v
  action_on k v z =
      let y = x.laid.cells.actions z.owner k.bytes z.cell z.record_ z.filled in
      let cell = cell_is heap words x.laid z.owner Actions k.bytes z.cell z.record_ in
      record {
        owner = z.owner;
        filled = filled_named heap words x.laid z.owner Actions k.bytes z.cell z.record_ z.filled;
        digest = digest_is heap words x.laid z.owner Actions k.bytes z.cell z.record_;
        value_there = ap (digest_there words) cell ∙ digest_is heap words x.laid z.cell Objects y.digest y.content y.here ∙ sym (ap digest_in y.here) ∙ z.value_in;
      }

  action_back : (k v : Digest) → HasAction words k v → ActionIn heap k v
  action_back k v z =
      let n = filled_label heap words x.laid z.owner Actions z.filled in
      let k_is : n.0 ≡ k.bytes = sym (ap (λ (y : Digest). y.bytes) (digest_is heap words x.laid z.owner Actions n.0 n.1 n.2)) ∙ ap (λ (y : Digest). y.bytes) z.digest in
      let y = x.laid.cells.actions z.owner n.0 n.1 n.2 n.3 in
      let cell = cell_is heap words x.laid z.owner Actions n.0 n.1 n.2 in
      record {
        owner = z.owner;
        cell = n.1;
        record_ = n.2 ∙ ap (λ y. Record Actions y n.1) k_is;
        filled = n.3;
        value_in = ap digest_in y.here ∙ sym (digest_is heap words x.laid n.1 Objects y.digest y.content y.here) ∙ sym (ap (digest_there words) cell) ∙ z.value_there;
      }

  pub certified_stands : Stands words size state
  certified_stands = record {
    headed = x.headed;
    slots = λ s above j a i.
        elim (x.laid.tries.slots i.0 s above j (leads_label heap words s above i.0 x.laid i.1) i.2) [
          | inl e ↦ inl (ap (λ z. get_or words z 0) i.3 ∙ e)
          | inr (inl n) ↦ let r = in_arena heap words x.laid n.place s n.digest n.cell n.here in inr (inl (n.place, (ap (λ z. get_or words z 0) i.3 ∙ n.is, r.0, r.1)))
          | inr (inr n) ↦ let z = label_leads heap words s (j ∷ above) n.place x.laid n.here in inr (inr (n.place, (ap (λ z. get_or words z 0) i.3 ∙ n.is, z.3.1, z.3.2)))
        ];
    levels = λ s above t way. x.laid.tries.levels t s above (leads_label heap words s above t x.laid way);
    paths = λ s above j a p i n.
        let m = named_record heap words x.laid s above j a p i n.0 in
        let hm = named_at heap s (j ∷ above) p m in
        ap (λ (z : Digest). path z.bytes (suc (length above))) (digest_is heap words x.laid p s m.digest m.cell hm) ∙ m.leads;
    contents = λ r c i.
        let n = content_label heap words x.laid x.contents r c i in
        let there = n.there in
        let size : extent (heap c) ≡ length n.own = ap extent n.content in
        let some = some_words n.own n.is.content in (
          subst IsContent (sym there) n.is.content,
          arena heap (memory_of words) (length words) c x.laid (omega arith) (λ t e. let clash : Content r n.own ≡ Table t [] = sym n.content ∙ e in cc),
          omega (arith, ap length there, x.laid.shape.high c (omega arith)),
        );
    apart = λ p q w b c hb hc lp up lq uq.
        let bp = named_label heap words x.laid x.contents p b hb in
        let cq = named_label heap words x.laid x.contents q c hc in
        let bp_size : extent (heap p) ≡ extent b = ap extent bp in
        let cq_size : extent (heap q) ≡ extent c = ap extent cq in
        let same = same_block heap (length words) p q (w - p) (w - q) x.laid.shape (omega arith) (omega arith) (omega arith) in
        (same, sym bp ∙ ap heap same ∙ cq);
    references = λ r c i.
        let n = content_label heap words x.laid x.contents r c i in
        subst (λ ws. AreReferences words c (content_places ws)) (sym n.there) (references_are heap words x.laid c (content_places n.own) n.is.refs);
    named = λ r c i.
        let n = content_label heap words x.laid x.contents r c i in
        ap object_digest (object_is heap words x.laid x.contents r c n) ∙ n.is.named ∙ sym (digest_is heap words x.laid r Objects n.digest c n.record_);
    values = λ r i.
        let n = filled_label heap words x.laid r Actions i in
        let y = x.laid.cells.actions r n.0 n.1 n.2 n.3 in
        subst (IsFilledOf words Objects) (sym (cell_is heap words x.laid r Actions n.0 n.1 n.2)) (filled_named heap words x.laid n.1 Objects y.digest y.content y.here y.filled);
    objects = λ d o. (λ h. object_on d o ((x.names.objects d o).0 h), λ h. (x.names.objects d o).1 (object_back d o h));
    cache = λ k v. (λ h. action_on k v ((x.names.cache k v).0 h), λ h. (x.names.cache k v).1 (action_back k v h));
  }
