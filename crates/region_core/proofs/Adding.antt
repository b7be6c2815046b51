-- An object or a pair more in words that are being built.
use Rattle.std.proofs.Common.{◌≡◌, ◌≢◌, ℕ, ◌+◌, ◌*◌, ◌<◌, ◌≤◌, List, [], ◌∷◌, ◌++◌, length, get_or, set, length-set, ◌⊎◌, suc, inl, inr, refl, sym, ap, ◌∙◌, subst, arith, cond, true, Some}
use Rattle.std.specs.FinMap as fin
use Rattle.std.specs.List.{sum}
use Rattle.std.proofs.lemmas.Bool.{cases_eq, cases_Bool}
use Rattle.std.proofs.lemmas.List.{length-append}
use Rattle.cas_model.specs.declared.contents.Pair.{Pair}
use Rattle.cas_model.specs.declared.digest.Digest.{Digest}
use Rattle.cas_model.specs.declared.object.Object.{Object}
use Rattle.cas_model.specs.declared.place.Space.{Space}
use Rattle.cas_model.specs.declared.place.Space.TheVariants.{Objects, Actions}
use Rattle.cas_model.specs.Claims.{record_claims}
use Rattle.cas_model.specs.Content.{content_places, content_bytes, content_words, content_size}
use Rattle.cas_model.specs.Contents.{object_digests, pair_keys, contents_state, AllMembers, objects_map, actions_map}
use Rattle.cas_model.specs.Object.{object_digest}
use Rattle.cas_model.specs.State.{Member}
use Rattle.cas_model.specs.Tables.{same_digest}
use Rattle.cas_model.specs.Trie.{new_subtries}
use Rattle.cas_model.proofs.ContentLemmas.{content_places-words, content_bytes-words, content_words-IsContent}
use Rattle.cas_model.proofs.Maps.{get-put, same-is, same-self}
use Rattle.region_core.specs.Heap.{Block, Free, Table, Record, Content, Claimed, extent, Cells, Laid, memory_of}
use Rattle.region_core.specs.Certificate.{digest_in, digests_in, object_in, IsBelow, AllBelow, IsContentIn, AreContents, ObjectIn, ActionIn, Names}
use Rattle.region_core.specs.Holds.{IsRecord}
use Rattle.region_core.specs.Inserts.{IsData, HasJust, IsTight, Inserted, TablesStay}
use Rattle.region_core.specs.Builds.{Building, IsNextObject, IsNextPair, ArePlaces, objects_end, pairs_end}
use Rattle.region_core.proofs.Begins.{DataStays, objects_begin, pairs_begin, new_begins, content_behind, object_long, pair_long}
use Rattle.region_core.proofs.Claim.{free_at_counter}
use Rattle.region_core.proofs.Fill.{fill, fill_place}
use Rattle.region_core.proofs.Finding.{record_below}
use Rattle.region_core.proofs.Inserting.{put, placed_put, wrote_set, claimed_end}
use Rattle.region_core.proofs.Labels.{length-content_words}
use Rattle.region_core.proofs.Tightness.{tight_on}

below_stays : (heap heap' : ℕ → Block) (v : ℕ) (ns : List ℕ) → DataStays heap heap' → AllBelow heap v ns → AllBelow heap' v ns
below_stays heap heap' v [] on all = tt
below_stays heap heap' v (n ∷ ns) on all = (
  record { digest = all.0.digest; content = all.0.content; here = on n (Record Objects all.0.digest all.0.content) tt all.0.here; filled = all.0.filled; below = all.0.below },
  below_stays heap heap' v ns on all.1,
)

digests_stay : (heap heap' : ℕ → Block) (v : ℕ) (ns : List ℕ) → DataStays heap heap' → AllBelow heap v ns → digests_in heap' ns ≡ digests_in heap ns
digests_stay heap heap' v [] on all = refl
digests_stay heap heap' v (n ∷ ns) on all =
    let one : digest_in (heap' n) ≡ digest_in (heap n) = ap digest_in (on n (Record Objects all.0.digest all.0.content) tt all.0.here ∙ sym all.0.here) in
    let rest = digests_stay heap heap' v ns on all.1 in
    λ i. one i ∷ rest i

object_stays : (heap heap' : ℕ → Block) (v : ℕ) (ws : List ℕ) → DataStays heap heap' → AllBelow heap v (content_places ws) → object_in heap' ws ≡ object_in heap ws
object_stays heap heap' v ws on all =
    let refs = digests_stay heap heap' v (content_places ws) on all in
    λ i. record { refs = refs i; «data» = content_bytes ws }

content_stays : (heap heap' : ℕ → Block) (v : ℕ) (d ws : List ℕ) → DataStays heap heap' → IsContentIn heap v d ws → IsContentIn heap' v d ws
content_stays heap heap' v d ws on x = record {
  content = x.content;
  refs = below_stays heap heap' v (content_places ws) on x.refs;
  named = ap object_digest (object_stays heap heap' v ws on x.refs) ∙ x.named;
}

object_on : (heap heap' : ℕ → Block) (d : Digest) (o : Object) → DataStays heap heap' → AreContents heap → ObjectIn heap d o → ObjectIn heap' d o
object_on heap heap' d o on contents x = record {
  owner = x.owner;
  place = x.place;
  words = x.words;
  record_ = on x.owner (Record Objects d.bytes x.place) tt x.record_;
  content = on x.place (Content x.owner x.words) tt x.content;
  object = object_stays heap heap' x.place x.words on (contents x.place x.owner d.bytes x.words x.content x.record_).refs ∙ x.object;
}

action_on : (heap heap' : ℕ → Block) (k v : Digest) → DataStays heap heap' → Cells heap → ActionIn heap k v → ActionIn heap' k v
action_on heap heap' k v on cells x =
    let y = cells.actions x.owner k.bytes x.cell x.record_ x.filled in
    record {
      owner = x.owner;
      cell = x.cell;
      record_ = on x.owner (Record Actions k.bytes x.cell) tt x.record_;
      filled = x.filled;
      value_in = ap digest_in (on x.cell (Record Objects y.digest y.content) tt y.here ∙ sym y.here) ∙ x.value_in;
    }

-- a digest by its bytes
same_bytes : (a b : Digest) → a.bytes ≡ b.bytes → a ≡ b
same_bytes a b e = λ i. record { bytes = e i }

-- the content of a filled record lies below the counter
content_below : (heap : ℕ → Block) (memory : ℕ → ℕ) (counter p : ℕ) (d : List ℕ) (c : ℕ) → Laid heap memory counter → heap p ≡ Record Objects d c → c ≢ 0 → c < counter
content_below heap memory counter p d c laid here filled =
    let z = laid.cells.objects p d c here filled in
    elim (cases_eq (extent (heap c)) 0) [
      | inl none ↦ absurd (let clash : Content p z.words ≡ Free = sym z.here ∙ laid.shape.solid c none in cc)
      | inr some ↦ omega (arith, laid.shape.high c (omega arith))
    ]

grown_sum : (total all mid own first owner n size : ℕ) → total ≡ all → all ≡ mid + own → own ≡ size → mid ≡ owner + 5 + 16 * n → owner ≡ first → total ≡ first + 5 + 16 * n + size
grown_sum total all mid own first owner n size a b c d e = omega arith

-- ---- an object more

module _ (heap : ℕ → Block) (objects : List Object) (first mid : List ℕ) (o : Object) (owner : ℕ) (places : List ℕ)
    (b : Building heap first objects []) (next : IsNextObject objects o)
    (x : Inserted heap (object_digests objects) mid Objects (object_digest o) owner)
    (start : owner ≡ length first)
    (are : ArePlaces x.after places o.refs)
    (bytes : (i : ℕ) → get_or o.data i 0 < 256) where
  abbrev d : Digest
  d = object_digest o

  abbrev v : ℕ
  v = length mid

  abbrev xs : List ℕ
  xs = content_words places o.data

  abbrev h1 : ℕ → Block
  h1 = x.after

  abbrev h2 : ℕ → Block
  h2 = put x.after (length mid) (Claimed xs)

  abbrev h3 : ℕ → Block
  h3 = put h2 owner (Record Objects d.bytes v)

  abbrev h4 : ℕ → Block
  h4 = put h3 v (Content owner xs)

  fits : owner + 5 ≤ v
  fits = record_below x.after (length mid) Objects d.bytes 0 owner x.laid.shape x.here

  owner_v : owner ≢ v
  owner_v e = omega (arith, fits)

  free : x.after v ≡ Free
  free = free_at_counter x.after (length mid) x.laid.shape

  some : 0 < length xs
  some = omega (arith, length-content_words places o.data)

  at_v : h4 v ≡ Content owner xs
  at_v = (placed_put h3 v (Content owner xs)).now

  at_owner : h4 owner ≡ Record Objects d.bytes v
  at_owner = (placed_put h3 v (Content owner xs)).same owner owner_v ∙ (placed_put h2 owner (Record Objects d.bytes v)).now

  other : (p : ℕ) → p ≢ owner → p ≢ v → h4 p ≡ x.after p
  other p po pv = (placed_put h3 v (Content owner xs)).same p pv ∙ (placed_put h2 owner (Record Objects d.bytes v)).same p po ∙ (placed_put x.after v (Claimed xs)).same p pv

  -- old data stand elsewhere
  not_owner : (p : ℕ) (y : Block) → IsData y → heap p ≡ y → p ≢ owner
  not_owner p (Record s e c) data_ h at =
      let labels : Record s e c ≡ Record Objects d.bytes 0 = sym ((x.same p (Record s e c) tt).0 h) ∙ ap x.after at ∙ x.here in
      let zero_cell : c ≡ 0 = cc in
      b.filled p s e c h zero_cell
  not_owner p (Content r ws) data_ h at =
      let clash : Content r ws ≡ Record Objects d.bytes 0 = sym ((x.same p (Content r ws) tt).0 h) ∙ ap x.after at ∙ x.here in cc
  not_owner p Free data_ h at = absurd data_
  not_owner p (Table s π) data_ h at = absurd data_
  not_owner p (Claimed ws) data_ h at = absurd data_

  not_v : (p : ℕ) (y : Block) → IsData y → x.after p ≡ y → p ≢ v
  not_v p y data_ h at = subst IsData (sym h ∙ ap x.after at ∙ free) data_

  kept : DataStays heap h4
  kept p y data_ h =
      let there : x.after p ≡ y = (x.same p y data_).0 h in
      other p (not_owner p y data_ h) (not_v p y data_ there) ∙ there

  back : (p : ℕ) (y : Block) → IsData y → h4 p ≡ y → p ≢ owner → p ≢ v → heap p ≡ y
  back p y data_ h po pv = (x.same p y data_).1 (sym (other p po pv) ∙ h) po

  laid4 : Laid h4 (memory_of (set (mid ++ xs) (owner + 4) v)) (length (set (mid ++ xs) (owner + 4) v))
  laid4 =
      let long : length (mid ++ xs) ≡ length mid + length xs = length-append mid xs in
      let was : h2 owner ≡ Record Objects d.bytes 0 = (placed_put x.after v (Claimed xs)).same owner owner_v ∙ x.here in
      rw length-set (fill h2 h3 h4 (memory_of (mid ++ xs)) (memory_of (set (mid ++ xs) (owner + 4) v)) (length (mid ++ xs)) d.bytes owner v xs
      (claimed_end x.after mid xs x.laid some) was (placed_put x.after v (Claimed xs)).now
      (wrote_set (mid ++ xs) (owner + 4) v (omega (arith, fits)))
      (placed_put h2 owner (Record Objects d.bytes v)) (placed_put h3 v (Content owner xs)))

  -- the references' records, and what lies below
  is_below : (n : ℕ) (r : Digest) → Member r (object_digests objects) → IsRecord x.after Objects r.bytes n → IsBelow h4 v n
  is_below n r m at =
      let not : n ≢ owner = λ e.
      let labels : Record Objects r.bytes at.0 ≡ Record Objects d.bytes 0 = sym at.1 ∙ ap x.after e ∙ x.here in
      let same : r.bytes ≡ d.bytes = cc in
      next.fresh (subst (λ z. Member z (object_digests objects)) (same_bytes r d same) m) in
      let stood : heap n ≡ Record Objects r.bytes at.0 = (x.same n (Record Objects r.bytes at.0) tt).1 at.1 not in
      let filled : at.0 ≢ 0 = b.filled n Objects r.bytes at.0 stood in
      record {
        digest = r.bytes;
        content = at.0;
        here = kept n (Record Objects r.bytes at.0) tt stood;
        filled = filled;
        below = omega (arith, content_below heap (memory_of first) (length first) n r.bytes at.0 b.laid stood filled, fits);
      }

  all_below : (ns : List ℕ) (rs : List Digest) → AllMembers rs (object_digests objects) → ArePlaces x.after ns rs → AllBelow h4 v ns
  all_below [] [] m a = tt
  all_below [] (r ∷ rs) m a = absurd a
  all_below (n ∷ ns) [] m a = absurd a
  all_below (n ∷ ns) (r ∷ rs) m a = (is_below n r m.0 a.0, all_below ns rs m.1 a.1)

  all_digests : (ns : List ℕ) (rs : List Digest) → AllMembers rs (object_digests objects) → ArePlaces x.after ns rs → digests_in h4 ns ≡ rs
  all_digests [] [] m a = refl
  all_digests [] (r ∷ rs) m a = absurd a
  all_digests (n ∷ ns) [] m a = absurd a
  all_digests (n ∷ ns) (r ∷ rs) m a =
      let z = is_below n r m.0 a.0 in
      let not : n ≢ owner = λ e.
      let labels : Record Objects r.bytes a.0.0 ≡ Record Objects d.bytes 0 = sym a.0.1 ∙ ap x.after e ∙ x.here in
      let same : r.bytes ≡ d.bytes = cc in
      next.fresh (subst (λ z. Member z (object_digests objects)) (same_bytes r d same) m.0) in
      let there : h4 n ≡ Record Objects r.bytes a.0.0 = other n not (not_v n (Record Objects r.bytes a.0.0) tt a.0.1) ∙ a.0.1 in
      let one : digest_in (h4 n) ≡ r = ap digest_in there in
      let rest = all_digests ns rs m.1 a.1 in
      λ i. one i ∷ rest i

  same_length : (g : ℕ → Block) (ns : List ℕ) (rs : List Digest) → ArePlaces g ns rs → length ns ≡ length rs
  same_length g [] [] a = refl
  same_length g [] (r ∷ rs) a = absurd a
  same_length g (n ∷ ns) [] a = absurd a
  same_length g (n ∷ ns) (r ∷ rs) a = ap suc (same_length g ns rs a.1)

  places_are : content_places xs ≡ places
  places_are = content_places-words places o.data (omega (arith, next.short))

  bytes_are : content_bytes xs ≡ o.data
  bytes_are = content_bytes-words places o.data (omega (arith, next.short)) bytes

  object_is : object_in h4 xs ≡ o
  object_is =
      let refs : digests_in h4 (content_places xs) ≡ o.refs = ap (digests_in h4) places_are ∙ all_digests places o.refs next.refs are in
      let own : content_bytes xs ≡ o.data = bytes_are in
      λ i. record { refs = refs i; «data» = own i }

  new_content : IsContentIn h4 v d.bytes xs
  new_content = record {
    content = content_words-IsContent places o.data (omega (arith, same_length x.after places o.refs are, next.few)) next.short bytes;
    refs = subst (AllBelow h4 v) (sym places_are) (all_below places o.refs next.refs are);
    named = ap object_digest object_is;
  }

  contents4 : AreContents h4
  contents4 p r e ws content owned = elim (cases_eq p v) [
    | inl is ↦
        let labels : Content r ws ≡ Content owner xs = sym content ∙ ap h4 is ∙ at_v in
        let r_is : r ≡ owner = cc in
        let ws_is : ws ≡ xs = cc in
        let records : Record Objects e p ≡ Record Objects d.bytes v = sym owned ∙ ap h4 r_is ∙ at_owner in
        let e_is : e ≡ d.bytes = cc in
        subst (λ q. IsContentIn h4 q e ws) (sym is) (subst (λ q. IsContentIn h4 v q ws) (sym e_is) (subst (IsContentIn h4 v d.bytes) (sym ws_is) new_content))
    | inr not ↦
        let po : p ≢ owner = λ e0. let clash : Content r ws ≡ Record Objects d.bytes v = sym content ∙ ap h4 e0 ∙ at_owner in cc in
        let ro : r ≢ owner = λ e0. (let labels : Record Objects e p ≡ Record Objects d.bytes v = sym owned ∙ ap h4 e0 ∙ at_owner in let same : p ≡ v = cc in not same) in
        let rv : r ≢ v = λ e0. let clash : Record Objects e p ≡ Content owner xs = sym owned ∙ ap h4 e0 ∙ at_v in cc in
        content_stays heap h4 p e ws kept (b.contents p r e ws (back p (Content r ws) tt content po not) (back r (Record Objects e p) tt owned ro rv))
  ]

  filled4 : (p : ℕ) (s : Space) (e : List ℕ) (c : ℕ) → h4 p ≡ Record s e c → c ≢ 0
  filled4 p s e c h = elim (cases_eq p owner) [
    | inl is ↦
        let labels : Record s e c ≡ Record Objects d.bytes v = sym h ∙ ap h4 is ∙ at_owner in
        let c_is : c ≡ v = cc in
        λ z. omega (arith, fits)
    | inr po ↦ b.filled p s e c (back p (Record s e c) tt h po (λ e0. let clash : Record s e c ≡ Content owner xs = sym h ∙ ap h4 e0 ∙ at_v in cc))
  ]

  tight4 : IsTight h4
  tight4 = tight_on x.after h4
      (λ p s e c h. elim (cases_eq p owner) [
        | inl is ↦
            let labels : Record s e c ≡ Record Objects d.bytes 0 = sym h ∙ ap x.after is ∙ x.here in
            let s_is : Objects ≡ s = cc in
            let e_is : d.bytes ≡ e = cc in
            (v, ap h4 is ∙ at_owner ∙ (λ i. Record (s_is i) (e_is i) v))
        | inr po ↦ (c, other p po (not_v p (Record s e c) tt h) ∙ h)
      ])
      (λ p s π h. sym (other p (λ e0. let clash : Table s π ≡ Record Objects d.bytes v = sym h ∙ ap h4 e0 ∙ at_owner in cc) (λ e0. let clash : Table s π ≡ Content owner xs = sym h ∙ ap h4 e0 ∙ at_v in cc)) ∙ h)
      x.tight

  objects4 : HasJust h4 Objects (object_digests (o ∷ objects))
  objects4 = record {
    on = λ e m. elim m [
      | inl is ↦ (owner, (v, at_owner ∙ ap (λ (z : Digest). Record Objects z.bytes v) is))
      | inr there ↦ let z = b.objects_are.on e there in (z.0, (z.1.0, kept z.0 (Record Objects e.bytes z.1.0) tt z.1.1))
    ];
    back = λ e p c h. elim (cases_eq p owner) [
      | inl is ↦
          let labels : Record Objects e c ≡ Record Objects d.bytes v = sym h ∙ ap h4 is ∙ at_owner in
          let e_is : d.bytes ≡ e = cc in
          inl (λ i. record { bytes = e_is i })
      | inr po ↦ inr (b.objects_are.back e p c (back p (Record Objects e c) tt h po (λ e0. let clash : Record Objects e c ≡ Content owner xs = sym h ∙ ap h4 e0 ∙ at_v in cc)))
    ];
    distinct = (next.fresh, b.objects_are.distinct);
  }

  keys4 : HasJust h4 Actions (pair_keys [])
  keys4 = record {
    on = λ e m. let z = b.keys_are.on e m in (z.0, (z.1.0, kept z.0 (Record Actions e.bytes z.1.0) tt z.1.1));
    back = λ e p c h. b.keys_are.back e p c (back p (Record Actions e c) tt h
        (λ e0. let clash : Record Actions e c ≡ Record Objects d.bytes v = sym h ∙ ap h4 e0 ∙ at_owner in cc)
        (λ e0. let clash : Record Actions e c ≡ Content owner xs = sym h ∙ ap h4 e0 ∙ at_v in cc));
    distinct = b.keys_are.distinct;
  }

  new_object : ObjectIn h4 d o
  new_object = record { owner = owner; place = v; words = xs; record_ = at_owner; content = at_v; object = object_is }

  -- an object of the new labelling is the new one, or an old one
  object_cases : (q : Digest) (y : Object) → ObjectIn h4 q y → ((q ≡ d) × (y ≡ o)) ⊎ ObjectIn heap q y
  object_cases q y z = elim (cases_eq z.owner owner) [
    | inl is ↦
        let records : Record Objects q.bytes z.place ≡ Record Objects d.bytes v = sym z.record_ ∙ ap h4 is ∙ at_owner in
        let q_is : q.bytes ≡ d.bytes = cc in
        let place_is : z.place ≡ v = cc in
        let labels : Content z.owner z.words ≡ Content owner xs = sym z.content ∙ ap h4 place_is ∙ at_v in
        let words_are : z.words ≡ xs = cc in
        inl (same_bytes q d q_is, sym z.object ∙ ap (object_in h4) words_are ∙ object_is)
    | inr po ↦
        let ov : z.owner ≢ v = λ e0. let clash : Record Objects q.bytes z.place ≡ Content owner xs = sym z.record_ ∙ ap h4 e0 ∙ at_v in cc in
        let pv : z.place ≢ v = λ e0. (let labels : Content z.owner z.words ≡ Content owner xs = sym z.content ∙ ap h4 e0 ∙ at_v in let same : z.owner ≡ owner = cc in po same) in
        let pw : z.place ≢ owner = λ e0. let clash : Content z.owner z.words ≡ Record Objects d.bytes v = sym z.content ∙ ap h4 e0 ∙ at_owner in cc in
        let record_was = back z.owner (Record Objects q.bytes z.place) tt z.record_ po ov in
        let content_was = back z.place (Content z.owner z.words) tt z.content pw pv in
        inr record {
          owner = z.owner;
          place = z.place;
          words = z.words;
          record_ = record_was;
          content = content_was;
          object = sym (object_stays heap h4 z.place z.words kept (b.contents z.place z.owner q.bytes z.words content_was record_was).refs) ∙ z.object;
        }
  ]

  action_back : (k w : Digest) → ActionIn h4 k w → ActionIn heap k w
  action_back k w z =
      let was : heap z.owner ≡ Record Actions k.bytes z.cell = back z.owner (Record Actions k.bytes z.cell) tt z.record_
      (λ e0. let clash : Record Actions k.bytes z.cell ≡ Record Objects d.bytes v = sym z.record_ ∙ ap h4 e0 ∙ at_owner in cc)
      (λ e0. let clash : Record Actions k.bytes z.cell ≡ Content owner xs = sym z.record_ ∙ ap h4 e0 ∙ at_v in cc) in
      let y = b.laid.cells.actions z.owner k.bytes z.cell was z.filled in
      record {
        owner = z.owner;
        cell = z.cell;
        record_ = was;
        filled = z.filled;
        value_in = ap digest_in (y.here ∙ sym (kept z.cell (Record Objects y.digest y.content) tt y.here)) ∙ z.value_in;
      }

  -- the digest was not there
  absent : (q : Digest) (y : Object) → ObjectIn heap q y → q ≢ d
  absent q y z e = next.fresh (subst (λ u. Member u (object_digests objects)) e (b.objects_are.back q.bytes z.owner z.place z.record_))

  names4 : Names h4 (contents_state (o ∷ objects) [])
  names4 = record {
    objects = λ q y. (
      λ h. elim (cases_Bool (same_digest q d)) [
        | inl hit ↦
            let q_is : q ≡ d = same-is q d hit in
            let both : Some o ≡ Some y = sym (get-put (objects_map objects) d o q ∙ ap (λ c. cond c (Some o) (fin.get (objects_map objects) q)) hit) ∙ h in
            let y_is : o ≡ y = cc in
            subst (λ u. ObjectIn h4 u y) (sym q_is) (subst (ObjectIn h4 d) y_is new_object)
        | inr miss ↦
            let old : fin.get (objects_map objects) q ≡ Some y = sym (get-put (objects_map objects) d o q ∙ ap (λ c. cond c (Some o) (fin.get (objects_map objects) q)) miss) ∙ h in
            object_on heap h4 q y kept b.contents ((b.names.objects q y).0 old)
      ],
      λ z. get-put (objects_map objects) d o q ∙ elim (object_cases q y z) [
        | inl same ↦
            let hit : same_digest q d ≡ true = ap (λ u. same_digest u d) same.0 ∙ same-self d in
            ap (λ c. cond c (Some o) (fin.get (objects_map objects) q)) hit ∙ ap (λ u. Some u) (sym same.1)
        | inr old ↦ elim (cases_Bool (same_digest q d)) [
          | inl hit ↦ absurd (absent q y old (same-is q d hit))
          | inr miss ↦ ap (λ c. cond c (Some o) (fin.get (objects_map objects) q)) miss ∙ (b.names.objects q y).1 old
        ]
      ],
    );
    cache = λ k w. (λ h. action_on heap h4 k w kept b.laid.cells ((b.names.cache k w).0 h), λ z. (b.names.cache k w).1 (action_back k w z));
  }

  tables_on : TablesStay x.after h4
  tables_on p s π h =
      other p (λ e0. let clash : Table s π ≡ Record Objects d.bytes 0 = sym h ∙ ap x.after e0 ∙ x.here in cc)
      (λ e0. let clash : Table s π ≡ Free = sym h ∙ ap x.after e0 ∙ free in cc) ∙ h

  pub object_grown : length (set (mid ++ xs) (owner + 4) v) ≡ length first + 5 + 16 * new_subtries (object_digests objects) d 62 + content_size (length o.refs) (length o.data)
  object_grown = grown_sum (length (set (mid ++ xs) (owner + 4) v)) (length (mid ++ xs)) (length mid) (length xs) (length first) owner (new_subtries (object_digests objects) d 62) (content_size (length o.refs) (length o.data))
      (length-set (mid ++ xs) (owner + 4) v) (length-append mid xs) (length-content_words places o.data ∙ ap (λ n. content_size n (length o.data)) (same_length x.after places o.refs are)) x.grown start

  pub object_building : Building h4 (set (mid ++ xs) (owner + 4) v) (o ∷ objects) []
  object_building = record {
    laid = laid4;
    contents = contents4;
    filled = filled4;
    tight = tight4;
    objects_are = objects4;
    keys_are = keys4;
    names = names4;
    long = object_long (object_digests objects) o (length (set (mid ++ xs) (owner + 4) v)) (length first) (objects_end objects) b.long object_grown;
    objects_begin = (
      new_begins h4 x.after Objects (object_digests objects) d owner (objects_end objects) (objects_end objects + sum (record_claims (object_digests objects) (object_digest o))) v (start ∙ b.long)
          (content_behind (object_digests objects) d owner (objects_end objects) v (start ∙ b.long) x.grown) at_owner tables_on x.subtries,
      objects_begin heap h4 kept (λ p s π h. tables_on p s π (x.tables p s π h)) objects b.objects_begin,
    );
    pairs_begin = tt;
  }

-- ---- a pair more

module _ (heap : ℕ → Block) (objects : List Object) (pairs : List Pair) (first mid : List ℕ) (p0 : Pair) (owner value : ℕ)
    (b : Building heap first objects pairs) (next : IsNextPair objects pairs p0)
    (x : Inserted heap (pair_keys pairs) mid Actions p0.key owner)
    (start : owner ≡ length first)
    (found : IsRecord heap Objects p0.value.bytes value) where
  abbrev k0 : Digest
  k0 = p0.key

  abbrev g1 : ℕ → Block
  g1 = x.after

  abbrev g2 : ℕ → Block
  g2 = put x.after owner (Record Actions p0.key.bytes value)

  pair-at_owner : g2 owner ≡ Record Actions p0.key.bytes value
  pair-at_owner = (placed_put x.after owner (Record Actions p0.key.bytes value)).now

  pair-other : (p : ℕ) → p ≢ owner → g2 p ≡ x.after p
  pair-other p po = (placed_put x.after owner (Record Actions p0.key.bytes value)).same p po

  pair-not_owner : (p : ℕ) (y : Block) → IsData y → heap p ≡ y → p ≢ owner
  pair-not_owner p (Record s e c) data_ h at =
      let labels : Record s e c ≡ Record Actions p0.key.bytes 0 = sym ((x.same p (Record s e c) tt).0 h) ∙ ap x.after at ∙ x.here in
      let zero_cell : c ≡ 0 = cc in
      b.filled p s e c h zero_cell
  pair-not_owner p (Content r ws) data_ h at =
      let clash : Content r ws ≡ Record Actions p0.key.bytes 0 = sym ((x.same p (Content r ws) tt).0 h) ∙ ap x.after at ∙ x.here in cc
  pair-not_owner p Free data_ h at = absurd data_
  pair-not_owner p (Table s π) data_ h at = absurd data_
  pair-not_owner p (Claimed ws) data_ h at = absurd data_

  pair-kept : DataStays heap g2
  pair-kept p y data_ h = pair-other p (pair-not_owner p y data_ h) ∙ (x.same p y data_).0 h

  pair-back : (p : ℕ) (y : Block) → IsData y → g2 p ≡ y → p ≢ owner → heap p ≡ y
  pair-back p y data_ h po = (x.same p y data_).1 (sym (pair-other p po) ∙ h) po

  value_filled : found.0 ≢ 0
  value_filled = b.filled value Objects p0.value.bytes found.0 found.1

  value_some : value ≢ 0
  value_some e = omega (arith, b.laid.shape.low value (rw found.1 (omega arith)))

  value_there : g2 value ≡ Record Objects p0.value.bytes found.0
  value_there = pair-kept value (Record Objects p0.value.bytes found.0) tt found.1

  pair-laid : Laid g2 (memory_of (set mid (owner + 4) value)) (length (set mid (owner + 4) value))
  pair-laid =
      let fits : owner + 5 ≤ length mid = record_below x.after (length mid) Actions p0.key.bytes 0 owner x.laid.shape x.here in
      rw length-set (fill_place x.after g2 (memory_of mid) (memory_of (set mid (owner + 4) value)) (length mid) p0.key.bytes p0.value.bytes owner value found.0 x.laid x.here
      ((x.same value (Record Objects p0.value.bytes found.0) tt).0 found.1) value_filled
      (wrote_set mid (owner + 4) value (omega arith)) (placed_put x.after owner (Record Actions p0.key.bytes value)))

  pair-contents : AreContents g2
  pair-contents p r e ws content owned =
      let po : p ≢ owner = λ e0. let clash : Content r ws ≡ Record Actions p0.key.bytes value = sym content ∙ ap g2 e0 ∙ pair-at_owner in cc in
      let ro : r ≢ owner = λ e0. let clash : Record Objects e p ≡ Record Actions p0.key.bytes value = sym owned ∙ ap g2 e0 ∙ pair-at_owner in cc in
      content_stays heap g2 p e ws pair-kept (b.contents p r e ws (pair-back p (Content r ws) tt content po) (pair-back r (Record Objects e p) tt owned ro))

  pair-filled : (p : ℕ) (s : Space) (e : List ℕ) (c : ℕ) → g2 p ≡ Record s e c → c ≢ 0
  pair-filled p s e c h = elim (cases_eq p owner) [
    | inl is ↦
        let labels : Record s e c ≡ Record Actions p0.key.bytes value = sym h ∙ ap g2 is ∙ pair-at_owner in
        let c_is : c ≡ value = cc in
        λ z. value_some (sym c_is ∙ z)
    | inr po ↦ b.filled p s e c (pair-back p (Record s e c) tt h po)
  ]

  pair-tight : IsTight g2
  pair-tight = tight_on x.after g2
      (λ p s e c h. elim (cases_eq p owner) [
        | inl is ↦
            let labels : Record s e c ≡ Record Actions p0.key.bytes 0 = sym h ∙ ap x.after is ∙ x.here in
            let s_is : Actions ≡ s = cc in
            let e_is : p0.key.bytes ≡ e = cc in
            (value, ap g2 is ∙ pair-at_owner ∙ (λ i. Record (s_is i) (e_is i) value))
        | inr po ↦ (c, pair-other p po ∙ h)
      ])
      (λ p s π h. sym (pair-other p (λ e0. let clash : Table s π ≡ Record Actions p0.key.bytes value = sym h ∙ ap g2 e0 ∙ pair-at_owner in cc)) ∙ h)
      x.tight

  pair-objects : HasJust g2 Objects (object_digests objects)
  pair-objects = record {
    on = λ e m. let z = b.objects_are.on e m in (z.0, (z.1.0, pair-kept z.0 (Record Objects e.bytes z.1.0) tt z.1.1));
    back = λ e p c h. b.objects_are.back e p c (pair-back p (Record Objects e c) tt h
        (λ e0. let clash : Record Objects e c ≡ Record Actions p0.key.bytes value = sym h ∙ ap g2 e0 ∙ pair-at_owner in cc));
    distinct = b.objects_are.distinct;
  }

  pair-keys : HasJust g2 Actions (pair_keys (p0 ∷ pairs))
  pair-keys = record {
    on = λ e m. elim m [
      | inl is ↦ (owner, (value, pair-at_owner ∙ ap (λ (z : Digest). Record Actions z.bytes value) is))
      | inr there ↦ let z = b.keys_are.on e there in (z.0, (z.1.0, pair-kept z.0 (Record Actions e.bytes z.1.0) tt z.1.1))
    ];
    back = λ e p c h. elim (cases_eq p owner) [
      | inl is ↦
          let labels : Record Actions e c ≡ Record Actions p0.key.bytes value = sym h ∙ ap g2 is ∙ pair-at_owner in
          let e_is : p0.key.bytes ≡ e = cc in
          inl (λ i. record { bytes = e_is i })
      | inr po ↦ inr (b.keys_are.back e p c (pair-back p (Record Actions e c) tt h po))
    ];
    distinct = (next.fresh, b.keys_are.distinct);
  }

  pair-object_back : (q : Digest) (y : Object) → ObjectIn g2 q y → ObjectIn heap q y
  pair-object_back q y z =
      let record_was = pair-back z.owner (Record Objects q.bytes z.place) tt z.record_ (λ e0. let clash : Record Objects q.bytes z.place ≡ Record Actions p0.key.bytes value = sym z.record_ ∙ ap g2 e0 ∙ pair-at_owner in cc) in
      let content_was = pair-back z.place (Content z.owner z.words) tt z.content (λ e0. let clash : Content z.owner z.words ≡ Record Actions p0.key.bytes value = sym z.content ∙ ap g2 e0 ∙ pair-at_owner in cc) in
      record {
        owner = z.owner;
        place = z.place;
        words = z.words;
        record_ = record_was;
        content = content_was;
        object = sym (object_stays heap g2 z.place z.words pair-kept (b.contents z.place z.owner q.bytes z.words content_was record_was).refs) ∙ z.object;
      }

  new_action : ActionIn g2 p0.key p0.value
  new_action = record { owner = owner; cell = value; record_ = pair-at_owner; filled = value_some; value_in = ap digest_in value_there }

  action_cases : (k w : Digest) → ActionIn g2 k w → ((k ≡ p0.key) × (w ≡ p0.value)) ⊎ ActionIn heap k w
  action_cases k w z = elim (cases_eq z.owner owner) [
    | inl is ↦
        let labels : Record Actions k.bytes z.cell ≡ Record Actions p0.key.bytes value = sym z.record_ ∙ ap g2 is ∙ pair-at_owner in
        let k_is : k.bytes ≡ p0.key.bytes = cc in
        let cell_is : z.cell ≡ value = cc in
        inl (same_bytes k p0.key k_is, sym z.value_in ∙ ap (λ c. digest_in (g2 c)) cell_is ∙ ap digest_in value_there)
    | inr po ↦
        let was = pair-back z.owner (Record Actions k.bytes z.cell) tt z.record_ po in
        let y = b.laid.cells.actions z.owner k.bytes z.cell was z.filled in
        inr record {
          owner = z.owner;
          cell = z.cell;
          record_ = was;
          filled = z.filled;
          value_in = ap digest_in (y.here ∙ sym (pair-kept z.cell (Record Objects y.digest y.content) tt y.here)) ∙ z.value_in;
        }
  ]

  pair-absent : (k w : Digest) → ActionIn heap k w → k ≢ p0.key
  pair-absent k w z e = next.fresh (subst (λ u. Member u (pair_keys pairs)) e (b.keys_are.back k.bytes z.owner z.cell z.record_))

  pair-names : Names g2 (contents_state objects (p0 ∷ pairs))
  pair-names = record {
    objects = λ q y. (λ h. object_on heap g2 q y pair-kept b.contents ((b.names.objects q y).0 h), λ z. (b.names.objects q y).1 (pair-object_back q y z));
    cache = λ k w. (
      λ h. elim (cases_Bool (same_digest k p0.key)) [
        | inl hit ↦
            let k_is : k ≡ p0.key = same-is k p0.key hit in
            let both : Some p0.value ≡ Some w = sym (get-put (actions_map pairs) p0.key p0.value k ∙ ap (λ c. cond c (Some p0.value) (fin.get (actions_map pairs) k)) hit) ∙ h in
            let w_is : p0.value ≡ w = cc in
            subst (λ u. ActionIn g2 u w) (sym k_is) (subst (ActionIn g2 p0.key) w_is new_action)
        | inr miss ↦
            let old : fin.get (actions_map pairs) k ≡ Some w = sym (get-put (actions_map pairs) p0.key p0.value k ∙ ap (λ c. cond c (Some p0.value) (fin.get (actions_map pairs) k)) miss) ∙ h in
            action_on heap g2 k w pair-kept b.laid.cells ((b.names.cache k w).0 old)
      ],
      λ z. get-put (actions_map pairs) p0.key p0.value k ∙ elim (action_cases k w z) [
        | inl same ↦
            let hit : same_digest k p0.key ≡ true = ap (λ u. same_digest u p0.key) same.0 ∙ same-self p0.key in
            ap (λ c. cond c (Some p0.value) (fin.get (actions_map pairs) k)) hit ∙ ap (λ u. Some u) (sym same.1)
        | inr old ↦ elim (cases_Bool (same_digest k p0.key)) [
          | inl hit ↦ absurd (pair-absent k w old (same-is k p0.key hit))
          | inr miss ↦ ap (λ c. cond c (Some p0.value) (fin.get (actions_map pairs) k)) miss ∙ (b.names.cache k w).1 old
        ]
      ],
    );
  }

  pair-tables_on : TablesStay x.after g2
  pair-tables_on p s π h = pair-other p (λ e0. let clash : Table s π ≡ Record Actions p0.key.bytes 0 = sym h ∙ ap x.after e0 ∙ x.here in cc) ∙ h

  pub pair_grown : length (set mid (owner + 4) value) ≡ length first + 5 + 16 * new_subtries (pair_keys pairs) p0.key 62
  pair_grown = length-set mid (owner + 4) value ∙ x.grown ∙ ap (λ n. n + 5 + 16 * new_subtries (pair_keys pairs) p0.key 62) start

  pub pair_building : Building g2 (set mid (owner + 4) value) objects (p0 ∷ pairs)
  pair_building = record {
    laid = pair-laid;
    contents = pair-contents;
    filled = pair-filled;
    tight = pair-tight;
    objects_are = pair-objects;
    keys_are = pair-keys;
    names = pair-names;
    long = pair_long (pair_keys pairs) p0.key (length (set mid (owner + 4) value)) (length first) (pairs_end objects pairs) b.long pair_grown;
    objects_begin = objects_begin heap g2 pair-kept (λ p s π h. pair-tables_on p s π (x.tables p s π h)) objects b.objects_begin;
    pairs_begin = (
      (value, new_begins g2 x.after Actions (pair_keys pairs) p0.key owner (pairs_end objects pairs) value value (start ∙ b.long) refl pair-at_owner pair-tables_on x.subtries),
      pairs_begin heap g2 pair-kept (λ p s π h. pair-tables_on p s π (x.tables p s π h)) objects pairs b.pairs_begin,
    );
  }
