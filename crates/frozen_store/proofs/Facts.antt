-- What closed words are: their state is closed and storable, and their tables are a lawful start.
use Rattle.std.proofs.Common.{◌≡◌, ◌≢◌, ℕ, zero, suc, ◌+◌, ◌/◌, ◌%◌, ◌^◌, ◌<◌, ◌≤◌, List, [], ◌∷◌, ◌++◌, length, get_or, take, drop, Some, None, Bool, true, false, cond, refl, sym, ap, ◌∙◌, subst, inl, inr, arith}
use Rattle.std.specs.Prelude.{IsSome}
use Rattle.std.specs.Int.{w64, to_le_bytes}
use Rattle.std.specs.declared.option.Option.{Option}
use Rattle.std.specs.Option.{is_some}
use Rattle.std.specs.FinMap as fin
use Rattle.std.proofs.lemmas.Bool.{cases_eq, cases_Bool}
use Rattle.cas_model.specs.declared.digest.Digest.{Digest}
use Rattle.cas_model.specs.declared.object.Object.{Object}
use Rattle.cas_model.specs.declared.place.Place.{Place}
use Rattle.cas_model.specs.declared.place.Space.{Space}
use Rattle.cas_model.specs.declared.place.Space.TheVariants.{Objects, Actions}
use Rattle.cas_model.specs.Content.{content_places, content_bytes, bytes_of}
use Rattle.cas_model.specs.Object.{object_digest}
use Rattle.cas_model.specs.Primary.{primary, cell_under, cell_at, value_in, object_in as object_in_tables}
use Rattle.cas_model.specs.State.{State, Member, IsClosed, IsStorable, HasAll, AreBytes, has, digest_cmp, empty_state}
use Rattle.cas_model.specs.Tables.{Tables, place_of, same_digest, digest_at, empty_start}
use Rattle.cas_model.specs.Trie.{IsDigest}
use Rattle.std.specs.Cmp.Lexicographic.{texts_ties}
use Rattle.cas_model.proofs.Maps.{digest_total, same-maps, same-is, same-self, get-put, get-value, get-object}
use Rattle.region_core.specs.Certificate.{digest_in, digests_in, object_in, AllBelow, AreContents, Names, IsCertified}
use Rattle.region_core.specs.Found.{heap_of, tables_in}
use Rattle.region_core.specs.Builds.{empty_region}
use Rattle.region_core.specs.Leads.{IsContentOf, digest_there, object_there}
use Rattle.region_core.specs.Words.{words_of, HasWords}
use Rattle.region_core.specs.Goes.{Goes, row_in, cell_in, words_in, add_row, rows_below, add_cell, cells_below, add_content, contents_below, tables_of}
use Rattle.region_core.specs.Heap.{Block, Free, extent, fixed, Table, Record, Content, Claimed, Laid, memory_of}
use Rattle.region_core.specs.Holds.{Looked}
use Rattle.region_core.specs.Inserts.{Region}
use Rattle.region_core.specs.Stands.{AreWords, Stands}
use Rattle.region_core.proofs.Empty.{empty_heap}
use Rattle.region_core.proofs.Finding.{unique_record, record_below}
use Rattle.region_core.proofs.Finishing.{empty_head, empty_zeros, empty_long, empty_building}
use Rattle.region_core.proofs.Heap.{wide}
use Rattle.region_core.proofs.Labels.{certified_stands, digest_is, cell_is as cell_named, filled_named, record_named, leads_label}
use Rattle.region_core.proofs.Reading.{digest_held-there}
use Rattle.region_core.proofs.Tables.{cell_row, digest_row}
use Rattle.region_core.proofs.Founding.{stands_certified}
use Rattle.region_core.proofs.Going.{none_there}
use Rattle.region_core.proofs.Starts.{one_state, tables_in-go, tables_in-size, tables_in-counter, tables_in-lawful, tables_in-primary}
use Rattle.frozen_store.specs.Gathers.{IsIn, AreApart, IsFilledUnder, HasUnder, AreFilled}
use Rattle.frozen_store.specs.Reads.{HasContentAt}
use Rattle.frozen_store.specs.Seen.{FrozenSeen, IsFrozen, IsSeen, IsBoundAt, HasState, place_in}

-- ---- the state is closed and storable

digests_long : (heap : ℕ → Block) (ns : List ℕ) → length (digests_in heap ns) ≡ length ns
digests_long heap [] = refl
digests_long heap (n ∷ ns) = ap suc (digests_long heap ns)

module _ (heap : ℕ → Block) (memory : ℕ → ℕ) (counter : ℕ) (state : State) (laid : Laid heap memory counter) (contents : AreContents heap) (names : Names heap state) where
  -- a filled object's record is that of an object of the state
  pub object_present : (p : ℕ) (d : List ℕ) (c : ℕ) → heap p ≡ Record Objects d c → c ≢ 0 → (o : Object) × (fin.get state.objects (record { bytes = d }) ≡ Some o)
  object_present p d c h filled =
      let z = laid.cells.objects p d c h filled in
      (object_in heap z.words, (names.objects (record { bytes = d }) (object_in heap z.words)).1 record { owner = p; place = c; words = z.words; record_ = h; content = z.here; object = refl })

  pub action_present : (p : ℕ) (d : List ℕ) (c : ℕ) → heap p ≡ Record Actions d c → c ≢ 0 → (v : Digest) × (fin.get state.cache (record { bytes = d }) ≡ Some v)
  action_present p d c h filled = (digest_in (heap c), (names.cache (record { bytes = d }) (digest_in (heap c))).1 record { owner = p; cell = c; record_ = h; filled = filled; value_in = refl })

  has_object : (p : ℕ) (d : List ℕ) (c : ℕ) → heap p ≡ Record Objects d c → c ≢ 0 → has state (record { bytes = d }) ≡ true
  has_object p d c h filled = ap is_some (object_present p d c h filled).1

  all_there : (v : ℕ) (ns : List ℕ) → AllBelow heap v ns → HasAll state (digests_in heap ns)
  all_there v [] all = tt
  all_there v (n ∷ ns) all = (
    subst (λ (z : Digest). has state z ≡ true) (sym (ap digest_in all.0.here)) (has_object n all.0.digest all.0.content all.0.here all.0.filled),
    all_there v ns all.1,
  )

  pub closed : IsClosed state
  closed = record {
    objects = λ d o h.
        let z = (names.objects d o).0 h in
        let x = contents z.place z.owner d.bytes z.words z.content z.record_ in
        subst (λ (y : Object). HasAll state y.refs) z.object (all_there z.place (content_places z.words) x.refs);
    cache = λ k d h.
        let z = (names.cache k d).0 h in
        let y = laid.cells.actions z.owner k.bytes z.cell z.record_ z.filled in
        subst (λ (q : Digest). has state q ≡ true) (sym (ap digest_in y.here) ∙ z.value_in) (has_object z.cell y.digest y.content y.here y.filled);
  }

  pub storable : IsStorable state
  storable = record {
    named = λ d o h.
        let z = (names.objects d o).0 h in
        let x = contents z.place z.owner d.bytes z.words z.content z.record_ in
        ap object_digest (sym z.object) ∙ x.named;
    few_refs = λ d o h.
        let z = (names.objects d o).0 h in
        let x = contents z.place z.owner d.bytes z.words z.content z.record_ in
        subst (λ (y : Object). length y.refs ≤ 65535) z.object (subst (λ n. n ≤ 65535) (sym (digests_long heap (content_places z.words))) x.content.few_refs);
    short = λ d o h.
        let z = (names.objects d o).0 h in
        let x = contents z.place z.owner d.bytes z.words z.content z.record_ in
        subst (λ (y : Object). length y.data ≤ 16777215) z.object x.content.short;
    bytes = λ d o h.
        let z = (names.objects d o).0 h in
        subst (λ (y : Object). AreBytes y.data) z.object (content_are_bytes z.words);
  }
    where
      word_bytes : (w : ℕ) → AreBytes (to_le_bytes w64 w)
      word_bytes w = (omega arith, (omega arith, (omega arith, (omega arith, (omega arith, (omega arith, (omega arith, (omega arith, tt))))))))

      both_bytes : (xs ys : List ℕ) → AreBytes xs → AreBytes ys → AreBytes (xs ++ ys)
      both_bytes [] ys a b = b
      both_bytes (x ∷ xs) ys a b = (a.0, both_bytes xs ys a.1 b)

      all_bytes : (ws : List ℕ) → AreBytes (bytes_of ws)
      all_bytes [] = tt
      all_bytes (w ∷ ws) = both_bytes (to_le_bytes w64 w) (bytes_of ws) (word_bytes w) (all_bytes ws)

      some_bytes : (n : ℕ) (bs : List ℕ) → AreBytes bs → AreBytes (take n bs)
      some_bytes zero bs a = tt
      some_bytes (suc n) [] a = tt
      some_bytes (suc n) (b ∷ bs) a = (a.0, some_bytes n bs a.1)

      content_are_bytes : (ws : List ℕ) → AreBytes (content_bytes ws)
      content_are_bytes [] = tt
      content_are_bytes (h ∷ ws) = some_bytes (h % 2 ^ 32) (bytes_of (drop (h / 2 ^ 32) ws)) (all_bytes (drop (h / 2 ^ 32) ws))

-- ---- what a frozen store holds

module _ (words : List ℕ) (objects actions : ℕ) (x : IsFrozen words objects actions) where
  pub certified : IsCertified (heap_of words) words (get_or words 2 0) x.state
  certified = stands_certified words (get_or words 2 0) x.state x.stands x.words_are

  pub region : Region words
  region = record { heap = heap_of words; laid = certified.laid }

  pub go : Goes (heap_of words) (tables_in words)
  go = tables_in-go words (get_or words 2 0) x.state x.stands x.words_are

  pub state_is : primary (tables_in words) ≡ x.state
  state_is = tables_in-primary words (get_or words 2 0) x.state x.stands x.words_are

  pub size_is : (tables_in words).size ≡ get_or words 2 0
  size_is = tables_in-size words (get_or words 2 0) x.state x.stands x.words_are

  pub is_seen : IsSeen (record { words = words; tables = tables_in words })
  is_seen = record {
    tables = refl;
    stands = subst (λ n. Stands words n (primary (tables_in words))) (sym size_is) (subst (Stands words (get_or words 2 0)) (sym state_is) x.stands);
    start = tables_in-lawful words (get_or words 2 0) x.state x.stands x.words_are;
    counter = tables_in-counter words (get_or words 2 0) x.state x.stands x.words_are;
    words_are = x.words_are;
    closed = subst IsClosed (sym state_is) (closed (heap_of words) (memory_of words) (length words) x.state certified.laid certified.contents certified.names);
    storable = subst IsStorable (sym state_is) (storable (heap_of words) (memory_of words) (length words) x.state certified.laid certified.contents certified.names);
  }

  -- what a look finds is what the tables bind
  pub looked : (s : Space) (d : Digest) (result : Option Place) → Looked (heap_of words) s d.bytes result → result ≡ place_of (tables_in words).bound s d
  looked s d None h = sym (none_there (heap_of words) (tables_in words) s d go h)
  looked s d (Some p) h = sym ((go.places s d p).1 h)

-- ---- how many there are

has_none : {V : Type 0} (m : fin.FinMap digest_cmp V) → ((d : Digest) → IsSome (fin.get m d) → ⊥) → m ≡ fin.empty
has_none {V} m none = same-maps m fin.empty (λ q. at q (fin.get m q) refl ∙ sym (fin.get-empty digest_cmp q))
  where
    at : (q : Digest) (o : Option V) → fin.get m q ≡ o → fin.get m q ≡ None
    at q None e = e
    at q (Some v) e = absurd (none q (subst IsSome (sym e) refl))

abbrev pub AreOnce : List Digest → Type 0
AreOnce [] = Unit {0}
AreOnce (d ∷ ds) = (Member d ds → ⊥) × AreOnce ds

removed : {V : Type 0} (m : fin.FinMap digest_cmp V) (d q : Digest) → fin.get (fin.remove m d) q ≡ cond (same_digest q d) None (fin.get m q)
removed {V} m d q = fin.get-remove digest_total m d q ∙ ap (λ b. cond b None (fin.get m q)) (sym (texts_ties q.bytes d.bytes))

put_back : {V : Type 0} (m : fin.FinMap digest_cmp V) (d : Digest) (v : V) → fin.get m d ≡ Some v → fin.insert (fin.remove m d) d v ≡ m
put_back {V} m d v is = same-maps (fin.insert (fin.remove m d) d v) m (λ q. get-put (fin.remove m d) d v q ∙ ap (λ (o : Option V). cond (same_digest q d) (Some v) o) (removed m d q) ∙ at q (same_digest q d) refl)
  where
    at : (q : Digest) (b : Bool) → same_digest q d ≡ b → cond b (Some v) (cond b None (fin.get m q)) ≡ fin.get m q
    at q true e = sym (ap (fin.get m) (same-is q d e) ∙ is)
    at q false e = refl

len_less : {V : Type 0} (m : fin.FinMap digest_cmp V) (d : Digest) (o : Option V) → fin.get m d ≡ o → IsSome o → fin.len m ≡ suc (fin.len (fin.remove m d))
len_less m d None e some = absurd (let clash : false ≡ true = some in cc)
len_less m d (Some v) e some =
    let gone : fin.get (fin.remove m d) d ≡ None = removed m d d ∙ ap (λ b. cond b None (fin.get m d)) (same-self d) in
    ap fin.len (sym (put_back m d v e)) ∙ fin.len-insert digest_total (fin.remove m d) d v ∙ ap (λ b. cond b (fin.len (fin.remove m d)) (fin.len (fin.remove m d) + 1)) (ap is_some gone) ∙ one (fin.len (fin.remove m d))
  where
    one : (n : ℕ) → n + 1 ≡ suc n
    one n = omega arith

-- a map has as many entries as keys
pub len_is : {V : Type 0} (ds : List Digest) (m : fin.FinMap digest_cmp V) → AreOnce ds → ((d : Digest) → IsSome (fin.get m d) → Member d ds) → ((d : Digest) → Member d ds → IsSome (fin.get m d)) → fin.len m ≡ length ds
len_is {V} [] m once on back = ap fin.len (has_none m (λ d some. on d some)) ∙ fin.len-empty digest_cmp V
len_is (d ∷ ds) m once on back = len_less m d (fin.get m d) refl (back d (inl refl)) ∙ ap suc (len_is ds (fin.remove m d) once.1 left right)
  where
    left : (q : Digest) → IsSome (fin.get (fin.remove m d) q) → Member q ds
    left q h = elim (cases_Bool (same_digest q d)) [
      | inl hit ↦ absurd (let clash : false ≡ true = ap is_some (sym (removed m d q ∙ ap (λ b. cond b None (fin.get m q)) hit)) ∙ h in cc)
      | inr miss ↦ elim (on q (subst IsSome (removed m d q ∙ ap (λ b. cond b None (fin.get m q)) miss) h)) [
        | inl e ↦ absurd (let hit : same_digest q d ≡ true = ap (λ z. same_digest z d) (sym e) ∙ same-self d in cc)
        | inr there ↦ there
      ]
    ]

    right : (q : Digest) → Member q ds → IsSome (fin.get (fin.remove m d) q)
    right q h = elim (cases_Bool (same_digest q d)) [
      | inl hit ↦ absurd (once.0 (subst (λ z. Member z ds) (same-is q d hit) h))
      | inr miss ↦ subst IsSome (sym (removed m d q ∙ ap (λ b. cond b None (fin.get m q)) miss)) (back q (inr h))
    ]

-- ---- the filled records of a trie, as its digests

pub in_heap : (heap : ℕ → Block) (ps : List ℕ) (p : ℕ) → IsIn p ps → Member (digest_in (heap p)) (digests_in heap ps)
in_heap heap [] p m = absurd m
in_heap heap (x ∷ ps) p m = elim m [ inl e ↦ inl (ap (λ k. digest_in (heap k)) e) | inr r ↦ inr (in_heap heap ps p r) ]

pub from_heap : (heap : ℕ → Block) (ps : List ℕ) (d : Digest) → Member d (digests_in heap ps) → (p : ℕ) × IsIn p ps × (digest_in (heap p) ≡ d)
from_heap heap [] d m = absurd m
from_heap heap (x ∷ ps) d m = elim m [
  | inl e ↦ (x, inl refl, e)
  | inr r ↦ let z = from_heap heap ps d r in (z.0, inr z.1, z.2)
]

module _ (heap : ℕ → Block) (words : List ℕ) (size : ℕ) (state : State) (x : IsCertified heap words size state) where
  once : (s : Space) (ps : List ℕ) → ((p : ℕ) → IsIn p ps → IsFilledUnder heap s [] p) → AreApart ps → AreOnce (digests_in heap ps)
  once s [] only apart = tt
  once s (p ∷ ps) only apart = (
    λ m.
        let z = from_heap heap ps (digest_in (heap p)) m in
        let a = only p (inl refl) in
        let b = only z.0 (inr z.1) in
        let same : b.digest ≡ a.digest = ap (λ (y : Digest). y.bytes) (sym (ap digest_in b.here) ∙ z.2 ∙ ap digest_in a.here) in
        let at : p ≡ z.0 = unique_record heap (memory_of words) s a.digest a.cell b.cell p z.0 x.laid.tries a.here (b.here ∙ ap (λ d. Record s d b.cell) same) in
        apart.0 (subst (λ k. IsIn k ps) (sym at) z.1),
    once s ps (λ q m. only q (inr m)) apart.1,
  )

  content_filled : (r c : ℕ) (ws : List ℕ) → heap c ≡ Content r ws → c ≢ 0
  content_filled r c ws here e = elim (cases_eq (extent (heap c)) 0) [
    | inl none ↦ let clash : Content r ws ≡ Free = sym here ∙ x.laid.shape.solid c none in cc
    | inr some ↦ omega (arith, x.laid.shape.low c (omega arith))
  ]

  pub count_objects : (ps : List ℕ) → HasUnder heap Objects [] ps → length ps ≡ fin.len state.objects
  count_objects ps h =
      sym (len_is (digests_in heap ps) state.objects (once Objects ps h.only h.apart)
      (λ d some. of_option d (fin.get state.objects d) refl some)
      (λ d m.
      let z = from_heap heap ps d m in
      let a = h.only z.0 z.1 in
      let o = object_present heap (memory_of words) (length words) state x.laid x.contents x.names z.0 a.digest a.cell a.here a.filled in
      let d_is : record { bytes = a.digest } ≡ d = sym (ap digest_in a.here) ∙ z.2 in
      subst (λ q. IsSome (fin.get state.objects q)) d_is (subst IsSome (sym o.1) refl))
      ∙ digests_long heap ps)
    where
      of_option : (d : Digest) (o : Option Object) → fin.get state.objects d ≡ o → IsSome (fin.get state.objects d) → Member d (digests_in heap ps)
      of_option d None e some = absurd (let clash : false ≡ true = subst IsSome e some in cc)
      of_option d (Some o) e some =
          let z = (x.names.objects d o).0 e in
          let filled : z.place ≢ 0 = content_filled z.owner z.place z.words z.content in
          subst (λ q. Member q (digests_in heap ps)) (ap digest_in z.record_) (in_heap heap ps z.owner (h.has z.owner record { digest = d.bytes; cell = z.place; here = z.record_; filled = filled; begins = refl }))

  pub count_actions : (ps : List ℕ) → HasUnder heap Actions [] ps → length ps ≡ fin.len state.cache
  count_actions ps h =
      sym (len_is (digests_in heap ps) state.cache (once Actions ps h.only h.apart)
      (λ d some. of_option d (fin.get state.cache d) refl some)
      (λ d m.
      let z = from_heap heap ps d m in
      let a = h.only z.0 z.1 in
      let o = action_present heap (memory_of words) (length words) state x.laid x.contents x.names z.0 a.digest a.cell a.here a.filled in
      let d_is : record { bytes = a.digest } ≡ d = sym (ap digest_in a.here) ∙ z.2 in
      subst (λ q. IsSome (fin.get state.cache q)) d_is (subst IsSome (sym o.1) refl))
      ∙ digests_long heap ps)
    where
      of_option : (d : Digest) (o : Option Digest) → fin.get state.cache d ≡ o → IsSome (fin.get state.cache d) → Member d (digests_in heap ps)
      of_option d None e some = absurd (let clash : false ≡ true = subst IsSome e some in cc)
      of_option d (Some v) e some =
          let z = (x.names.cache d v).0 e in
          subst (λ q. Member q (digests_in heap ps)) (ap digest_in z.record_) (in_heap heap ps z.owner (h.has z.owner record { digest = d.bytes; cell = z.cell; here = z.record_; filled = z.filled; begins = refl }))

-- ---- what is made of words that stand for a state

pub frozen_of : (words objects actions : List ℕ) (state : State) → Stands words (get_or words 2 0) state → AreWords words → AreFilled words Objects objects → AreFilled words Actions actions → IsFrozen words (length objects) (length actions)
frozen_of words objects actions state st all os ps =
    let x = stands_certified words (get_or words 2 0) state st all in
    record {
      state = state;
      stands = st;
      words_are = all;
      objects_are = count_objects (heap_of words) words (get_or words 2 0) state x objects (os (heap_of words) x.laid);
      actions_are = count_actions (heap_of words) words (get_or words 2 0) state x actions (ps (heap_of words) x.laid);
    }

pub region_of : (seen words : List ℕ) → seen ≡ words → HasState words → AreWords seen → Region seen
region_of seen words e x all = record { heap = heap_of seen; laid = (stands_certified seen (get_or seen 2 0) x.state (subst (λ (ws : List ℕ). Stands ws (get_or ws 2 0) x.state) (sym e) x.stands) all).laid }

pub short_of : (seen words : List ℕ) → seen ≡ words → HasState words → length seen ≤ 67108864
short_of seen words e x = omega (arith, ap length e, x.stands.headed.within, x.stands.headed.most)

-- ---- cells and values

pub place_some : (n : ℕ) → n ≢ 0 → place_in n ≡ Some (record { at = n })
place_some zero h = absurd (h refl)
place_some (suc n) h = refl

value_some : (t : Tables) (n : ℕ) → n ≢ 0 → value_in t n ≡ Some (digest_at t.bound n)
value_some t zero h = absurd (h refl)
value_some t (suc n) h = refl

module _ (words : List ℕ) (objects actions : ℕ) (x : IsFrozen words objects actions) where
  held_cell : (s : Space) (d : Digest) (p : Place) → place_of (tables_in words).bound s d ≡ Some p → (c : ℕ) × (heap_of words p.at ≡ Record s d.bytes c) × (get_or words (p.at + 4) 0 ≡ c)
  held_cell s d p h =
      let z = ((go words objects actions x).places s d p).0 h in
      (z.0, z.1, (certified words objects actions x).laid.keeps.held p.at 4 (rw z.1 (omega arith)) ∙ ap (λ b. get_or (fixed b) 4 0) z.1)

  pub bound_inside : (s : Space) (d : Digest) (p : Place) → place_of (tables_in words).bound s d ≡ Some p → p.at + 4 < length words
  bound_inside s d p h =
      let z = held_cell s d p h in
      omega (arith, record_below (heap_of words) (length words) s d.bytes z.0 p.at (certified words objects actions x).laid.shape z.1)

  pub cell_is : (s : Space) (d : Digest) (p : Place) → place_of (tables_in words).bound s d ≡ Some p → cell_under (tables_in words) s d ≡ get_or words (p.at + 4) 0
  cell_is s d p h =
      let z = held_cell s d p h in
      ap (cell_at (tables_in words).filled) h ∙ cell_row (heap_of words) (tables_in words) (go words objects actions x) p.at s d.bytes z.0 z.1 ∙ sym z.2

  pub cell_none : (s : Space) (d : Digest) → place_of (tables_in words).bound s d ≡ None → cell_under (tables_in words) s d ≡ 0
  cell_none s d h = ap (cell_at (tables_in words).filled) h

  -- the value of a key is the digest of the record in its cell
  value_record : (k : Digest) (p : Place) → place_of (tables_in words).bound Actions k ≡ Some p → get_or words (p.at + 4) 0 ≢ 0
      → (d : List ℕ) × (c : ℕ) × (heap_of words (get_or words (p.at + 4) 0) ≡ Record Objects d c)
  value_record k p h filled =
      let z = held_cell Actions k p h in
      let y = (certified words objects actions x).laid.cells.actions p.at k.bytes z.0 z.1 (λ e. filled (z.2 ∙ e)) in
      (y.digest, y.content, ap (heap_of words) z.2 ∙ y.here)

  pub value_inside : (k : Digest) (p : Place) → place_of (tables_in words).bound Actions k ≡ Some p → get_or words (p.at + 4) 0 ≢ 0 → get_or words (p.at + 4) 0 + 4 < length words
  value_inside k p h filled =
      let z = value_record k p h filled in
      omega (arith, record_below (heap_of words) (length words) Objects z.0 z.1 (get_or words (p.at + 4) 0) (certified words objects actions x).laid.shape z.2)

  pub value_is : (k : Digest) (p : Place) (d : Digest) → place_of (tables_in words).bound Actions k ≡ Some p → get_or words (p.at + 4) 0 ≢ 0 → IsDigest d.bytes → HasWords words (get_or words (p.at + 4) 0) (words_of d.bytes)
      → fin.get (primary (tables_in words)).cache k ≡ Some d
  value_is k p d h filled digest has =
      let z = value_record k p h filled in
      let there : digest_there words (get_or words (p.at + 4) 0) ≡ d = digest_held-there words d.bytes (get_or words (p.at + 4) 0) digest has in
      let label : digest_there words (get_or words (p.at + 4) 0) ≡ record { bytes = z.0 } = digest_is (heap_of words) words (certified words objects actions x).laid (get_or words (p.at + 4) 0) Objects z.0 z.1 z.2 in
      let row : digest_at (tables_in words).bound (get_or words (p.at + 4) 0) ≡ record { bytes = z.0 } = digest_row (heap_of words) (tables_in words) (go words objects actions x) (get_or words (p.at + 4) 0) Objects z.0 z.1 z.2 ∙ ap digest_in z.2 in
      get-value (tables_in words) k ∙ ap (value_in (tables_in words)) (cell_is Actions k p h) ∙ value_some (tables_in words) (get_or words (p.at + 4) 0) filled
      ∙ ap (λ q. Some q) (row ∙ sym label ∙ there)

-- ---- words in which nothing is stored

empty_counter : (size : ℕ) → get_or (empty_region size) 3 0 ≡ 520
unfolding empty_region
empty_counter size = refl

empty_stands : (size : ℕ) → 4096 ≤ size → size ≤ 67108864 → Stands (empty_region size) size empty_state
empty_stands size least most =
    let first = empty_head size in
    let b = empty_building size in
    let long = empty_long size in
    certified_stands empty_heap (empty_region size) size empty_state record {
      headed = record {
        magic = first.0;
        version = first.1;
        size_there = first.2;
        counter = (empty_counter size) ∙ sym long;
        zeros = first.3;
        least = least;
        most = most;
        long = omega (arith, long);
        within = omega (arith, long);
      };
      laid = b.laid;
      contents = b.contents;
      names = b.names;
    }

no_record_there : (size q : ℕ) (s : Space) (d : List ℕ) (c : ℕ) → Laid (heap_of (empty_region size)) (memory_of (empty_region size)) (length (empty_region size)) → heap_of (empty_region size) q ≡ Record s d c → ⊥
no_record_there size q s d c laid h =
    let r = record_named (heap_of (empty_region size)) (empty_region size) laid q s d c h in
    let slot = r.3 in
    omega (arith, r.4.0, empty_zeros size r.2 (omega (arith, slot.3, laid.shape.low slot.0 (rw (leads_label (heap_of (empty_region size)) (empty_region size) s r.0 slot.0 laid slot.1) (omega (arith, wide r.0))))))

no_rows : (heap : ℕ → Block) (n : ℕ) → ((p : ℕ) → row_in p (heap p) ≡ None) → rows_below heap n ≡ []
no_rows heap zero none = refl
no_rows heap (suc n) none = ap (λ r. add_row r (rows_below heap n)) (none n) ∙ no_rows heap n none

no_cells : (heap : ℕ → Block) (n : ℕ) → ((p : ℕ) → cell_in (heap p) ≡ 0) → cells_below heap n ≡ []
no_cells heap zero none = refl
no_cells heap (suc n) none = ap (λ c. add_cell n c (cells_below heap n)) (none n) ∙ no_cells heap n none

no_contents : (heap : ℕ → Block) (n : ℕ) → ((p : ℕ) → words_in (heap p) ≡ None) → contents_below heap n ≡ []
no_contents heap zero none = refl
no_contents heap (suc n) none = ap (λ ws. add_content n ws (contents_below heap n)) (none n) ∙ no_contents heap n none

-- a labelling in which no digest has a record has no row, cell or content
plain : (heap : ℕ → Block) (memory : ℕ → ℕ) (counter p : ℕ) → Laid heap memory counter → ((q : ℕ) (s : Space) (d : List ℕ) (c : ℕ) → heap q ≢ Record s d c) → (b : Block) → heap p ≡ b → (row_in p b ≡ None) × (cell_in b ≡ 0) × (words_in b ≡ None)
plain heap memory counter p laid none Free h = (refl, refl, refl)
plain heap memory counter p laid none (Table s π) h = (refl, refl, refl)
plain heap memory counter p laid none (Claimed ws) h = (refl, refl, refl)
plain heap memory counter p laid none (Record s d c) h = absurd (none p s d c h)
plain heap memory counter p laid none (Content r ws) h = let z = laid.cells.contents p r ws h in absurd (none r Objects z.digest p z.here)

pub empty_state_of : (size : ℕ) (words : List ℕ) → 4096 ≤ size → size ≤ 67108864 → words ≡ empty_region size → HasState words
empty_state_of size words least most e = subst HasState (sym e) record { state = empty_state; stands = subst (λ n. Stands (empty_region size) n empty_state) (sym (empty_head size).2) (empty_stands size least most) }

pub empty_tables : (size : ℕ) → 4096 ≤ size → size ≤ 67108864 → AreWords (empty_region size) → tables_in (empty_region size) ≡ empty_start size
unfolding tables_in tables_of
empty_tables size least most all =
    let st = empty_stands size least most in
    let x = stands_certified (empty_region size) size empty_state st all in
    let none : (q : ℕ) (s : Space) (d : List ℕ) (c : ℕ) → heap_of (empty_region size) q ≢ Record s d c = λ q s d c h. no_record_there size q s d c x.laid h in
    let p = λ (q : ℕ). plain (heap_of (empty_region size)) (memory_of (empty_region size)) (length (empty_region size)) q x.laid none (heap_of (empty_region size) q) refl in
    let bound = no_rows (heap_of (empty_region size)) (length (empty_region size)) (λ q. (p q).0) in
    let filled = no_cells (heap_of (empty_region size)) (length (empty_region size)) (λ q. (p q).1) in
    let blocks = no_contents (heap_of (empty_region size)) (length (empty_region size)) (λ q. (p q).2) in
    λ i. record {
      size = (empty_head size).2 i;
      counter = empty_long size i;
      given = empty_long size i;
      bound = bound i;
      filled = filled i;
      blocks = blocks i;
      claims = [];
    }

-- ---- the same of what contracts see

pub record Inside (seen : FrozenSeen) : Type 0 where
  pub words : List ℕ
  pub objects : ℕ
  pub actions : ℕ
  pub frozen : IsFrozen words objects actions
  pub is : record { words = words; tables = tables_in words } ≡ seen

module _ (seen : FrozenSeen) (y : Inside seen) where
  pub seen_inside : (p : Place) → IsBoundAt seen p → p.at + 4 < length seen.words
  seen_inside p b =
      subst (λ (s : FrozenSeen). place_of s.tables.bound b.space b.digest ≡ Some p → p.at + 4 < length s.words) y.is (bound_inside y.words y.objects y.actions y.frozen b.space b.digest p) b.is

  pub seen_short : length seen.words ≤ 67108864
  seen_short = subst (λ (s : FrozenSeen). length s.words ≤ 67108864) y.is (omega (arith, y.frozen.stands.headed.within, y.frozen.stands.headed.most))

  pub seen_cell : (s : Space) (d : Digest) (p : Place) → place_of seen.tables.bound s d ≡ Some p → cell_under seen.tables s d ≡ get_or seen.words (p.at + 4) 0
  seen_cell s d p = subst (λ (z : FrozenSeen). place_of z.tables.bound s d ≡ Some p → cell_under z.tables s d ≡ get_or z.words (p.at + 4) 0) y.is (cell_is y.words y.objects y.actions y.frozen s d p)

  pub value_within : (k : Digest) (p : Place) (cell : ℕ) → place_of seen.tables.bound Actions k ≡ Some p → cell ≡ get_or seen.words (p.at + 4) 0 → cell ≢ 0 → cell + 4 < length seen.words
  value_within k p cell h e some =
      subst (λ (z : FrozenSeen). place_of z.tables.bound Actions k ≡ Some p → cell ≡ get_or z.words (p.at + 4) 0 → cell + 4 < length z.words) y.is
      (λ h e. subst (λ n. n + 4 < length y.words) (sym e) (value_inside y.words y.objects y.actions y.frozen k p h (λ z. some (e ∙ z)))) h e

  pub value_there : (k : Digest) (p : Place) (cell : ℕ) (d : Digest) → place_of seen.tables.bound Actions k ≡ Some p → cell ≡ get_or seen.words (p.at + 4) 0 → cell ≢ 0 → IsDigest d.bytes → HasWords seen.words cell (words_of d.bytes) → fin.get (primary seen.tables).cache k ≡ Some d
  value_there k p cell d h e some digest has =
      subst (λ (z : FrozenSeen). place_of z.tables.bound Actions k ≡ Some p → cell ≡ get_or z.words (p.at + 4) 0 → HasWords z.words cell (words_of d.bytes) → fin.get (primary z.tables).cache k ≡ Some d) y.is
      (λ h e has. value_is y.words y.objects y.actions y.frozen k p d h (λ z. some (e ∙ z)) digest (subst (λ n. HasWords y.words n (words_of d.bytes)) e has)) h e has

  pub count_is : (y.objects ≡ fin.len (primary seen.tables).objects) × (y.actions ≡ fin.len (primary seen.tables).cache)
  count_is =
      subst (λ (z : FrozenSeen). (y.objects ≡ fin.len (primary z.tables).objects) × (y.actions ≡ fin.len (primary z.tables).cache)) y.is (
        y.frozen.objects_are ∙ ap (λ (s : State). fin.len s.objects) (sym (state_is y.words y.objects y.actions y.frozen)),
        y.frozen.actions_are ∙ ap (λ (s : State). fin.len s.cache) (sym (state_is y.words y.objects y.actions y.frozen)),
      )

  pub words_are : seen.words ≡ y.words
  words_are = sym (ap (λ (z : FrozenSeen). z.words) y.is)

-- what contracts see is enough
pub inside_of : (seen : FrozenSeen) → IsSeen seen → Inside seen
inside_of seen x = record {
  words = seen.words;
  objects = fin.len (primary seen.tables).objects;
  actions = fin.len (primary seen.tables).cache;
  frozen = record {
    state = primary seen.tables;
    stands = subst (λ n. Stands seen.words n (primary seen.tables)) (sym x.stands.headed.size_there) x.stands;
    words_are = x.words_are;
    objects_are = refl;
    actions_are = refl;
  };
  is = (λ i. record { words = seen.words; tables = sym x.tables i });
}

pub content_none : (t : Tables) (d : Digest) (o : Option Place) → o ≡ None → o ≡ place_of t.bound Objects d → place_in (cell_under t Objects d) ≡ None
content_none t d o none h = ap (λ p. place_in (cell_at t.filled p)) (sym h ∙ none)

pub value_none : (t : Tables) (k : Digest) (o : Option Place) → o ≡ None → o ≡ place_of t.bound Actions k → fin.get (primary t).cache k ≡ None
value_none t k o none h = get-value t k ∙ ap (λ p. value_in t (cell_at t.filled p)) (sym h ∙ none)

pub value_empty : (t : Tables) (k : Digest) → cell_under t Actions k ≡ 0 → fin.get (primary t).cache k ≡ None
value_empty t k h = get-value t k ∙ ap (value_in t) h

-- ---- where a closed region comes from

pub state_of : (words : List ℕ) (size : ℕ) (state : State) → Stands words size state → HasState words
state_of words size state st = record { state = state; stands = subst (λ n. Stands words n state) (sym st.headed.size_there) st }

pub same_state : (seen : FrozenSeen) (words : List ℕ) (size : ℕ) (state : State) → IsSeen seen → seen.words ≡ words → Stands words size state → primary seen.tables ≡ state
same_state seen words size state x e st = one_state words seen.tables.size size (primary seen.tables) state (subst (λ ws. Stands ws seen.tables.size (primary seen.tables)) e x.stands) st

pub same_size : (seen : FrozenSeen) (words : List ℕ) (size : ℕ) (state : State) → IsSeen seen → seen.words ≡ words → Stands words size state → seen.tables.size ≡ size
same_size seen words size state x e st = sym x.stands.headed.size_there ∙ ap (λ (ws : List ℕ). get_or ws 2 0) e ∙ st.headed.size_there

pub empty_seen : (seen : FrozenSeen) (size : ℕ) → IsSeen seen → seen.words ≡ empty_region size → 4096 ≤ size → size ≤ 67108864 → seen.tables ≡ empty_start size
empty_seen seen size x e least most = x.tables ∙ ap tables_in e ∙ empty_tables size least most (subst AreWords e x.words_are)

-- ---- objects

place_zero : (n : ℕ) → place_in n ≡ None → n ≡ 0
place_zero zero h = refl
place_zero (suc n) h = absurd (cc)

place_what : (n : ℕ) (p : Place) → place_in n ≡ Some p → (n ≡ p.at) × (n ≢ 0)
place_what zero p h = absurd (cc)
place_what (suc n) p h =
    let here : Place = record { at = suc n } in
    let same : here ≡ p = cc in
    (ap (λ (z : Place). z.at) same, λ e. omega arith)

pub object_none : (t : Tables) (d : Digest) → place_in (cell_under t Objects d) ≡ None → fin.get (primary t).objects d ≡ None
object_none t d h = get-object t d ∙ ap (object_in_tables t) (place_zero (cell_under t Objects d) h)

-- the content that an object's cell names
pub record ContentSeen (words : List ℕ) (d : Digest) (place : ℕ) (state : State) : Type 0 where
  pub at : HasContentAt words place
  pub is : fin.get state.objects d ≡ Some (object_there words place)

module _ (words : List ℕ) (objects actions : ℕ) (x : IsFrozen words objects actions) where
  content_of_cell : (d : Digest) (n : ℕ) (o : Option Place) → place_of (tables_in words).bound Objects d ≡ o → cell_under (tables_in words) Objects d ≡ n → n ≢ 0 → ContentSeen words d n x.state
  content_of_cell d n None at e some = absurd (some (sym e ∙ cell_none words objects actions x Objects d at))
  content_of_cell d n (Some q) at e some =
      let z = held_cell words objects actions x Objects d q at in
      let c = certified words objects actions x in
      let cell : z.0 ≡ n = sym z.2 ∙ sym (cell_is words objects actions x Objects d q at) ∙ e in
      let here : heap_of words q.at ≡ Record Objects d.bytes n = z.1 ∙ ap (Record Objects d.bytes) cell in
      let content : IsContentOf words q.at n = (filled_named (heap_of words) words c.laid q.at Objects d.bytes n here some, sym (cell_named (heap_of words) words c.laid q.at Objects d.bytes n here)) in
      record {
        at = record { state = x.state; stands = x.stands; owner = q.at; content = content };
        is = (x.stands.objects d (object_there words n)).1 record { owner = q.at; place = n; content = content; digest = digest_is (heap_of words) words c.laid q.at Objects d.bytes n here; object = refl };
      }

pub object_seen : (seen : FrozenSeen) (y : Inside seen) (d : Digest) (p : Place) → place_in (cell_under seen.tables Objects d) ≡ Some p → ContentSeen seen.words d p.at (primary seen.tables)
object_seen seen y d p h =
    subst (λ (z : FrozenSeen). place_in (cell_under z.tables Objects d) ≡ Some p → ContentSeen z.words d p.at (primary z.tables)) y.is
    (λ h.
    let w = place_what (cell_under (tables_in y.words) Objects d) p h in
    let c = content_of_cell y.words y.objects y.actions y.frozen d (cell_under (tables_in y.words) Objects d) (place_of (tables_in y.words).bound Objects d) refl refl w.1 in
    subst (λ (s : State). ContentSeen y.words d p.at s) (sym (state_is y.words y.objects y.actions y.frozen)) (subst (λ n. ContentSeen y.words d n y.frozen.state) w.0 c))
    h
