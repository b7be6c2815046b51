-- What the rows hold is the primary state, and can be stored again in this order.
use Rattle.std.proofs.Common.{◌≡◌, ℕ, zero, suc, ◌<◌, ◌≤◌, ◌⊎◌, ◌++◌, List, [], ◌∷◌, Bool, true, false, cond, ◌==◌, inl, inr, Some, None, length, reverse, refl, ap, sym, ◌∙◌, subst, arith}
use Rattle.std.specs.Prelude.{is_some}
use Rattle.std.specs.declared.option.Option.{Option}
use Rattle.std.specs.declared.cmp.Ordering.TheVariants.{Less}
use Rattle.std.specs.FinMap as fin
use Rattle.std.specs.List.{AllByRecursion}
use Rattle.std.specs.List.Sorted.{IsStrictlySortedBy}
use Rattle.std.specs.Option.{option_map}
use Rattle.std.proofs.lemmas.Bool.{eqb-true, eq-eqb}
use Rattle.std.proofs.lemmas.List.{reverse-reverse}
use Rattle.cas_model.specs.declared.contents.Pair.{Pair}
use Rattle.cas_model.specs.declared.digest.Digest.{Digest}
use Rattle.cas_model.specs.declared.object.Object.{Object}
use Rattle.cas_model.specs.declared.place.Place.{Place}
use Rattle.cas_model.specs.declared.place.Space.{Space}
use Rattle.cas_model.specs.declared.place.Space.TheVariants.{Objects, Actions}
use Rattle.cas_model.specs.declared.tables.Cell.{Cell}
use Rattle.cas_model.specs.declared.tables.Content.{Content}
use Rattle.cas_model.specs.declared.tables.Record.{Record}
use Rattle.cas_model.specs.Claims.{Fit, contents_claims, block_words}
use Rattle.cas_model.specs.Content.{content_places}
use Rattle.cas_model.specs.Contents.{contents_state, objects_map, actions_map, object_digests, pair_keys, AllMembers, AreStorable, ArePuttable}
use Rattle.cas_model.specs.Object.{object_digest}
use Rattle.cas_model.specs.Primary.{primary, object_under, value_under, object_in, value_in, cell_at}
use Rattle.cas_model.specs.Start.{IsTied}
use Rattle.cas_model.specs.State.{State, digest_cmp, Member}
use Rattle.cas_model.specs.Tables.{Tables, place_of, record_at, words_at, cell_of, object_of, digest_at, digests_at, digest_of_record, same_space, same_digest}
use Rattle.cas_model.proofs.Fitting.{contents-fit}
use Rattle.cas_model.proofs.Maps.{get-put, get-object, get-value, same-states, same-is, same-self, digest_total}
use Rattle.cas_history.specs.Run.{tables}
use Rattle.cas_history.proofs.Sound.{sound-run}
use Rattle.cas_port.specs.declared.block.OpenBlock.{OpenBlock}
use Rattle.cas_history.specs.declared.event.Event.{Event}
use Rattle.cell_port.specs.FilledRows.{IsFilledIn, AreFilledIn, RowNames, IsRow, AreRows, filled_objects, filled_pairs, row_object, row_pair, object_with, HoldsPairs, HoldsContents}
use Rattle.cell_port.specs.Needed.{bound_in}
use Rattle.cell_port.specs.Plain.{Tied}
use Rattle.cell_port.specs.Tables.{PlainRows}
use Rattle.cell_port.proofs.PartsBuilt.{member-has, bound-listed}
use Rattle.cell_port.proofs.PartsLists.{reverse-cons, objects-reverse, digests-reverse}

-- tables of these rows alone
abbrev pub rows_of : List Record → List Content → List Cell → Tables
rows_of bound blocks cells = record { size = 0; counter = 0; given = 0; bound = bound; filled = cells; blocks = blocks; claims = [] }

-- what a row of an object's record is
row-object : (bound : List Record) (blocks : List Content) (c : Cell) (found : Record) (words : List ℕ) → record_at bound c.of.at ≡ Some found → found.space ≡ Objects → words_at blocks c.value ≡ Some words
    → row_object bound blocks (record_at bound c.of.at) c.value ≡ object_of bound words ∷ []
row-object bound blocks c found words at object there =
    (λ i. row_object bound blocks (at i) c.value) ∙ (λ i. cond (same_space (object i) Objects) (object_with bound (there i)) [])

row-none : (bound : List Record) (blocks : List Content) (c : Cell) (found : Record) → record_at bound c.of.at ≡ Some found → found.space ≡ Actions → row_object bound blocks (record_at bound c.of.at) c.value ≡ []
row-none bound blocks c found at action = (λ i. row_object bound blocks (at i) c.value) ∙ (λ i. cond (same_space (action i) Objects) (object_with bound (words_at blocks c.value)) [])

object-there : (bound : List Record) (blocks : List Content) (n : ℕ) (words : List ℕ) (cells : List Cell) → 0 < n → words_at blocks n ≡ Some words → object_in (rows_of bound blocks cells) n ≡ Some (object_of bound words)
object-there bound blocks zero words cells some is = absurd (omega arith)
object-there bound blocks (suc n) words cells some is = ap (λ (o : Option (List ℕ)). option_map (object_of bound) o) is

-- ---- the objects under their digests

module _ (bound : List Record) (blocks : List Content) (tied : IsTied bound) where
  cell-none : (o : Option Place) → cell_at [] o ≡ 0
  cell-none None = refl
  cell-none (Some p) = refl

  -- one more row changes what stands under its own record alone
  under-row : (c : Cell) (cs : List Cell) (found : Record) (space : Space) (q : Digest) → record_at bound c.of.at ≡ Some found
      → ((found.space ≡ space) × (found.digest ≡ q) × (cell_at (c ∷ cs) (place_of bound space q) ≡ c.value))
      ⊎ (((found.space ≡ space) × (found.digest ≡ q) → ⊥) × (cell_at (c ∷ cs) (place_of bound space q) ≡ cell_at cs (place_of bound space q)))
  under-row c cs found space q at = step (place_of bound space q) refl where
    step : (o : Option Place) → place_of bound space q ≡ o
        → ((found.space ≡ space) × (found.digest ≡ q) × (cell_at (c ∷ cs) o ≡ c.value)) ⊎ (((found.space ≡ space) × (found.digest ≡ q) → ⊥) × (cell_at (c ∷ cs) o ≡ cell_at cs o))
    step None is = inr (
      λ h.
          let moved : place_of bound found.space found.digest ≡ place_of bound space q = λ i. place_of bound (h.0 i) (h.1 i) in
          cc ((tied.back c.of.at found at).0, moved, is),
      refl,
    )
    step (Some p) is = by (c.of.at == p.at) refl where
      there : (x : Record) × (record_at bound p.at ≡ Some x) × (x.space ≡ space) × (x.digest ≡ q)
      there = tied.to space q p is

      by : (b : Bool) → (c.of.at == p.at) ≡ b
          → ((found.space ≡ space) × (found.digest ≡ q) × (cond b c.value (cell_of cs p.at) ≡ c.value))
          ⊎ (((found.space ≡ space) × (found.digest ≡ q) → ⊥) × (cond b c.value (cell_of cs p.at) ≡ cell_of cs p.at))
      by true test =
          let e : Some found ≡ Some there.0 = sym at ∙ ap (record_at bound) (eqb-true c.of.at p.at test) ∙ there.1 in
          let same : found ≡ there.0 = cc in
          inl (ap (λ (x : Record). x.space) same ∙ there.2, ap (λ (x : Record). x.digest) same ∙ there.3, refl)
      by false test = inr (
        λ h.
            let own = tied.back c.of.at found at in
            let moved : place_of bound found.space found.digest ≡ place_of bound space q = λ i. place_of bound (h.0 i) (h.1 i) in
            let e : Some found.place ≡ Some p = sym own.0 ∙ moved ∙ is in
            let same : found.place ≡ p = cc in
            let at_p : c.of.at ≡ p.at = sym own.1 ∙ ap (λ (x : Place). x.at) same in
            cc (eq-eqb c.of.at p.at at_p, test),
        refl,
      )

  pub objects-under : (cells : List Cell) → AreRows bound blocks cells → (q : Digest) → fin.get (objects_map (filled_objects bound blocks cells)) q ≡ object_under (rows_of bound blocks cells) q
  objects-under [] rows q = fin.get-empty digest_cmp q ∙ sym (ap (object_in (rows_of bound blocks [])) (cell-none (place_of bound Objects q)))
  objects-under (c ∷ cs) rows q = step rows.0.found.space refl rows.0.names (objects-under cs rows.1 q) where
    step : (space : Space) → rows.0.found.space ≡ space → RowNames bound blocks cs space rows.0.found.digest c.value
        → fin.get (objects_map (filled_objects bound blocks cs)) q ≡ object_under (rows_of bound blocks cs) q
        → fin.get (objects_map (filled_objects bound blocks (c ∷ cs))) q ≡ object_under (rows_of bound blocks (c ∷ cs)) q
    step Actions is names again =
        let none = row-none bound blocks c rows.0.found rows.0.is is in
        let left : fin.get (objects_map (filled_objects bound blocks (c ∷ cs))) q ≡ fin.get (objects_map (filled_objects bound blocks cs)) q =
        ap (λ (os : List Object). fin.get (objects_map (os ++ filled_objects bound blocks cs)) q) none in
        left ∙ again ∙ by (under-row c cs rows.0.found Objects q rows.0.is) where
          by : ((rows.0.found.space ≡ Objects) × (rows.0.found.digest ≡ q) × (cell_at (c ∷ cs) (place_of bound Objects q) ≡ c.value))
              ⊎ (((rows.0.found.space ≡ Objects) × (rows.0.found.digest ≡ q) → ⊥) × (cell_at (c ∷ cs) (place_of bound Objects q) ≡ cell_at cs (place_of bound Objects q)))
              → object_under (rows_of bound blocks cs) q ≡ object_under (rows_of bound blocks (c ∷ cs)) q
          by (inl h) = absurd (cc (sym is ∙ h.0))
          by (inr h) = ap (object_in (rows_of bound blocks cs)) (sym h.1)
    step Objects is (words, there, names) again =
        let one = row-object bound blocks c rows.0.found words rows.0.is is there in
        let left : fin.get (objects_map (filled_objects bound blocks (c ∷ cs))) q ≡ cond (same_digest q rows.0.found.digest) (Some (object_of bound words)) (fin.get (objects_map (filled_objects bound blocks cs)) q) =
        ap (λ (os : List Object). fin.get (objects_map (os ++ filled_objects bound blocks cs)) q) one
        ∙ get-put (objects_map (filled_objects bound blocks cs)) (object_digest (object_of bound words)) (object_of bound words) q
        ∙ ap (λ d. cond (same_digest q d) (Some (object_of bound words)) (fin.get (objects_map (filled_objects bound blocks cs)) q)) names.named in
        left ∙ by (under-row c cs rows.0.found Objects q rows.0.is) where
          by : ((rows.0.found.space ≡ Objects) × (rows.0.found.digest ≡ q) × (cell_at (c ∷ cs) (place_of bound Objects q) ≡ c.value))
              ⊎ (((rows.0.found.space ≡ Objects) × (rows.0.found.digest ≡ q) → ⊥) × (cell_at (c ∷ cs) (place_of bound Objects q) ≡ cell_at cs (place_of bound Objects q)))
              → cond (same_digest q rows.0.found.digest) (Some (object_of bound words)) (fin.get (objects_map (filled_objects bound blocks cs)) q) ≡ object_under (rows_of bound blocks (c ∷ cs)) q
          by (inl h) =
              ap (λ d. cond (same_digest q d) (Some (object_of bound words)) (fin.get (objects_map (filled_objects bound blocks cs)) q)) h.1
              ∙ ap (λ b. cond b (Some (object_of bound words)) (fin.get (objects_map (filled_objects bound blocks cs)) q)) (same-self q)
              ∙ sym (object-there bound blocks c.value words (c ∷ cs) rows.0.some there)
              ∙ ap (object_in (rows_of bound blocks (c ∷ cs))) (sym h.2)
          by (inr h) = test (same_digest q rows.0.found.digest) refl where
            test : (b : Bool) → same_digest q rows.0.found.digest ≡ b → cond b (Some (object_of bound words)) (fin.get (objects_map (filled_objects bound blocks cs)) q) ≡ object_under (rows_of bound blocks (c ∷ cs)) q
            test true same = absurd (h.0 (is, sym (same-is q rows.0.found.digest same)))
            test false other = again ∙ ap (object_in (rows_of bound blocks cs)) (sym h.1)

  -- ---- the values under their keys

  pair-there : (c : Cell) (found : Record) → record_at bound c.of.at ≡ Some found → found.space ≡ Actions
      → row_pair bound (record_at bound c.of.at) c.value ≡ (record { key = found.digest; value = digest_at bound c.value }) ∷ []
  pair-there c found at action =
      (λ i. row_pair bound (at i) c.value) ∙ (λ i. cond (same_space (action i) Actions) ((record { key = found.digest; value = digest_at bound c.value }) ∷ []) [])

  pair-none : (c : Cell) (found : Record) → record_at bound c.of.at ≡ Some found → found.space ≡ Objects → row_pair bound (record_at bound c.of.at) c.value ≡ []
  pair-none c found at object =
      (λ i. row_pair bound (at i) c.value) ∙ (λ i. cond (same_space (object i) Actions) ((record { key = found.digest; value = digest_at bound c.value }) ∷ []) [])

  value-there : (n : ℕ) (cells : List Cell) → 0 < n → value_in (rows_of bound blocks cells) n ≡ Some (digest_at bound n)
  value-there zero cells some = absurd (omega arith)
  value-there (suc n) cells some = refl

  pub values-under : (cells : List Cell) → AreRows bound blocks cells → (q : Digest) → fin.get (actions_map (filled_pairs bound cells)) q ≡ value_under (rows_of bound blocks cells) q
  values-under [] rows q = fin.get-empty digest_cmp q ∙ sym (ap (value_in (rows_of bound blocks [])) (cell-none (place_of bound Actions q)))
  values-under (c ∷ cs) rows q = step rows.0.found.space refl (values-under cs rows.1 q) where
    step : (space : Space) → rows.0.found.space ≡ space → fin.get (actions_map (filled_pairs bound cs)) q ≡ value_under (rows_of bound blocks cs) q
        → fin.get (actions_map (filled_pairs bound (c ∷ cs))) q ≡ value_under (rows_of bound blocks (c ∷ cs)) q
    step Objects is again =
        let none = pair-none c rows.0.found rows.0.is is in
        let left : fin.get (actions_map (filled_pairs bound (c ∷ cs))) q ≡ fin.get (actions_map (filled_pairs bound cs)) q =
        ap (λ (ps : List Pair). fin.get (actions_map (ps ++ filled_pairs bound cs)) q) none in
        left ∙ again ∙ by (under-row c cs rows.0.found Actions q rows.0.is) where
          by : ((rows.0.found.space ≡ Actions) × (rows.0.found.digest ≡ q) × (cell_at (c ∷ cs) (place_of bound Actions q) ≡ c.value))
              ⊎ (((rows.0.found.space ≡ Actions) × (rows.0.found.digest ≡ q) → ⊥) × (cell_at (c ∷ cs) (place_of bound Actions q) ≡ cell_at cs (place_of bound Actions q)))
              → value_under (rows_of bound blocks cs) q ≡ value_under (rows_of bound blocks (c ∷ cs)) q
          by (inl h) = absurd (cc (sym is ∙ h.0))
          by (inr h) = ap (value_in (rows_of bound blocks cs)) (sym h.1)
    step Actions is again =
        let one = pair-there c rows.0.found rows.0.is is in
        let left : fin.get (actions_map (filled_pairs bound (c ∷ cs))) q ≡ cond (same_digest q rows.0.found.digest) (Some (digest_at bound c.value)) (fin.get (actions_map (filled_pairs bound cs)) q) =
        ap (λ (ps : List Pair). fin.get (actions_map (ps ++ filled_pairs bound cs)) q) one ∙ get-put (actions_map (filled_pairs bound cs)) rows.0.found.digest (digest_at bound c.value) q in
        left ∙ by (under-row c cs rows.0.found Actions q rows.0.is) where
          by : ((rows.0.found.space ≡ Actions) × (rows.0.found.digest ≡ q) × (cell_at (c ∷ cs) (place_of bound Actions q) ≡ c.value))
              ⊎ (((rows.0.found.space ≡ Actions) × (rows.0.found.digest ≡ q) → ⊥) × (cell_at (c ∷ cs) (place_of bound Actions q) ≡ cell_at cs (place_of bound Actions q)))
              → cond (same_digest q rows.0.found.digest) (Some (digest_at bound c.value)) (fin.get (actions_map (filled_pairs bound cs)) q) ≡ value_under (rows_of bound blocks (c ∷ cs)) q
          by (inl h) =
              ap (λ d. cond (same_digest q d) (Some (digest_at bound c.value)) (fin.get (actions_map (filled_pairs bound cs)) q)) h.1
              ∙ ap (λ b. cond b (Some (digest_at bound c.value)) (fin.get (actions_map (filled_pairs bound cs)) q)) (same-self q)
              ∙ sym (value-there c.value (c ∷ cs) rows.0.some)
              ∙ ap (value_in (rows_of bound blocks (c ∷ cs))) (sym h.2)
          by (inr h) = test (same_digest q rows.0.found.digest) refl where
            test : (b : Bool) → same_digest q rows.0.found.digest ≡ b → cond b (Some (digest_at bound c.value)) (fin.get (actions_map (filled_pairs bound cs)) q) ≡ value_under (rows_of bound blocks (c ∷ cs)) q
            test true same = absurd (h.0 (is, sym (same-is q rows.0.found.digest same)))
            test false other = again ∙ ap (value_in (rows_of bound blocks cs)) (sym h.1)

  -- ---- in an order in which they can be stored

  member-more : (os more : List Object) (d : Digest) → Member d (object_digests more) → Member d (object_digests (os ++ more))
  member-more [] more d m = m
  member-more (o ∷ os) more d m = inr (member-more os more d m)

  -- a filled record's digest is that of an object
  filled-member : (cells : List Cell) → AreRows bound blocks cells → (n : ℕ) → IsFilledIn bound cells n → Member (digest_at bound n) (object_digests (filled_objects bound blocks cells))
  filled-member [] rows n is = absurd (omega (arith, is.filled))
  filled-member (c ∷ cs) rows n is = step (c.of.at == n) refl is.filled (λ some. filled-member cs rows.1 n (record { found = is.found; is = is.is; object = is.object; filled = some })) where
    here : (space : Space) → rows.0.found.space ≡ space → rows.0.found.space ≡ Objects → RowNames bound blocks cs space rows.0.found.digest c.value
        → Member rows.0.found.digest (object_digests (filled_objects bound blocks (c ∷ cs)))
    here Actions is object names = absurd (cc (sym is ∙ object))
    here Objects is object (words, there, names) =
        let one = row-object bound blocks c rows.0.found words rows.0.is is there in
        subst (λ (os : List Object). Member rows.0.found.digest (object_digests (os ++ filled_objects bound blocks cs))) (sym one) (inl names.named)

    step : (b : Bool) → (c.of.at == n) ≡ b → 0 < cond b c.value (cell_of cs n) → (0 < cell_of cs n → Member (digest_at bound n) (object_digests (filled_objects bound blocks cs)))
        → Member (digest_at bound n) (object_digests (filled_objects bound blocks (c ∷ cs)))
    step true test some again =
        let at = eqb-true c.of.at n test in
        let e : Some rows.0.found ≡ Some is.found = sym rows.0.is ∙ ap (record_at bound) at ∙ is.is in
        let same : rows.0.found ≡ is.found = cc in
        let d : rows.0.found.digest ≡ digest_at bound n = sym (ap digest_of_record rows.0.is) ∙ ap (digest_at bound) at in
        subst (λ x. Member x (object_digests (filled_objects bound blocks (c ∷ cs)))) d (here rows.0.found.space refl (ap (λ (x : Record). x.space) same ∙ is.object) rows.0.names)
    step false test some again = member-more (row_object bound blocks (record_at bound c.of.at) c.value) (filled_objects bound blocks cs) (digest_at bound n) (again some)

  refs-member : (cells : List Cell) → AreRows bound blocks cells → (ns : List ℕ) → AreFilledIn bound cells ns → (d : Digest) → Member d (digests_at bound ns) → Member d (object_digests (filled_objects bound blocks cells))
  refs-member cells rows [] all d m = absurd m
  refs-member cells rows (n ∷ ns) all d (inl same) = subst (λ x. Member x (object_digests (filled_objects bound blocks cells))) same (filled-member cells rows n all.0)
  refs-member cells rows (n ∷ ns) all d (inr m) = refs-member cells rows ns all.1 d m

  length-digests : (ns : List ℕ) → length (digests_at bound ns) ≡ length ns
  length-digests [] = refl
  length-digests (n ∷ ns) = ap suc (length-digests ns)

  all-members : (ds known : List Digest) → ((d : Digest) → Member d ds → Member d known) → AllMembers ds known
  all-members [] known there = tt
  all-members (d ∷ ds) known there = (there d (inl refl), all-members ds known (λ x m. there x (inr m)))

  storable-last : (known : List Digest) (xs : List Object) (y : Object) → AreStorable known xs → length y.refs ≤ 65535 → length y.data ≤ 16777215
      → ((d : Digest) → Member d y.refs → Member d known ⊎ Member d (object_digests xs)) → (Member (object_digest y) known → ⊥) → (Member (object_digest y) (object_digests xs) → ⊥)
      → AreStorable known (xs ++ y ∷ [])
  storable-last known [] y storable few short refs fresh new = (few, short, all-members y.refs known (λ d m. only d (refs d m)), fresh, tt) where
    only : (d : Digest) → Member d known ⊎ ⊥ → Member d known
    only d (inl m) = m
    only d (inr m) = absurd m
  storable-last known (x ∷ xs) y storable few short refs fresh new = (
    storable.0,
    storable.1,
    storable.2,
    storable.3,
    storable-last (object_digest x ∷ known) xs y storable.4 few short (λ d m. moved d (refs d m)) (λ m. apart m) (λ m. new (inr m)),
  ) where
    moved : (d : Digest) → Member d known ⊎ Member d (object_digests (x ∷ xs)) → Member d (object_digest x ∷ known) ⊎ Member d (object_digests xs)
    moved d (inl m) = inl (inr m)
    moved d (inr (inl same)) = inl (inl same)
    moved d (inr (inr m)) = inr m

    apart : Member (object_digest y) (object_digest x ∷ known) → ⊥
    apart (inl same) = new (inl same)
    apart (inr m) = fresh m

  -- a row's object is new
  row-new : (c : Cell) (cs : List Cell) → AreRows bound blocks cs → IsRow bound blocks cs c → c.of.at ≡ c.of.at → (found : Record) → record_at bound c.of.at ≡ Some found → found.space ≡ Objects
      → Member found.digest (object_digests (filled_objects bound blocks cs)) → ⊥
  row-new c cs rows row at found is object m =
      let there = member-has (filled_objects bound blocks cs) found.digest m in
      let own = tied.back c.of.at found is in
      let place : place_of bound Objects found.digest ≡ Some found.place = ap (λ sp. place_of bound sp found.digest) (sym object) ∙ own.0 in
      let cell : cell_at cs (place_of bound Objects found.digest) ≡ 0 = ap (cell_at cs) place ∙ ap (cell_of cs) own.1 ∙ row.empty in
      let under : object_under (rows_of bound blocks cs) found.digest ≡ None = ap (object_in (rows_of bound blocks cs)) cell in
      cc (objects-under cs rows found.digest, there.1, under)

  pub rows-storable : (cells : List Cell) → AreRows bound blocks cells → AreStorable [] (reverse (filled_objects bound blocks cells))
  rows-storable [] rows = tt
  rows-storable (c ∷ cs) rows = step rows.0.found.space refl rows.0.names (rows-storable cs rows.1) where
    step : (space : Space) → rows.0.found.space ≡ space → RowNames bound blocks cs space rows.0.found.digest c.value → AreStorable [] (reverse (filled_objects bound blocks cs))
        → AreStorable [] (reverse (filled_objects bound blocks (c ∷ cs)))
    step Actions is names again =
        subst (λ (os : List Object). AreStorable [] (reverse (os ++ filled_objects bound blocks cs))) (sym (row-none bound blocks c rows.0.found rows.0.is is)) again
    step Objects is (words, there, names) again =
        let o = object_of bound words in
        let one = row-object bound blocks c rows.0.found words rows.0.is is there in
        let places = length-digests (content_places words) in
        subst (λ (os : List Object). AreStorable [] (reverse (os ++ filled_objects bound blocks cs))) (sym one)
        (subst (λ (os : List Object). AreStorable [] os) (sym (reverse-cons o (filled_objects bound blocks cs)))
        (storable-last [] (reverse (filled_objects bound blocks cs)) o again (omega (arith, places, names.content.few_refs)) names.content.short
        (λ d m. inr ((digests-reverse (filled_objects bound blocks cs) d).1 (refs-member cs rows.1 (content_places words) names.refs d m)))
        (λ m. m)
        (λ m. row-new c cs rows.1 rows.0 refl rows.0.found rows.0.is is
        (subst (λ x. Member x (object_digests (filled_objects bound blocks cs))) names.named ((digests-reverse (filled_objects bound blocks cs) (object_digest o)).0 m)))))

  -- ---- the actions

  -- the value of a key is an object's digest
  value-member : (cells : List Cell) → AreRows bound blocks cells → (q v : Digest) → fin.get (actions_map (filled_pairs bound cells)) q ≡ Some v → Member v (object_digests (filled_objects bound blocks cells))
  value-member [] rows q v is = absurd (cc (fin.get-empty {X = Digest} digest_cmp q, is))
  value-member (c ∷ cs) rows q v is = step rows.0.found.space refl rows.0.names (λ h. value-member cs rows.1 q v h) where
    more : Member v (object_digests (filled_objects bound blocks cs)) → Member v (object_digests (filled_objects bound blocks (c ∷ cs)))
    more m = member-more (row_object bound blocks (record_at bound c.of.at) c.value) (filled_objects bound blocks cs) v m

    step : (space : Space) → rows.0.found.space ≡ space → RowNames bound blocks cs space rows.0.found.digest c.value
        → (fin.get (actions_map (filled_pairs bound cs)) q ≡ Some v → Member v (object_digests (filled_objects bound blocks cs))) → Member v (object_digests (filled_objects bound blocks (c ∷ cs)))
    step Objects at names again =
        let none = pair-none c rows.0.found rows.0.is at in
        more (again (sym (ap (λ (ps : List Pair). fin.get (actions_map (ps ++ filled_pairs bound cs)) q) none) ∙ is))
    step Actions at names again =
        let one = pair-there c rows.0.found rows.0.is at in
        let got : cond (same_digest q rows.0.found.digest) (Some (digest_at bound c.value)) (fin.get (actions_map (filled_pairs bound cs)) q) ≡ Some v =
        sym (ap (λ (ps : List Pair). fin.get (actions_map (ps ++ filled_pairs bound cs)) q) one ∙ get-put (actions_map (filled_pairs bound cs)) rows.0.found.digest (digest_at bound c.value) q) ∙ is in
        test (same_digest q rows.0.found.digest) got where
          test : (b : Bool) → cond b (Some (digest_at bound c.value)) (fin.get (actions_map (filled_pairs bound cs)) q) ≡ Some v → Member v (object_digests (filled_objects bound blocks (c ∷ cs)))
          test true h = let same : digest_at bound c.value ≡ v = cc in more (subst (λ x. Member x (object_digests (filled_objects bound blocks cs))) same (filled-member cs rows.1 c.value names))
          test false h = more (again h)

-- a digest is not below itself
not-less : (d : Digest) → digest_cmp d d ≡ Less → ⊥
not-less d less = cc (digest_total.antisymm d d, less)

below-apart : (k : Digest) (ds : List Digest) → AllByRecursion (λ y. digest_cmp k y ≡ Less) ds → Member k ds → ⊥
below-apart k (d ∷ ds) all (inl same) = not-less k (subst (λ x. digest_cmp k x ≡ Less) same all.0)
below-apart k (d ∷ ds) all (inr m) = below-apart k ds all.1 m
below-apart k [] all m = m

-- a key with a value is listed
key-there : (ps : List Pair) (k v : Digest) → fin.get (actions_map ps) k ≡ Some v → Member k (pair_keys ps)
key-there [] k v is = absurd (cc (fin.get-empty {X = Digest} digest_cmp k, is))
key-there (p ∷ ps) k v is = step (same_digest k p.key) refl (λ h. key-there ps k v h) where
  step : (b : Bool) → same_digest k p.key ≡ b → (fin.get (actions_map ps) k ≡ Some v → Member k (pair_keys ps)) → Member k (pair_keys (p ∷ ps))
  step true test again = inl (sym (same-is k p.key test))
  step false test again = inr (again (sym (get-put (actions_map ps) p.key p.value k ∙ ap (λ b. cond b (Some p.value) (fin.get (actions_map ps) k)) test) ∙ is))

-- pairs that rise are not twice there
puttable-rise : (digests known : List Digest) (ps : List Pair) → IsStrictlySortedBy digest_cmp (pair_keys ps) → ((k v : Digest) → fin.get (actions_map ps) k ≡ Some v → Member v digests)
    → ((k : Digest) → Member k known → Member k (pair_keys ps) → ⊥) → ArePuttable digests known ps
unfolding IsStrictlySortedBy
puttable-rise digests known [] rise values apart = tt
puttable-rise digests known (p ∷ ps) rise values apart = (
  values p.key p.value (get-put (actions_map ps) p.key p.value p.key ∙ ap (λ b. cond b (Some p.value) (fin.get (actions_map ps) p.key)) (same-self p.key)),
  λ m. apart p.key m (inl refl),
  puttable-rise digests (p.key ∷ known) ps rise.1 (λ k v is. values k v (later k v is (same_digest k p.key) refl)) (λ k m. others k m),
) where
  others : (k : Digest) → Member k (p.key ∷ known) → Member k (pair_keys ps) → ⊥
  others k (inl same) m = below-apart p.key (pair_keys ps) rise.0 (subst (λ x. Member x (pair_keys ps)) (sym same) m)
  others k (inr m) n = apart k m (inr n)

  later : (k v : Digest) → fin.get (actions_map ps) k ≡ Some v → (b : Bool) → same_digest k p.key ≡ b → fin.get (actions_map (p ∷ ps)) k ≡ Some v
  later k v is true test = absurd (below-apart p.key (pair_keys ps) rise.0 (subst (λ x. Member x (pair_keys ps)) (same-is k p.key test) (key-there ps k v is)))
  later k v is false test = get-put (actions_map ps) p.key p.value k ∙ ap (λ b. cond b (Some p.value) (fin.get (actions_map ps) k)) test ∙ is

-- ---- what a plain port holds

pub holds-contents : (up : State) (r : PlainRows) (opened : List OpenBlock) (seen : List Event) (objects : List Object) (pairs : List Pair) → Tied up r opened seen
    → objects ≡ reverse (filled_objects r.bound r.blocks r.filled) → HoldsPairs r.bound r.filled pairs → HoldsContents (tables r.start seen) objects pairs
holds-contents up r opened seen objects pairs t are holds =
    let s = tables r.start seen in
    let tied : IsTied r.bound = subst IsTied t.ties.bound_is (sound-run up r.start seen t.lawful).tied in
    let fo = filled_objects r.bound r.blocks r.filled in
    let storable = rows-storable r.bound r.blocks tied r.filled t.rows in
    let turned : objects_map (reverse fo) ≡ objects_map fo = sym (objects-reverse [] (reverse fo) storable) ∙ ap objects_map (reverse-reverse fo) in
    record {
      state = same-states (contents_state objects pairs) (primary s)
          (λ d. ap (λ (os : List Object). fin.get (objects_map os) d) are ∙ ap (λ m. fin.get m d) turned ∙ objects-under r.bound r.blocks tied r.filled t.rows d
          ∙ (λ i. object_under (rows_of (sym t.ties.bound_is i) (sym t.ties.blocks_is i) (sym t.ties.filled_is i)) d) ∙ sym (get-object s d))
          (λ k. ap (λ m. fin.get m k) holds.state ∙ values-under r.bound r.blocks tied r.filled t.rows k
          ∙ (λ i. value_under (rows_of (sym t.ties.bound_is i) (sym t.ties.blocks_is i) (sym t.ties.filled_is i)) k) ∙ sym (get-value s k));
      lawful = record {
        storable = subst (λ (os : List Object). AreStorable [] os) (sym are) storable;
        puttable = puttable-rise (object_digests objects) [] pairs holds.rising
            (λ k v is. subst (λ (os : List Object). Member v (object_digests os)) (sym are)
            ((digests-reverse fo v).1 (value-member r.bound r.blocks tied r.filled t.rows k v (ap (λ m. fin.get m k) (sym holds.state) ∙ is))))
            (λ k m n. m);
      };
      order = are ∙ (λ i. reverse (filled_objects (sym t.ties.bound_is i) (sym t.ties.blocks_is i) (sym t.ties.filled_is i)));
      rising = holds.rising;
    }

-- the claims of what a plain port holds end at or below its counter, and so they fit
pub holds-fit : (up : State) (r : PlainRows) (opened : List OpenBlock) (seen : List Event) (objects : List Object) (pairs : List Pair) → Tied up r opened seen
    → HoldsContents (tables r.start seen) objects pairs → Fit r.start.size 520 (contents_claims objects pairs)
holds-fit up r opened seen objects pairs t holds =
    let sound = sound-run up r.start seen t.lawful in
    let listed : (space : Space) (d : Digest) (p : Place) → place_of (tables r.start seen).bound space d ≡ Some p → Member d (bound_in space r.bound) =
    λ space d p at. bound-listed r.bound space d (ap (λ (rs : List Record). is_some (place_of rs space d)) (sym t.ties.bound_is) ∙ ap is_some at) in
    contents-fit (tables r.start seen) sound.tied sound.names objects pairs (bound_in Objects r.bound) (bound_in Actions r.bound) r.start.size holds.lawful holds.state (listed Objects) (listed Actions)
    (omega (arith, t.paid, t.within, ap block_words t.ties.blocks_is))
