-- A record slot becomes a table.
use Rattle.std.proofs.Common.{◌≡◌, ◌≢◌, ℕ, ◌+◌, ◌*◌, ◌<◌, ◌≤◌, List, [], ◌∷◌, length, get_or, suc, inl, inr, sym, ap, ◌∙◌, arith}
use Rattle.std.proofs.lemmas.Bool.{cases_eq}
use Rattle.cas_model.specs.declared.place.Space.{Space}
use Rattle.cas_model.specs.declared.place.Space.TheVariants.{Objects, Actions}
use Rattle.cas_model.specs.Trie.{IsDigest, path, index_of}
use Rattle.region_core.specs.Words.{root, width}
use Rattle.region_core.specs.Heap.{Block, Free, Table, Record, Content, Claimed, extent, fixed, Names, TableNamed, RecordNamed, Shape, Cells, Laid}
use Rattle.region_core.specs.Change.{Wrote, Placed}
use Rattle.region_core.proofs.Heap.{slot_apart, same_slot, placed_shape}

module _ (heap heap' : ℕ → Block) (memory memory' : ℕ → ℕ) (counter : ℕ)
    (s : Space) (above : List ℕ) (u j r q k : ℕ) (d : List ℕ) (c : ℕ) (ws : List ℕ)
    (laid : Laid heap memory counter)
    (here : heap u ≡ Table s above)
    (within : j < width above)
    (found : memory (u + j) ≡ 4 * r + 1)
    (stands : heap r ≡ Record s d c)
    (mine : heap q ≡ Claimed ws)
    (long : length ws ≡ 16)
    (next : k ≡ index_of d (suc (length above)))
    (moved : get_or ws k 0 ≡ 4 * r + 1)
    (rest : (i : ℕ) → i < 16 → i ≢ k → get_or ws i 0 ≡ 0)
    (narrow : k < 16)
    (shallow : length above ≤ 61)
    (wrote : Wrote memory memory' (u + j) (4 * q + 2))
    (placed : Placed heap heap' q (Table s (j ∷ above))) where
  -- the record in the slot has the indexes that lead to it
  leads : path d (suc (length above)) ≡ j ∷ above
  leads =
      elim (laid.tries.slots u s above j here within) [
        | inl empty ↦ absurd (omega arith)
        | inr (inl named) ↦
            let one : named.place ≡ r = omega (arith, named.is) in
            let same : Record s named.digest named.cell ≡ Record s d c = sym named.here ∙ ap heap one ∙ stands in
            let digest : named.digest ≡ d = cc in
            ap (λ x. path x (suc (length above))) (sym digest) ∙ named.leads
        | inr (inr table) ↦ absurd (omega (arith, table.is))
      ]

  sink-shape : Shape heap' counter
  sink-shape = placed_shape heap heap' counter q (Table s (j ∷ above)) placed (sym long ∙ sym (ap extent mine)) (λ free. let clash : Claimed ws ≡ Free = sym mine ∙ free in cc) laid.shape

  fixeds : (p : ℕ) → p ≢ q → fixed (heap' p) ≡ fixed (heap p)
  fixeds p e = ap fixed (placed.same p e)

  -- a block that is no table was there before
  before : (p : ℕ) (b : Block) → heap' p ≡ b → b ≢ Table s (j ∷ above) → heap p ≡ b
  before p b e other =
      elim (cases_eq p q) [
        | inl is ↦ absurd (other (sym e ∙ ap heap' is ∙ placed.now))
        | inr is ↦ sym (placed.same p is) ∙ e
      ]

  sink-clear : (i : ℕ) → counter ≤ i → memory' i ≡ 0
  sink-clear i h =
      let inside : u + j < counter = omega (arith, laid.shape.high u (rw here (omega arith)), ap extent here) in
      wrote.same i (λ e. omega arith) ∙ laid.keeps.clear i h

  sink-held : (p i : ℕ) → i < length (fixed (heap' p)) → memory' (p + i) ≡ get_or (fixed (heap' p)) i 0
  sink-held p i h =
      elim (cases_eq p q) [
        | inl e ↦
            let none : length (fixed (heap' p)) ≡ 0 = ap (λ x. length (fixed (heap' x))) e ∙ ap (λ b. length (fixed b)) placed.now in
            absurd (omega arith)
        | inr e ↦
            let kept : fixed (heap' p) ≡ fixed (heap p) = fixeds p e in
            let short : length (fixed (heap' p)) ≡ length (fixed (heap p)) = ap length kept in
            let fits : i < length (fixed (heap p)) = omega arith in
            wrote.same (p + i) (slot_apart heap counter u j p i s above laid.shape here within fits)
            ∙ laid.keeps.held p i fits ∙ ap (λ xs. get_or xs i 0) (sym kept)
      ]

  not_claimed : (t : Space) (π : List ℕ) (p : ℕ) → heap p ≡ Table t π → p ≢ q
  not_claimed t π p e is =
      let clash : Table t π ≡ Claimed ws = sym e ∙ ap heap is ∙ mine in
      cc

  record_not_claimed : (t : Space) (e : List ℕ) (n p : ℕ) → heap p ≡ Record t e n → p ≢ q
  record_not_claimed t e n p h is =
      let clash : Record t e n ≡ Claimed ws = sym h ∙ ap heap is ∙ mine in
      cc

  sink-roots : (t : Space) → heap' (root t) ≡ Table t []
  sink-roots t = placed.same (root t) (not_claimed t [] (root t) (laid.tries.roots t)) ∙ laid.tries.roots t

  sink-only : (p : ℕ) (t : Space) → heap' p ≡ Table t [] → p ≡ root t
  sink-only p t e = laid.tries.only p t (before p (Table t []) e (λ clash. cc))

  sink-levels : (p : ℕ) (t : Space) (π : List ℕ) → heap' p ≡ Table t π → length π ≤ 62
  sink-levels p t π e =
      elim (cases_eq p q) [
        | inl is ↦
            let same : Table t π ≡ Table s (j ∷ above) = sym e ∙ ap heap' is ∙ placed.now in
            let path_is : π ≡ j ∷ above = cc in
            let long : length π ≡ suc (length above) = ap length path_is in
            omega arith
        | inr is ↦ laid.tries.levels p t π (sym (placed.same p is) ∙ e)
      ]

  -- a slot that held a table's word is not the one that was written
  table_slot : (v i p : ℕ) → memory (v + i) ≡ 4 * p + 2 → memory' (v + i) ≡ 4 * p + 2
  table_slot v i p h = wrote.same (v + i) (λ e. let w : memory (v + i) ≡ 4 * r + 1 = ap memory e ∙ found in omega arith) ∙ h

  sink-tables : (p : ℕ) (t : Space) (π : List ℕ) (i : ℕ) → heap' p ≡ Table t (i ∷ π) → TableNamed heap' memory' t π i p
  sink-tables p t π i e =
      elim (cases_eq p q) [
        | inl is ↦
            let same : Table t (i ∷ π) ≡ Table s (j ∷ above) = sym e ∙ ap heap' is ∙ placed.now in
            let t_is : t ≡ s = cc in
            let i_is : i ≡ j = cc in
            let π_is : π ≡ above = cc in
            record {
              table = u;
              here = placed.same u (not_claimed s above u here) ∙ here ∙ sym (ap (λ x. Table t x) π_is ∙ ap (λ x. Table x above) t_is);
              within = rw (i_is, π_is) within;
              is = rw (i_is, is) wrote.now;
            }
        | inr is ↦
            let n = laid.tries.tables p t π i (sym (placed.same p is) ∙ e) in
            record {
              table = n.table;
              here = placed.same n.table (not_claimed t π n.table n.here) ∙ n.here;
              within = n.within;
              is = table_slot n.table i p n.is;
            }
      ]

  -- what stands in the new table
  fresh : (i : ℕ) → i < 16 → memory' (q + i) ≡ get_or ws i 0
  fresh i h =
      let size : length (fixed (heap q)) ≡ 16 = ap (λ b. length (fixed b)) mine ∙ long in
      let fits : i < length (fixed (heap q)) = omega arith in
      wrote.same (q + i) (slot_apart heap counter u j q i s above laid.shape here within fits)
      ∙ laid.keeps.held q i fits ∙ ap (λ b. get_or (fixed b) i 0) mine

  sink-records : (p : ℕ) (t : Space) (e : List ℕ) (n : ℕ) → heap' p ≡ Record t e n → RecordNamed heap' memory' t e p
  sink-records p t e n h =
      let stood : heap p ≡ Record t e n = before p (Record t e n) h (λ clash. cc) in
      elim (cases_eq p r) [
        | inl is ↦
            let same : Record t e n ≡ Record s d c = sym stood ∙ ap heap is ∙ stands in
            let t_is : t ≡ s = cc in
            let e_is : e ≡ d = cc in
            let k_is : index_of e (suc (length above)) ≡ k = ap (λ x. index_of x (suc (length above))) e_is ∙ sym next in
            let π_is : path e (suc (length above)) ≡ j ∷ above = ap (λ x. path x (suc (length above))) e_is ∙ leads in
            record {
              level = suc (length above);
              table = q;
              here = placed.now ∙ sym (ap (λ x. Table t x) π_is ∙ ap (λ x. Table x (j ∷ above)) t_is);
              within = omega arith;
              is = rw (k_is, is) (fresh k narrow ∙ moved);
            }
        | inr is ↦
            let x = laid.tries.records p t e n stood in
            let other : x.table + index_of e x.level ≢ u + j = λ clash. let w : memory (x.table + index_of e x.level) ≡ 4 * r + 1 = ap memory clash ∙ found in absurd (is (omega (arith, x.is))) in
            record {
              level = x.level;
              table = x.table;
              here = placed.same x.table (not_claimed t (path e x.level) x.table x.here) ∙ x.here;
              within = x.within;
              is = wrote.same (x.table + index_of e x.level) other ∙ x.is;
            }
      ]

  sink-digests : (p : ℕ) (t : Space) (e : List ℕ) (n : ℕ) → heap' p ≡ Record t e n → IsDigest e
  sink-digests p t e n h = laid.tries.digests p t e n (before p (Record t e n) h (λ clash. cc))

  names_on : (t : Space) (π : List ℕ) (w w' : ℕ) → w' ≡ w → Names heap t π w → Names heap' t π w'
  names_on t π w w' e names =
      elim names [
        | inl empty ↦ inl (e ∙ empty)
        | inr (inl x) ↦ inr (inl record {
          place = x.place;
          digest = x.digest;
          cell = x.cell;
          is = e ∙ x.is;
          here = placed.same x.place (record_not_claimed t x.digest x.cell x.place x.here) ∙ x.here;
          leads = x.leads;
        })
        | inr (inr x) ↦ inr (inr record {
          place = x.place;
          is = e ∙ x.is;
          here = placed.same x.place (not_claimed t π x.place x.here) ∙ x.here;
        })
      ]

  fresh_slot : (i : ℕ) → i < 16 → Names heap' s (i ∷ j ∷ above) (memory' (q + i))
  fresh_slot i h =
      elim (cases_eq i k) [
        | inl is ↦ inr (inl record {
          place = r;
          digest = d;
          cell = c;
          is = fresh i h ∙ ap (λ x. get_or ws x 0) is ∙ moved;
          here = placed.same r (record_not_claimed s d c r stands) ∙ stands;
          leads = ap (λ x. x ∷ path d (suc (length above))) (sym next ∙ sym is) ∙ ap (λ x. i ∷ x) leads;
        })
        | inr is ↦ inl (fresh i h ∙ rest i h is)
      ]

  sink-slots : (p : ℕ) (t : Space) (π : List ℕ) (i : ℕ) → heap' p ≡ Table t π → i < width π → Names heap' t (i ∷ π) (memory' (p + i))
  sink-slots p t π i h hi =
      elim (cases_eq p q) [
        | inl is ↦
            let same : Table t π ≡ Table s (j ∷ above) = sym h ∙ ap heap' is ∙ placed.now in
            let t_is : t ≡ s = cc in
            let π_is : π ≡ j ∷ above = cc in
            let small : i < 16 = rw π_is at hi in
            rw (t_is, π_is, is) (fresh_slot i small)
        | inr is ↦
            let stood : heap p ≡ Table t π = sym (placed.same p is) ∙ h in
            elim (cases_eq (p + i) (u + j)) [
              | inl at ↦
                  let one = same_slot heap counter u j p i s t above π laid.shape here within stood hi (sym at) in
                  let same : Table t π ≡ Table s above = sym stood ∙ ap heap (sym one.0) ∙ here in
                  let t_is : t ≡ s = cc in
                  let π_is : π ≡ above = cc in
                  inr (inr record {
                    place = q;
                    is = ap memory' at ∙ wrote.now;
                    here = placed.now ∙ sym (ap (λ x. Table t (x ∷ π)) (sym one.1) ∙ ap (λ x. Table t (j ∷ x)) π_is ∙ ap (λ x. Table x (j ∷ above)) t_is);
                  })
              | inr at ↦ names_on t (i ∷ π) (memory (p + i)) (memory' (p + i)) (wrote.same (p + i) at) (laid.tries.slots p t π i stood hi)
            ]
      ]

  sink-cells : Cells heap'
  sink-cells = record {
    objects = λ p e n h h0.
        let x = laid.cells.objects p e n (before p (Record Objects e n) h (λ clash. cc)) h0 in
        record {
          words = x.words;
          here = placed.same n (λ is. let clash : Content p x.words ≡ Claimed ws = sym x.here ∙ ap heap is ∙ mine in cc) ∙ x.here;
        };
    contents = λ p t xs h.
        let x = laid.cells.contents p t xs (before p (Content t xs) h (λ clash. cc)) in
        record {
          digest = x.digest;
          here = placed.same t (record_not_claimed Objects x.digest p t x.here) ∙ x.here;
        };
    actions = λ p e n h h0.
        let x = laid.cells.actions p e n (before p (Record Actions e n) h (λ clash. cc)) h0 in
        record {
          digest = x.digest;
          content = x.content;
          here = placed.same n (record_not_claimed Objects x.digest x.content n x.here) ∙ x.here;
          filled = x.filled;
        };
  }

  pub sink : Laid heap' memory' counter
  sink = record {
    shape = sink-shape;
    keeps = record { held = sink-held; clear = sink-clear };
    tries = record {
      roots = sink-roots;
      only = sink-only;
      levels = sink-levels;
      slots = sink-slots;
      tables = sink-tables;
      records = sink-records;
      digests = sink-digests;
    };
    cells = sink-cells;
  }
