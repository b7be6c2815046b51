-- An empty slot becomes a record.
use Rattle.std.proofs.Common.{◌≡◌, ◌≢◌, ℕ, ◌+◌, ◌*◌, ◌<◌, List, [], ◌∷◌, ◌++◌, length, suc, inl, inr, sym, ap, ◌∙◌, arith}
use Rattle.std.proofs.lemmas.Bool.{cases_eq}
use Rattle.cas_model.specs.declared.place.Space.{Space}
use Rattle.cas_model.specs.declared.place.Space.TheVariants.{Objects, Actions}
use Rattle.cas_model.specs.Trie.{IsDigest, path, index_of}
use Rattle.region_core.specs.Words.{root, width, words_of}
use Rattle.region_core.specs.Heap.{Block, Free, Table, Record, Content, Claimed, extent, fixed, Shape, Keeps, Tries, Cells, Laid}
use Rattle.region_core.specs.Change.{Wrote, Placed}
use Rattle.region_core.proofs.Heap.{SameTries, names_on, slot_apart, same_slot, placed_shape, stay, came, placed_keeps}

module _ (heap heap' : ℕ → Block) (memory memory' : ℕ → ℕ) (counter : ℕ)
    (s : Space) (above : List ℕ) (u j q : ℕ) (d : List ℕ)
    (laid : Laid heap memory counter)
    (here : heap u ≡ Table s above)
    (within : j < width above)
    (leads : path d (suc (length above)) ≡ j ∷ above)
    (empty : memory (u + j) ≡ 0)
    (mine : heap q ≡ Claimed (words_of d ++ 0 ∷ []))
    (digest : IsDigest d)
    (wrote : Wrote memory memory' (u + j) (4 * q + 1))
    (placed : Placed heap heap' q (Record s d 0)) where
  old : Block
  old = Claimed (words_of d ++ 0 ∷ [])

  bound-stay : (p : ℕ) (b : Block) → heap p ≡ b → b ≢ Claimed (words_of d ++ 0 ∷ []) → heap' p ≡ b
  bound-stay p b h other = stay heap heap' q p (Claimed (words_of d ++ 0 ∷ [])) (Record s d 0) b placed mine h other

  bound-came : (p : ℕ) (b : Block) → heap' p ≡ b → b ≢ Record s d 0 → heap p ≡ b
  bound-came p b h other = came heap heap' q p (Record s d 0) b placed h other

  bound-on : SameTries heap heap'
  bound-on = record {
    table = λ p t π h. bound-stay p (Table t π) h (λ e. cc);
    record_ = λ p t e c h. (c, bound-stay p (Record t e c) h (λ e. cc));
  }

  bound-shape : Shape heap' counter
  bound-shape = placed_shape heap heap' counter q (Record s d 0) placed (sym (ap extent mine)) (λ free. let clash : Claimed (words_of d ++ 0 ∷ []) ≡ Free = sym mine ∙ free in cc) laid.shape

  bound-keeps : Keeps heap' memory' counter
  bound-keeps =
      let now = placed_keeps heap heap' memory counter q (Record s d 0) laid.keeps placed (sym (ap fixed mine)) in
      let table : heap' u ≡ Table s above = bound-stay u (Table s above) here (λ e. cc) in
      record {
        held = λ p i h. wrote.same (p + i) (slot_apart heap' counter u j p i s above bound-shape table within h) ∙ now.held p i h;
        clear = λ i h. wrote.same i (λ e. omega (arith, laid.shape.high u (rw here (omega arith)), ap extent here)) ∙ laid.keeps.clear i h;
      }

  -- a slot that is not empty is another
  other_slot : (v i w : ℕ) → memory (v + i) ≡ suc w → memory' (v + i) ≡ suc w
  other_slot v i w h = wrote.same (v + i) (λ e. let zero_is : memory (v + i) ≡ 0 = ap memory e ∙ empty in omega arith) ∙ h

  bound-tries : Tries heap' memory'
  bound-tries = record {
    roots = λ t. bound-on.table (root t) t [] (laid.tries.roots t);
    only = λ p t h. laid.tries.only p t (bound-came p (Table t []) h (λ e. cc));
    levels = λ p t π h. laid.tries.levels p t π (bound-came p (Table t π) h (λ e. cc));
    slots = λ p t π i h hi.
        let stood : heap p ≡ Table t π = bound-came p (Table t π) h (λ e. cc) in
        elim (cases_eq (p + i) (u + j)) [
          | inl at ↦
              let one = same_slot heap counter u j p i s t above π laid.shape here within stood hi (sym at) in
              let same : Table t π ≡ Table s above = sym stood ∙ ap heap (sym one.0) ∙ here in
              let t_is : t ≡ s = cc in
              let π_is : π ≡ above = cc in
              inr (inl record {
                place = q;
                digest = d;
                cell = 0;
                is = ap memory' at ∙ wrote.now;
                here = placed.now ∙ sym (ap (λ x. Record x d 0) t_is);
                leads = ap (λ x. path d (suc (length x))) π_is ∙ leads ∙ sym (ap (λ x. x ∷ π) (sym one.1) ∙ ap (λ x. j ∷ x) π_is);
              })
          | inr at ↦ names_on heap heap' t (i ∷ π) (memory (p + i)) (memory' (p + i)) bound-on (wrote.same (p + i) at) (laid.tries.slots p t π i stood hi)
        ];
    tables = λ p t π i h.
        let x = laid.tries.tables p t π i (bound-came p (Table t (i ∷ π)) h (λ e. cc)) in
        record {
          table = x.table;
          here = bound-on.table x.table t π x.here;
          within = x.within;
          is = wrote.same (x.table + i) (λ e. let none : memory (x.table + i) ≡ 0 = ap memory e ∙ empty in omega (arith, x.is)) ∙ x.is;
        };
    records = λ p t e c h.
        elim (cases_eq p q) [
          | inl at ↦
              let same : Record t e c ≡ Record s d 0 = sym h ∙ ap heap' at ∙ placed.now in
              let t_is : t ≡ s = cc in
              let e_is : e ≡ d = cc in
              let parts : index_of d (length above) ∷ path d (length above) ≡ j ∷ above = leads in
              let j_is : index_of d (length above) ≡ j = cc in
              let π_is : path d (length above) ≡ above = cc in
              let j_of : index_of e (length above) ≡ j = ap (λ x. index_of x (length above)) e_is ∙ j_is in
              let π_of : path e (length above) ≡ above = ap (λ x. path x (length above)) e_is ∙ π_is in
              record {
                level = length above;
                table = u;
                here = bound-stay u (Table s above) here (λ e. cc) ∙ sym (ap (λ x. Table t x) π_of ∙ ap (λ x. Table x above) t_is);
                within = rw (j_of, π_of) within;
                is = ap (λ x. memory' (u + x)) j_of ∙ wrote.now ∙ ap (λ x. 4 * x + 1) (sym at);
              }
          | inr at ↦
              let x = laid.tries.records p t e c (sym (placed.same p at) ∙ h) in
              record {
                level = x.level;
                table = x.table;
                here = bound-on.table x.table t (path e x.level) x.here;
                within = x.within;
                is = wrote.same (x.table + index_of e x.level) (λ is. let none : memory (x.table + index_of e x.level) ≡ 0 = ap memory is ∙ empty in omega (arith, x.is)) ∙ x.is;
              }
        ];
    digests = λ p t e c h.
        elim (cases_eq p q) [
          | inl at ↦
              let same : Record t e c ≡ Record s d 0 = sym h ∙ ap heap' at ∙ placed.now in
              let e_is : e ≡ d = cc in
              rw e_is digest
          | inr at ↦ laid.tries.digests p t e c (sym (placed.same p at) ∙ h)
        ];
  }

  filled_before : (t : Space) (p : ℕ) (e : List ℕ) (c : ℕ) → heap' p ≡ Record t e c → c ≢ 0 → heap p ≡ Record t e c
  filled_before t p e c h filled = bound-came p (Record t e c) h (λ clash. let zero_is : c ≡ 0 = cc in filled zero_is)

  bound-cells : Cells heap'
  bound-cells = record {
    objects = λ p e c h filled.
        let x = laid.cells.objects p e c (filled_before Objects p e c h filled) filled in
        record { words = x.words; here = bound-stay c (Content p x.words) x.here (λ e. cc) };
    contents = λ p r xs h.
        let x = laid.cells.contents p r xs (bound-came p (Content r xs) h (λ e. cc)) in
        record { digest = x.digest; here = bound-stay r (Record Objects x.digest p) x.here (λ e. cc) };
    actions = λ p e c h filled.
        let x = laid.cells.actions p e c (filled_before Actions p e c h filled) filled in
        record { digest = x.digest; content = x.content; filled = x.filled; here = bound-stay c (Record Objects x.digest x.content) x.here (λ e. cc) };
  }

  pub bind : Laid heap' memory' counter
  bind = record { shape = bound-shape; keeps = bound-keeps; tries = bound-tries; cells = bound-cells }
