-- A claim moves the counter, and a word is written into a claimed block.
use Rattle.std.proofs.Common.{◌≡◌, ◌≢◌, ℕ, ◌+◌, ◌<◌, ◌≤◌, List, ◌++◌, length, get_or, set, length-set, replicate, inl, inr, refl, sym, ap, ◌∙◌, arith}
use Rattle.std.proofs.lemmas.Bool.{cases_eq}
use Rattle.std.proofs.lemmas.List.{length-replicate, get_or-replicate, length-append, get_or_append_left, get_or-append-add, get_or_past}
use Rattle.cas_model.specs.declared.place.Space.{Space}
use Rattle.cas_model.specs.declared.place.Space.TheVariants.{Objects, Actions}
use Rattle.region_core.specs.Words.{root}
use Rattle.region_core.specs.Heap.{Block, Free, Table, Record, Content, Claimed, extent, fixed, Shape, Keeps, Cells, Laid, memory_of}
use Rattle.region_core.specs.Change.{Wrote, Placed}
use Rattle.region_core.proofs.Heap.{SameTries, fixed_within, placed_shape, same_tries, stay, came, wrote_keeps, slots_same}

-- a block that is neither table nor record changes into another
pub plain_tries : (heap heap' : ℕ → Block) (q : ℕ) (old new : Block) → Placed heap heap' q new → heap q ≡ old → ((s : Space) (π : List ℕ) → Table s π ≢ old) → ((s : Space) (d : List ℕ) (c : ℕ) → Record s d c ≢ old) → SameTries heap heap'
plain_tries heap heap' q old new placed was table record_ = record {
  table = λ p s π h. stay heap heap' q p old new (Table s π) placed was h (table s π);
  record_ = λ p s d c h. (c, stay heap heap' q p old new (Record s d c) placed was h (record_ s d c));
}

pub plain_back : (heap heap' : ℕ → Block) (q : ℕ) (new : Block) → Placed heap heap' q new → ((s : Space) (π : List ℕ) → Table s π ≢ new) → ((s : Space) (d : List ℕ) (c : ℕ) → Record s d c ≢ new) → SameTries heap' heap
plain_back heap heap' q new placed table record_ = record {
  table = λ p s π h. came heap heap' q p new (Table s π) placed h (table s π);
  record_ = λ p s d c h. (c, came heap heap' q p new (Record s d c) placed h (record_ s d c));
}

pub plain_cells : (heap heap' : ℕ → Block) (q : ℕ) (old new : Block) → Placed heap heap' q new → heap q ≡ old → ((s : Space) (d : List ℕ) (c : ℕ) → Record s d c ≢ old) → ((r : ℕ) (xs : List ℕ) → Content r xs ≢ old) → ((s : Space) (d : List ℕ) (c : ℕ) → Record s d c ≢ new) → ((r : ℕ) (xs : List ℕ) → Content r xs ≢ new) → Cells heap → Cells heap'
plain_cells heap heap' q old new placed was r_old c_old r_new c_new cells = record {
  objects = λ p d c h h0.
      let x = cells.objects p d c (came heap heap' q p new (Record Objects d c) placed h (r_new Objects d c)) h0 in
      record { words = x.words; here = stay heap heap' q c old new (Content p x.words) placed was x.here (c_old p x.words) };
  contents = λ p r xs h.
      let x = cells.contents p r xs (came heap heap' q p new (Content r xs) placed h (c_new r xs)) in
      record { digest = x.digest; here = stay heap heap' q r old new (Record Objects x.digest p) placed was x.here (r_old Objects x.digest p) };
  actions = λ p d c h h0.
      let x = cells.actions p d c (came heap heap' q p new (Record Actions d c) placed h (r_new Actions d c)) h0 in
      record { digest = x.digest; content = x.content; filled = x.filled; here = stay heap heap' q c old new (Record Objects x.digest x.content) placed was x.here (r_old Objects x.digest x.content) };
}

-- a word is written into a claimed block
pub write_claimed : (heap heap' : ℕ → Block) (memory memory' : ℕ → ℕ) (counter q i w : ℕ) (ws : List ℕ) → Laid heap memory counter → heap q ≡ Claimed ws → i < length ws → Wrote memory memory' (q + i) w → Placed heap heap' q (Claimed (set ws i w)) → Laid heap' memory' counter
write_claimed heap heap' memory memory' counter q i w ws laid mine hi wrote placed =
    let fits : i < length (fixed (heap q)) = rw mine hi in
    record {
      shape = placed_shape heap heap' counter q (Claimed (set ws i w)) placed (rw mine (length-set ws i w)) (λ free. let clash : Claimed ws ≡ Free = sym mine ∙ free in cc) laid.shape;
      keeps = wrote_keeps heap heap' memory memory' counter q i w (Claimed (set ws i w)) laid.shape laid.keeps placed wrote fits (rw mine refl);
      tries = same_tries heap heap' memory memory'
          (plain_tries heap heap' q (Claimed ws) (Claimed (set ws i w)) placed mine (λ s π e. cc) (λ s d c e. cc))
          (plain_back heap heap' q (Claimed (set ws i w)) placed (λ s π e. cc) (λ s d c e. cc))
          (slots_same heap memory memory' counter q i w laid.shape wrote fits) laid.tries;
      cells = plain_cells heap heap' q (Claimed ws) (Claimed (set ws i w)) placed mine (λ s d c e. cc) (λ r xs e. cc) (λ s d c e. cc) (λ r xs e. cc) laid.cells;
    }

-- at the counter nothing begins
pub free_at_counter : (heap : ℕ → Block) (counter : ℕ) → Shape heap counter → heap counter ≡ Free
free_at_counter heap counter shape =
    elim (cases_eq (extent (heap counter)) 0) [
      | inl e ↦ shape.solid counter e
      | inr e ↦ absurd (omega (arith, shape.high counter (omega arith)))
    ]

-- a block is claimed, and its words are written
module _ (heap heap' : ℕ → Block) (memory memory' : ℕ → ℕ) (counter n : ℕ) (xs : List ℕ) (laid : Laid heap memory counter) (size : length xs ≡ n) (some : 0 < n) (placed : Placed heap heap' counter (Claimed xs))
    (below : (i : ℕ) → i < counter → memory' i ≡ memory i)
    (within : (i : ℕ) → i < n → memory' (counter + i) ≡ get_or xs i 0)
    (past : (i : ℕ) → counter + n ≤ i → memory' i ≡ 0) where
  was : heap counter ≡ Free
  was = free_at_counter heap counter laid.shape

  new_extent : extent (heap' counter) ≡ n
  new_extent = ap extent placed.now ∙ size

  old_extent : (p : ℕ) → p ≢ counter → extent (heap' p) ≡ extent (heap p)
  old_extent p e = ap extent (placed.same p e)

  claim-shape : Shape heap' (counter + n)
  claim-shape = record {
    apart = λ p q h1 h2. elim (cases_eq p counter) [
      | inl e ↦
          elim (cases_eq (extent (heap' q)) 0) [
            | inl none ↦ none
            | inr some ↦ absurd (omega (arith, old_extent q (omega arith), laid.shape.high q (omega (arith, old_extent q (omega arith)))))
          ]
      | inr e ↦
          elim (cases_eq q counter) [
            | inl at ↦ absurd (omega (arith, old_extent p e, laid.shape.high p (omega (arith, old_extent p e))))
            | inr at ↦ old_extent q at ∙ laid.shape.apart p q h1 (omega (arith, old_extent p e))
          ]
    ];
    low = λ p h. elim (cases_eq p counter) [
      | inl e ↦ omega (arith, laid.shape.low (root Objects) (rw (laid.tries.roots Objects) (omega arith)), laid.shape.high (root Objects) (rw (laid.tries.roots Objects) (omega arith)))
      | inr e ↦ laid.shape.low p (omega (arith, old_extent p e))
    ];
    high = λ p h. elim (cases_eq p counter) [
      | inl e ↦ let x : extent (heap' p) ≡ n = ap (λ y. extent (heap' y)) e ∙ new_extent in omega arith
      | inr e ↦ omega (arith, old_extent p e, laid.shape.high p (omega (arith, old_extent p e)))
    ];
    solid = λ p h. elim (cases_eq p counter) [
      | inl e ↦ let x : extent (heap' p) ≡ n = ap (λ y. extent (heap' y)) e ∙ new_extent in absurd (omega arith)
      | inr e ↦ placed.same p e ∙ laid.shape.solid p (sym (old_extent p e) ∙ h)
    ];
  }

  claim-keeps : Keeps heap' memory' (counter + n)
  claim-keeps = record {
    held = λ p i h. elim (cases_eq p counter) [
      | inl e ↦
          let now : fixed (heap' p) ≡ xs = ap (λ x. fixed (heap' x)) e ∙ ap fixed placed.now in
          let long : length (fixed (heap' p)) ≡ n = ap length now ∙ size in
          rw (now, e) (within i (omega arith))
      | inr e ↦
          let now : fixed (heap' p) ≡ fixed (heap p) = ap fixed (placed.same p e) in
          let long : length (fixed (heap' p)) ≡ length (fixed (heap p)) = ap length now in
          let inside : p + extent (heap p) ≤ counter = laid.shape.high p (omega (arith, fixed_within (heap p))) in
          rw now (below (p + i) (omega (arith, fixed_within (heap p))) ∙ laid.keeps.held p i (omega arith))
    ];
    clear = past;
  }

  pub claim_filled : Laid heap' memory' (counter + n)
  claim_filled = record {
    shape = claim-shape;
    keeps = claim-keeps;
    tries = same_tries heap heap' memory memory'
        (plain_tries heap heap' counter Free (Claimed xs) placed was (λ s π e. cc) (λ s d c e. cc))
        (plain_back heap heap' counter (Claimed xs) placed (λ s π e. cc) (λ s d c e. cc))
        (λ p s π j h hj. below (p + j) (omega (arith, laid.shape.high p (rw h (omega arith)), ap extent h))) laid.tries;
    cells = plain_cells heap heap' counter Free (Claimed xs) placed was (λ s d c e. cc) (λ r xs e. cc) (λ s d c e. cc) (λ r xs e. cc) laid.cells;
  }

-- a claim alone: what no claim has given is 0
pub claim : (heap heap' : ℕ → Block) (memory : ℕ → ℕ) (counter n : ℕ) → Laid heap memory counter → 0 < n → Placed heap heap' counter (Claimed (replicate n 0)) → Laid heap' memory (counter + n)
claim heap heap' memory counter n laid some placed =
    claim_filled heap heap' memory memory counter n (replicate n 0) laid (length-replicate n 0) some placed (λ i h. refl)
    (λ i h. laid.keeps.clear (counter + i) (omega arith) ∙ sym (get_or-replicate n i 0 0 h))
    (λ i h. laid.keeps.clear i (omega arith))

-- words are pushed as one block
pub append : (heap heap' : ℕ → Block) (ws xs : List ℕ) → Laid heap (memory_of ws) (length ws) → 0 < length xs → Placed heap heap' (length ws) (Claimed xs) → Laid heap' (memory_of (ws ++ xs)) (length (ws ++ xs))
append heap heap' ws xs laid some placed =
    rw length-append (claim_filled heap heap' (memory_of ws) (memory_of (ws ++ xs)) (length ws) (length xs) xs laid refl some placed
    (λ i h. get_or_append_left ws xs 0 i h)
    (λ i h. get_or-append-add ws xs i 0)
    (λ i h. get_or_past (ws ++ xs) i 0 (omega (arith, length-append ws xs))))
