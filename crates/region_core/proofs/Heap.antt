-- What every change of a laid region has in common.
use Rattle.std.proofs.Common.{◌≡◌, ◌≢◌, ℕ, ◌+◌, ◌<◌, ◌≤◌, List, [], ◌∷◌, length, set, length-set, get_or-set_same, get_or-set_other, inl, inr, sym, ap, ◌∙◌, arith}
use Rattle.std.proofs.lemmas.Bool.{cases_eq, cases_order}
use Rattle.cas_model.specs.declared.place.Space.{Space}
use Rattle.cas_model.specs.Trie.{path, index_of}
use Rattle.region_core.specs.Words.{root, width}
use Rattle.region_core.specs.Heap.{Block, Free, Table, Record, Content, Claimed, extent, fixed, Names, Shape, Keeps, Tries}
use Rattle.region_core.specs.Change.{Wrote, Placed}

pub fixed_within : (b : Block) → length (fixed b) ≤ extent b
fixed_within Free = omega arith
fixed_within (Table s above) = omega arith
fixed_within (Record s d c) = omega arith
fixed_within (Content r ws) = omega arith
fixed_within (Claimed ws) = omega arith

-- a table has slots
pub wide : (above : List ℕ) → 16 ≤ width above
wide [] = omega arith
wide (j ∷ js) = omega arith

pub same_block : (heap : ℕ → Block) (counter p q i j : ℕ) → Shape heap counter → i < extent (heap p) → j < extent (heap q) → p + i ≡ q + j → p ≡ q
same_block heap counter p q i j shape hi hj e =
    elim (cases_order p q) [
      | inl same ↦ same
      | inr (inl less) ↦ absurd (omega (arith, shape.apart p q less (omega arith)))
      | inr (inr more) ↦ absurd (omega (arith, shape.apart q p more (omega arith)))
    ]

-- a slot is in no block's fixed words
pub slot_apart : (heap : ℕ → Block) (counter u j p i : ℕ) (s : Space) (above : List ℕ) → Shape heap counter → heap u ≡ Table s above → j < width above → i < length (fixed (heap p)) → p + i ≢ u + j
slot_apart heap counter u j p i s above shape here hj hi e =
    let same : p ≡ u = same_block heap counter p u i j shape (omega (arith, fixed_within (heap p))) (rw here hj) e in
    let none : length (fixed (heap p)) ≡ 0 = ap (λ q. length (fixed (heap q))) same ∙ ap (λ b. length (fixed b)) here in
    omega arith

-- two slots at one place are one slot
pub same_slot : (heap : ℕ → Block) (counter u j v i : ℕ) (s t : Space) (above beyond : List ℕ) → Shape heap counter → heap u ≡ Table s above → j < width above → heap v ≡ Table t beyond → i < width beyond → u + j ≡ v + i → (u ≡ v) × (j ≡ i)
same_slot heap counter u j v i s t above beyond shape here hj there hi e =
    let same : u ≡ v = same_block heap counter u v j i shape (rw here hj) (rw there hi) e in
    (same, omega arith)

-- blocks of the same sizes at the same places
pub same_shape : (heap heap' : ℕ → Block) (counter : ℕ) → ((p : ℕ) → extent (heap' p) ≡ extent (heap p)) → ((p : ℕ) → heap p ≡ Free → heap' p ≡ Free) → Shape heap counter → Shape heap' counter
same_shape heap heap' counter extents free shape = record {
  apart = λ p q h1 h2. extents q ∙ shape.apart p q h1 (omega (arith, extents p));
  low = λ p h. shape.low p (omega (arith, extents p));
  high = λ p h. omega (arith, extents p, shape.high p (omega (arith, extents p)));
  solid = λ p h. free p (shape.solid p (sym (extents p) ∙ h));
}

-- a block changes into one of the same size
pub placed_shape : (heap heap' : ℕ → Block) (counter q : ℕ) (b : Block) → Placed heap heap' q b → extent b ≡ extent (heap q) → heap q ≢ Free → Shape heap counter → Shape heap' counter
placed_shape heap heap' counter q b placed size busy shape =
    same_shape heap heap' counter
    (λ p. elim (cases_eq p q) [
      | inl e ↦ ap (λ x. extent (heap' x)) e ∙ ap extent placed.now ∙ size ∙ sym (ap (λ x. extent (heap x)) e)
      | inr e ↦ ap extent (placed.same p e)
    ])
    (λ p h. elim (cases_eq p q) [
      | inl e ↦ absurd (busy (sym (ap heap e) ∙ h))
      | inr e ↦ placed.same p e ∙ h
    ])
    shape

-- what tries see of a heap
pub record SameTries (heap heap' : ℕ → Block) : Type 0 where
  pub table : (p : ℕ) (s : Space) (π : List ℕ) → heap p ≡ Table s π → heap' p ≡ Table s π
  pub record_ : (p : ℕ) (s : Space) (d : List ℕ) (c : ℕ) → heap p ≡ Record s d c → (n : ℕ) × (heap' p ≡ Record s d n)

pub names_on : (heap heap' : ℕ → Block) (s : Space) (π : List ℕ) (w w' : ℕ) → SameTries heap heap' → w' ≡ w → Names heap s π w → Names heap' s π w'
names_on heap heap' s π w w' same e names =
    elim names [
      | inl empty ↦ inl (e ∙ empty)
      | inr (inl x) ↦
          let stands = same.record_ x.place s x.digest x.cell x.here in
          inr (inl record {
            place = x.place;
            digest = x.digest;
            cell = stands.0;
            is = e ∙ x.is;
            here = stands.1;
            leads = x.leads;
          })
      | inr (inr x) ↦ inr (inr record {
        place = x.place;
        is = e ∙ x.is;
        here = same.table x.place s π x.here;
      })
    ]

-- a change that leaves tables, the digests of records, and slots
pub same_tries : (heap heap' : ℕ → Block) (memory memory' : ℕ → ℕ) → SameTries heap heap' → SameTries heap' heap → ((p : ℕ) (s : Space) (π : List ℕ) (j : ℕ) → heap p ≡ Table s π → j < width π → memory' (p + j) ≡ memory (p + j)) → Tries heap memory → Tries heap' memory'
same_tries heap heap' memory memory' on back slot tries = record {
  roots = λ s. on.table (root s) s [] (tries.roots s);
  only = λ p s h. tries.only p s (back.table p s [] h);
  levels = λ p s π h. tries.levels p s π (back.table p s π h);
  slots = λ p s π j h hj. names_on heap heap' s (j ∷ π) (memory (p + j)) (memory' (p + j)) on (slot p s π j (back.table p s π h) hj) (tries.slots p s π j (back.table p s π h) hj);
  tables = λ p s π j h.
      let x = tries.tables p s π j (back.table p s (j ∷ π) h) in
      record {
        table = x.table;
        here = on.table x.table s π x.here;
        within = x.within;
        is = slot x.table s π j x.here x.within ∙ x.is;
      };
  records = λ p s d c h.
      let stood = back.record_ p s d c h in
      let x = tries.records p s d stood.0 stood.1 in
      record {
        level = x.level;
        table = x.table;
        here = on.table x.table s (path d x.level) x.here;
        within = x.within;
        is = slot x.table s (path d x.level) (index_of d x.level) x.here x.within ∙ x.is;
      };
  digests = λ p s d c h. let stood = back.record_ p s d c h in tries.digests p s d stood.0 stood.1;
}

pub stay : (heap heap' : ℕ → Block) (q p : ℕ) (old new b : Block) → Placed heap heap' q new → heap q ≡ old → heap p ≡ b → b ≢ old → heap' p ≡ b
stay heap heap' q p old new b placed was h other = placed.same p (λ is. other (sym h ∙ ap heap is ∙ was)) ∙ h

pub came : (heap heap' : ℕ → Block) (q p : ℕ) (new b : Block) → Placed heap heap' q new → heap' p ≡ b → b ≢ new → heap p ≡ b
came heap heap' q p new b placed h other = sym (placed.same p (λ is. other (sym h ∙ ap heap' is ∙ placed.now))) ∙ h

-- a word of a block changes, and with it what the block fixes
pub wrote_keeps : (heap heap' : ℕ → Block) (memory memory' : ℕ → ℕ) (counter q i w : ℕ) (b : Block) → Shape heap counter → Keeps heap memory counter → Placed heap heap' q b → Wrote memory memory' (q + i) w → i < length (fixed (heap q)) → fixed b ≡ set (fixed (heap q)) i w → Keeps heap' memory' counter
wrote_keeps heap heap' memory memory' counter q i w b shape keeps placed wrote hi fixes =
    let fits : i < extent (heap q) = omega (arith, fixed_within (heap q)) in
    record {
      held = λ p k h. elim (cases_eq p q) [
        | inl is ↦
            let now : fixed (heap' p) ≡ set (fixed (heap q)) i w = ap (λ x. fixed (heap' x)) is ∙ ap fixed placed.now ∙ fixes in
            let long : length (fixed (heap' p)) ≡ length (fixed (heap q)) = ap length now ∙ length-set (fixed (heap q)) i w in
            rw (now, is) (elim (cases_eq k i) [
              | inl at ↦ rw at (wrote.now ∙ sym (get_or-set_same (fixed (heap q)) i w 0 hi))
              | inr at ↦ wrote.same (q + k) (λ e. at (omega arith)) ∙ keeps.held q k (omega arith) ∙ sym (get_or-set_other (fixed (heap q)) i k w 0 at)
            ])
        | inr is ↦
            let now : fixed (heap' p) ≡ fixed (heap p) = ap fixed (placed.same p is) in
            let long : length (fixed (heap' p)) ≡ length (fixed (heap p)) = ap length now in
            let fits_k : k < length (fixed (heap p)) = omega arith in
            rw now (wrote.same (p + k) (λ e. is (same_block heap counter p q k i shape (omega (arith, fixed_within (heap p))) fits e)) ∙ keeps.held p k fits_k)
      ];
      clear = λ k h. wrote.same k (λ e. omega (arith, shape.high q (omega arith))) ∙ keeps.clear k h;
    }

-- a block changes, and keeps what it fixes
pub placed_keeps : (heap heap' : ℕ → Block) (memory : ℕ → ℕ) (counter q : ℕ) (b : Block) → Keeps heap memory counter → Placed heap heap' q b → fixed b ≡ fixed (heap q) → Keeps heap' memory counter
placed_keeps heap heap' memory counter q b keeps placed fixes =
    let same : (p : ℕ) → fixed (heap' p) ≡ fixed (heap p) = λ p. elim (cases_eq p q) [
      | inl is ↦ ap (λ x. fixed (heap' x)) is ∙ ap fixed placed.now ∙ fixes ∙ sym (ap (λ x. fixed (heap x)) is)
      | inr is ↦ ap fixed (placed.same p is)
    ] in
    record {
      held = λ p k h. let long : length (fixed (heap' p)) ≡ length (fixed (heap p)) = ap length (same p) in rw (same p) (keeps.held p k (omega arith));
      clear = keeps.clear;
    }

-- no slot changes where a block's word is written
pub slots_same : (heap : ℕ → Block) (memory memory' : ℕ → ℕ) (counter q i w : ℕ) → Shape heap counter → Wrote memory memory' (q + i) w → i < length (fixed (heap q)) → (p : ℕ) (s : Space) (π : List ℕ) (j : ℕ) → heap p ≡ Table s π → j < width π → memory' (p + j) ≡ memory (p + j)
slots_same heap memory memory' counter q i w shape wrote hi p s π j here hj = wrote.same (p + j) (λ e. slot_apart heap counter p j q i s π shape here hj hi (sym e))
