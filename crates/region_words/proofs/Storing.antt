-- A store into a seat's block keeps the rule. Nothing is seen.
use Rattle.std.proofs.Common.{◌≡◌, ◌≢◌, ◌⊎◌, ℕ, ◌+◌, ◌<◌, ◌≤◌, List, [], length, set, length-set, get_or-set_other, Some, refl, sym, ap, ◌∙◌, subst, inl, inr, arith}
use mathlib.Core.Option.{some, none}
use lib.ListN.{get_elem?}
use Rattle.atomic_table.specs.Table.{Me, step, keeps, Allows}
use Rattle.cas_model.specs.Tables.{HasClaim}
use Rattle.cas_history.specs.declared.event.Event.{Event}
use Rattle.cas_history.proofs.Grown.{size-same}
use Rattle.cas_history.proofs.Placed.{placed-run}
use Rattle.cas_port.specs.declared.block.OpenBlock.{OpenBlock}
use Rattle.cas_port.specs.View.{written_words, write_word}
use Rattle.region_core.specs.Change.{Placed}
use Rattle.region_core.specs.Heap.{Block, Table, Claimed, extent, memory_of}
use Rattle.region_core.proofs.Claim.{write_claimed}
use Rattle.region_core.proofs.Going.{goes_write}
use Rattle.region_core.proofs.Heap.{stay}
use Rattle.region_core.proofs.Inserting.{put, placed_put, wrote_set}
use Rattle.region_words.specs.Blocks.{block_at, AreSingle, all_blocks, held}
use Rattle.region_words.specs.Rule.{Holds, origin, writing, writes, HasWordIn}
use Rattle.region_words.specs.Running.{Origin, after, IsMine, AreKnown, IsRunning}
use Rattle.region_words.specs.declared.hold.Hold.{Hold}
use Rattle.region_words.specs.declared.rule.Key.{Key}
use Rattle.region_words.specs.declared.view.SeatView.{SeatView}
use Rattle.region_words.proofs.Holding.{put_in, write-at, write-single, words-open, held-at, writing-all, writing-known, writing-seen, writing-numbers, writing-given, writing-heard}
use Rattle.region_words.proofs.Keeping.{kept-with, known-stay, TablesStay, WasOr}
use Rattle.region_words.proofs.Labelling.{written-set, written-length}
use Rattle.region_words.proofs.Viewing.{go-still}

-- ---- a law over plain data

module _ (first : List ℕ) (o : Origin) (log : List Event) (heap : ℕ → Block) (words : List ℕ) (views : List SeatView) (r : IsRunning first o log heap words views) (id : ℕ) (v : SeatView) (at : get_elem? views id ≡ some v)
    (q i x : ℕ) (b : OpenBlock) (here : block_at (all_blocks v) q ≡ Some b) (inside : i < length b.words) where
  owned : IsMine heap (after o log) q b
  owned = r.mine id v q b at here

  placed : Placed heap (put heap q (Claimed (set (written_words b.words) i x))) q (Claimed (set (written_words b.words) i x))
  placed = placed_put heap q (Claimed (set (written_words b.words) i x))

  long : extent (heap q) ≡ length b.words
  long = ap extent owned.here ∙ written-length b.words

  low : 8 ≤ q
  low = let z = long in r.laid.shape.low q (omega arith)

  fits : q + i < length words
  fits =
      let z = long in
      let high = r.laid.shape.high q (omega arith) in
      let given = (placed-run o.upstream o.start log r.run).within_size in
      let same = size-same o.upstream o.start log r.run in
      let all = r.size in
      omega arith

  stays : TablesStay heap (put heap q (Claimed (set (written_words b.words) i x)))
  stays p s π z = stay heap (put heap q (Claimed (set (written_words b.words) i x))) q p (Claimed (written_words b.words)) (Claimed (set (written_words b.words) i x)) (Table s π) placed owned.here z (λ y. cc y)

  now-mine : IsMine (put heap q (Claimed (set (written_words b.words) i x))) (after o log) q (put_in i x b)
  now-mine = record {
    here = placed.now ∙ ap Claimed (sym (written-set b.words i x));
    claimed = subst (λ (n : ℕ). HasClaim (after o log).claims b.who q n) (sym (length-set b.words i (Some x))) owned.claimed;
  }

  pub stored-run : (w : SeatView) → all_blocks w ≡ write_word (all_blocks v) q i x → w.known ≡ v.known
      → IsRunning first o log (put heap q (Claimed (set (written_words b.words) i x))) (set words (q + i) x) (set views id w)
  stored-run w blocks known =
      kept-with first o log heap words views r id v at w [] (put heap q (Claimed (set (written_words b.words) i x))) (set words (q + i) x) (after o log) refl r.run r.once r.small
      (length-set words (q + i) x)
      (get_or-set_other words (q + i) 3 x 0 (λ e. let l = low in omega arith) ∙ r.counter)
      (λ k small _. get_or-set_other words (q + i) k x 0 (λ e. let l = low in omega arith))
      (write_claimed heap (put heap q (Claimed (set (written_words b.words) i x))) (memory_of words) (memory_of (set words (q + i) x)) (after o log).given q i x (written_words b.words) r.laid owned.here
      (let l = written-length b.words in omega arith) (wrote_set words (q + i) x fits) placed)
      (goes_write heap (put heap q (Claimed (set (written_words b.words) i x))) (after o log) (written_words b.words) (set (written_words b.words) i x) q r.goes owned.here placed)
      (λ p c h. mine p c (write-at q i x p (all_blocks v) c (sym (ap (λ bs. block_at bs p) blocks) ∙ h)))
      (λ j u p c off e h. let old = r.mine j u p c e h in record { here = placed.same p (λ pq. off (r.lone j id u v q c b e at (ap (block_at (all_blocks u)) (sym pq) ∙ h) here)) ∙ old.here; claimed = old.claimed })
      (subst AreSingle (sym blocks) (write-single q i x (all_blocks v) (r.single id v at)))
      stays
      (subst (AreKnown (put heap q (Claimed (set (written_words b.words) i x)))) (sym known) (known-stay heap (put heap q (Claimed (set (written_words b.words) i x))) v.known stays (r.known id v at)))
    where
      mine : (p : ℕ) (c : OpenBlock) → ((a : OpenBlock) × (block_at (all_blocks v) p ≡ Some a) × (((q ≡ p) × (c ≡ put_in i x a)) ⊎ ((q ≢ p) × (c ≡ a))))
          → IsMine (put heap q (Claimed (set (written_words b.words) i x))) (after o log) p c × WasOr v views p
      mine p c z = elim z.2 [
        | inl y ↦
            let same : Some z.0 ≡ Some b = sym z.1 ∙ ap (block_at (all_blocks v)) (sym y.0) ∙ here in
            let one : z.0 ≡ b = cc same in
            let c_is : c ≡ put_in i x b = y.1 ∙ ap (put_in i x) one in (
              subst (λ (a : OpenBlock). IsMine (put heap q (Claimed (set (written_words b.words) i x))) (after o log) p a) (sym c_is)
                  (subst (λ (k : ℕ). IsMine (put heap q (Claimed (set (written_words b.words) i x))) (after o log) k (put_in i x b)) y.0 now-mine),
              inl (z.0, z.1),
            )
        | inr y ↦
            let old = r.mine id v p z.0 at z.1 in (
              subst (λ (a : OpenBlock). IsMine (put heap q (Claimed (set (written_words b.words) i x))) (after o log) p a) (sym y.1) record { here = placed.same p (λ e. y.0 (sym e)) ∙ old.here; claimed = old.claimed },
              inl (z.0, z.1),
            )
      ]

-- ---- the step

pub stores : (key : Key) (slots id : ℕ) (me : Me (Unit {0}) SeatView) (hold : Hold) (q i x : ℕ) → HasWordIn hold me.0 q i
    → Allows (Holds key) slots id me (q + i) (λ _. x) (λ _. writes hold q i (step slots (q + i) x 0 none) me x)
stores key slots id me hold q i x inside s h len at small =
    let t = words-open (held hold me.0) q i inside in
    let single = h.2.single id me.0 at in
    let here = held-at hold me.0 q t.0 single t.1 in (
      writing hold me.0 q i x,
      keeps,
      tt,
      (
        h.0,
        put h.1 q (Claimed (set (written_words t.0.words) i x)),
        stored-run key.primary.value.words (origin key) h.0 h.1 s.words s.views h.2 id me.0 at q i x t.0 here t.2 (writing hold me.0 q i x) (writing-all hold me.0 q i x t.0 single t.1) (writing-known me.0 q i x hold),
        go-still h.0 s.views h.3 id me.0 (writing hold me.0 q i x) at (writing-seen me.0 q i x hold) (writing-numbers me.0 q i x hold) (writing-given me.0 q i x hold) (writing-heard me.0 q i x hold),
      ),
      (refl, refl),
    )
