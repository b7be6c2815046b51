-- One law for every step: what it owes of the words, the labels and the blocks, for the words to go on with the run.
use Rattle.std.proofs.Common.{◌≡◌, ◌≢◌, ◌⊎◌, ℕ, ◌<◌, ◌≤◌, List, [], ◌∷◌, ◌++◌, length, set, Some, refl, sym, ap, ◌∙◌, subst, inl, inr}
use Rattle.std.specs.Prelude.{slice_index}
use mathlib.Core.Option.{some}
use lib.ListN.{get_elem?}
use Rattle.cas_model.specs.declared.place.Space.{Space}
use Rattle.cas_model.specs.Tables.{Tables}
use Rattle.cas_history.specs.declared.event.Event.{Event}
use Rattle.cas_history.specs.History.{events_of}
use Rattle.cas_port.specs.declared.block.OpenBlock.{OpenBlock}
use Rattle.region_core.specs.Goes.{Goes}
use Rattle.region_core.specs.Heap.{Block, Table, Laid, memory_of}
use Rattle.region_words.specs.Blocks.{block_at, AreSingle, all_blocks}
use Rattle.region_words.specs.Moves.{moves_in, MovesAreSmall}
use Rattle.region_words.specs.Running.{Origin, IsRun, after, IsMine, AreKnown, IsRunning}
use Rattle.region_words.specs.declared.view.KnownTable.{KnownTable}
use Rattle.region_words.specs.declared.view.SeatView.{SeatView}
use Rattle.region_words.proofs.Lists.{each-set}

-- the tables that a labelling has, stay in another
abbrev pub TablesStay : (ℕ → Block) → (ℕ → Block) → Type 0
TablesStay heap heap' = (p : ℕ) (s : Space) (π : List ℕ) → heap p ≡ Table s π → heap' p ≡ Table s π

pub known-stay : (heap heap' : ℕ → Block) (ks : List KnownTable) → TablesStay heap heap' → AreKnown heap ks → AreKnown heap' ks
known-stay heap heap' [] on all = tt
known-stay heap heap' (k ∷ ks) on all = (on k.place k.space k.way all.0, known-stay heap heap' ks on all.1)

pub known-append : (heap : ℕ → Block) (ks ls : List KnownTable) → AreKnown heap ks → AreKnown heap ls → AreKnown heap (ks ++ ls)
known-append heap [] ls a b = b
known-append heap (k ∷ ks) ls a b = (a.0, known-append heap ks ls a.1 b)

-- no seat has a block there
abbrev pub IsNoOnes : List SeatView → ℕ → Type 0
IsNoOnes views q = (j : ℕ) (u : SeatView) (c : OpenBlock) → get_elem? views j ≡ some u → block_at (all_blocks u) q ≡ Some c → ⊥

-- the block was the seat's before, or no seat's
abbrev pub WasOr : SeatView → List SeatView → ℕ → Type 0
WasOr v views q = ((a : OpenBlock) × (block_at (all_blocks v) q ≡ Some a)) ⊎ IsNoOnes views q

module _ (first : List ℕ) (o : Origin) (log : List Event) (heap : ℕ → Block) (words : List ℕ) (views : List SeatView) (r : IsRunning first o log heap words views) (id : ℕ) (v : SeatView) (at : get_elem? views id ≡ some v) where
  OpenIn : ℕ → ℕ → Type 0
  OpenIn q j = ((x : SeatView) × (get_elem? views j ≡ some x) × (a : OpenBlock) × (block_at (all_blocks x) q ≡ Some a)) ⊎ ((j ≡ id) × IsNoOnes views q)

  lone-at : (q j k : ℕ) → OpenIn q j → OpenIn q k → j ≡ k
  unfolding OpenIn
  lone-at q j k (inl c) (inl d) = r.lone j k c.0 d.0 q c.2 d.2 c.1 d.1 c.3 d.3
  lone-at q j k (inl c) (inr d) = absurd (d.1 j c.0 c.2 c.1 c.3)
  lone-at q j k (inr c) (inl d) = absurd (c.1 k d.0 d.2 d.1 d.3)
  lone-at q j k (inr c) (inr d) = c.0 ∙ sym d.0

  -- the step adds these events, labels and words so, and the seat's view is w
  pub kept-with : (w : SeatView) (more : List Event) (heap' : ℕ → Block) (words' : List ℕ) (t' : Tables) → after o (more ++ log) ≡ t'
      → IsRun o (more ++ log) → ((n : ℕ) → moves_in (events_of n (more ++ log)) ≤ 1) → MovesAreSmall (more ++ log)
      → length words' ≡ length words → slice_index words' 3 ≡ t'.counter → ((i : ℕ) → i < 8 → i ≢ 3 → slice_index words' i ≡ slice_index words i)
      → Laid heap' (memory_of words') t'.given → Goes heap' t'
      → ((q : ℕ) (b : OpenBlock) → block_at (all_blocks w) q ≡ Some b → IsMine heap' t' q b × WasOr v views q)
      → ((j : ℕ) (u : SeatView) (q : ℕ) (b : OpenBlock) → j ≢ id → get_elem? views j ≡ some u → block_at (all_blocks u) q ≡ Some b → IsMine heap' t' q b)
      → AreSingle (all_blocks w) → TablesStay heap heap' → AreKnown heap' w.known
      → IsRunning first o (more ++ log) heap' words' (set views id w)
  unfolding OpenIn
  kept-with w more heap' words' t' te run once small size counter header laid goes mine theirs single stay all = record {
    run = run;
    size = size ∙ r.size;
    counter = counter ∙ ap (λ (t : Tables). t.counter) (sym te);
    header = λ i low other. header i low other ∙ r.header i low other;
    laid = subst (λ (t : Tables). Laid heap' (memory_of words') t.given) (sym te) laid;
    goes = subst (λ (t : Tables). Goes heap' t) (sym te) goes;
    mine = λ j u q b e b'. subst (λ (t : Tables). IsMine heap' t q b) (sym te) (each-set (λ j u. block_at (all_blocks u) q ≡ Some b → IsMine heap' t' q b) views id w (λ o'. (mine q b o').0) (λ j u off e o'. theirs j u q b off e o') j u e b');
    lone = λ j k u x q a b eu ex oa ob. lone-at q j k (was q j u a eu oa) (was q k x b ex ob);
    single = each-set (λ j u. AreSingle (all_blocks u)) views id w single (λ j u _ e. r.single j u e);
    known = each-set (λ j u. AreKnown heap' u.known) views id w all (λ j u _ e. known-stay heap heap' u.known stay (r.known j u e));
    once = once;
    small = small;
  }
    where
      was : (q j : ℕ) (u : SeatView) (b : OpenBlock) → get_elem? (set views id w) j ≡ some u → block_at (all_blocks u) q ≡ Some b → OpenIn q j
      was q j u b e o' = each-set (λ j u. (c : OpenBlock) → block_at (all_blocks u) q ≡ Some c → OpenIn q j) views id w
          (λ c oc. elim (mine q c oc).1 [ inl z ↦ inl (v, at, z.0, z.1) | inr z ↦ inr (refl, z) ]) (λ j u _ e' c oc. inl (u, e', c, oc)) j u e b o'

  -- a step that changes no word, no table of the run and no block
  pub quiet-step : (w : SeatView) (more : List Event) → after o (more ++ log) ≡ after o log
      → IsRun o (more ++ log) → ((n : ℕ) → moves_in (events_of n (more ++ log)) ≤ 1) → MovesAreSmall (more ++ log)
      → all_blocks w ≡ all_blocks v → AreKnown heap w.known
      → IsRunning first o (more ++ log) heap words (set views id w)
  quiet-step w more te run once small blocks all =
      kept-with w more heap words (after o log) te run once small refl r.counter (λ i _ _. refl) r.laid r.goes
      (λ q b h. let h' = sym (ap (λ bs. block_at bs q) blocks) ∙ h in (r.mine id v q b at h', inl (b, h')))
      (λ j u q b _ e h. r.mine j u q b e h) (subst AreSingle (sym blocks) (r.single id v at)) (λ p s π e. e) all
