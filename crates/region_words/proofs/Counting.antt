-- The steps on the counter keep the rule: a load, and an addition that claims a block or finds no room.
use Rattle.std.proofs.Common.{◌≡◌, ◌≢◌, ◌⊎◌, ℕ, ◌+◌, ◌%◌, ◌^◌, ◌<◌, ◌≤◌, List, [], ◌∷◌, ◌++◌, length, set, length-set, get_or-set_other, get_or-set_same, replicate, Some, None, true, false, refl, sym, ap, ◌∙◌, subst, inl, inr, arith}
use Rattle.std.specs.Prelude.{slice_index}
use Rattle.std.proofs.lemmas.Bool.{cases_lt}
use Rattle.std.proofs.lemmas.List.{set-get_or}
use Rattle.std.proofs.Math.Nat.{mod-eq_of_lt}
use mathlib.Core.Option.{some, none}
use lib.ListN.{get_elem?}
use Rattle.atomic_table.specs.Table.{State, Me, step, keeps, stepped, Allows}
use Rattle.cas_model.specs.declared.note.Note.{Note}
use Rattle.cas_model.specs.Start.{IsLawfulStart}
use Rattle.cas_history.specs.declared.event.Act.TheVariants.{Claim, Room}
use Rattle.cas_history.specs.declared.event.Event.{Event}
use Rattle.cas_history.specs.History.{events_of}
use Rattle.cas_history.proofs.Grown.{size-same}
use Rattle.cas_history.proofs.Placed.{placed-run, between-least}
use Rattle.cas_history.proofs.Promised.{lawful-before}
use Rattle.cas_port.specs.declared.block.OpenBlock.{OpenBlock}
use Rattle.cas_port.specs.View.{written_words}
use Rattle.frozen_store.specs.Seen.{IsSeen}
use Rattle.region_core.specs.Change.{Placed}
use Rattle.region_core.specs.Heap.{Block, Free, Table, Claimed, Laid, memory_of}
use Rattle.region_core.proofs.Claim.{claim, free_at_counter}
use Rattle.region_core.proofs.Finishing.{header_laid}
use Rattle.region_core.proofs.Going.{goes_claim}
use Rattle.region_core.proofs.Heap.{stay}
use Rattle.region_core.proofs.Inserting.{put, placed_put, wrote_set}
use Rattle.region_words.specs.Blocks.{block_at, AreSingle, all_blocks, new_block}
use Rattle.region_words.specs.Moves.{moves_in, counter_limit}
use Rattle.region_words.specs.Numbers.{Has}
use Rattle.region_words.specs.Rule.{Holds, origin, event, seeing, claiming, AsksFor, FoundRoom, FindsCounter, loads_counter, adds_to_counter}
use Rattle.region_words.specs.Running.{Origin, IsRun, after, IsMine, AreKnown, IsRunning}
use Rattle.region_words.specs.declared.hold.Hold.{Hold}
use Rattle.region_words.specs.declared.rule.Key.{Key}
use Rattle.region_words.specs.declared.view.SeatView.{SeatView}
use Rattle.region_words.proofs.Holding.{cases-at, claiming-at, claiming-single, claiming-known, claiming-seen, claiming-numbers, claiming-given, claiming-heard}
use Rattle.region_words.proofs.Keeping.{kept-with, quiet-step, known-stay, TablesStay, IsNoOnes, WasOr}
use Rattle.region_words.proofs.Labelling.{written-none, length-none}
use Rattle.region_words.proofs.Moving.{quiet, counter-most, moves-of, once-more, once-first}
use Rattle.region_words.proofs.Viewing.{strangers, go-step, one-of, none-of}

-- ---- laws over plain data

module _ (first : List ℕ) (o : Origin) (lawful : IsLawfulStart o.start) (log : List Event) (heap : ℕ → Block) (words : List ℕ) (views : List SeatView) (r : IsRunning first o log heap words views) where
  -- the counter never passes its limit
  pub within-limit : slice_index words 3 ≤ counter_limit o.start.size
  within-limit = let c = r.counter in let m = counter-most o.upstream o.start log lawful.counter_most r.run r.small r.once in omega arith

  same-size : (after o log).size ≡ o.start.size
  same-size = size-same o.upstream o.start log r.run

  pub given-least : 520 ≤ (after o log).given
  given-least = let p = placed-run o.upstream o.start log r.run in let b = between-least o.start.counter (after o log).given (after o log).claims p.claims in let l = lawful.counter_least in omega arith

  three-inside : 3 < length words
  three-inside = let s = r.size in let l = lawful.least in omega arith

  module _ (id : ℕ) (v : SeatView) (at : get_elem? views id ≡ some v) (note : Note) (n : ℕ) (some-words : 1 ≤ n) where
    -- a load that found no room adds an event
    pub refused-run : o.start.size < slice_index words 3 + n → (w : SeatView) → all_blocks w ≡ all_blocks v → AreKnown heap w.known → IsRunning first o (event note (Room n false) ∷ log) heap words (set views id w)
    refused-run full w blocks known =
        quiet-step first o log heap words views r id v at w (event note (Room n false) ∷ []) refl
        (r.run, (some-words, let c = r.counter in let s = same-size in omega arith)) (once-more log (event note (Room n false)) refl r.once) ((λ one. absurd (omega arith)), r.small) blocks known

    -- an addition that found no room moves the counter
    pub moved-run : o.start.size < slice_index words 3 + n → note.who.session ≤ 64 → n ≤ 2162688 → moves_in (events_of note.who.session log) ≡ 0 → (w : SeatView) → all_blocks w ≡ all_blocks v → AreKnown heap w.known
        → IsRunning first o (event note (Room n true) ∷ log) heap (set words 3 (slice_index words 3 + n)) (set views id w)
    moved-run full session most unmoved w blocks known =
        kept-with first o log heap words views r id v at w (event note (Room n true) ∷ []) heap (set words 3 (slice_index words 3 + n)) (after o (event note (Room n true) ∷ log)) refl
        (r.run, (some-words, let c = r.counter in let s = same-size in omega arith)) (once-first log (event note (Room n true)) unmoved r.once) ((λ _. (session, most)), r.small)
        (length-set words 3 (slice_index words 3 + n))
        (get_or-set_same words 3 (slice_index words 3 + n) 0 three-inside ∙ ap (λ (k : ℕ). k + n) r.counter)
        (λ i low other. get_or-set_other words 3 i (slice_index words 3 + n) 0 other)
        (header_laid heap (memory_of words) (memory_of (set words 3 (slice_index words 3 + n))) (after o log).given 3 (slice_index words 3 + n) (omega arith) given-least (wrote_set words 3 (slice_index words 3 + n) three-inside) r.laid)
        (let g = r.goes in record { places = g.places; rows = g.rows; cells = g.cells; blocks = g.blocks })
        (λ q b h. let h' = sym (ap (λ bs. block_at bs q) blocks) ∙ h in let old = r.mine id v q b at h' in (record { here = old.here; claimed = old.claimed }, inl (b, h')))
        (λ j u q b off e h. let old = r.mine j u q b e h in record { here = old.here; claimed = old.claimed })
        (subst AreSingle (sym blocks) (r.single id v at)) (λ p s π e. e) known

    module _ (room : (after o log).counter + n ≤ o.start.size) where
      given-is : (after o log).given ≡ (after o log).counter
      given-is = elim (placed-run o.upstream o.start log r.run).or_full [ inl e ↦ e | inr e ↦ let s = same-size in absurd (omega arith) ]

      laid-there : Laid heap (memory_of words) (after o log).counter
      laid-there = subst (λ (k : ℕ). Laid heap (memory_of words) k) given-is r.laid

      was-free : heap (after o log).counter ≡ Free
      was-free = free_at_counter heap (after o log).counter laid-there.shape

      placed : Placed heap (put heap (after o log).counter (Claimed (replicate n 0))) (after o log).counter (Claimed (replicate n 0))
      placed = placed_put heap (after o log).counter (Claimed (replicate n 0))

      no-ones : IsNoOnes views (after o log).counter
      no-ones j u b e h = let m = r.mine j u (after o log).counter b e h in let clash : Claimed (written_words b.words) ≡ Free = sym m.here ∙ was-free in cc clash

      stays : TablesStay heap (put heap (after o log).counter (Claimed (replicate n 0)))
      stays p s π z = stay heap (put heap (after o log).counter (Claimed (replicate n 0))) (after o log).counter p Free (Claimed (replicate n 0)) (Table s π) placed was-free z (λ y. cc y)

      new-mine : IsMine (put heap (after o log).counter (Claimed (replicate n 0))) (after o (event note (Claim n) ∷ log)) (after o log).counter (new_block (after o log).counter note.who n)
      new-mine = record {
        here = placed.now ∙ ap Claimed (sym (written-none n));
        claimed = inl (λ i. record { who = note.who; place = (after o log).counter; length = sym (length-none n) i });
      }

      -- an addition that found room claims a block in words that were not given yet, and it is 0
      pub claimed-run : (w : SeatView) → AreSingle (all_blocks w) → AreKnown heap w.known
          → ((q : ℕ) (c : OpenBlock) → block_at (all_blocks w) q ≡ Some c → ((q ≡ (after o log).counter) × (new_block (after o log).counter note.who n ≡ c)) ⊎ ((q ≢ (after o log).counter) × (block_at (all_blocks v) q ≡ Some c)))
          → IsRunning first o (event note (Claim n) ∷ log) (put heap (after o log).counter (Claimed (replicate n 0))) (set words 3 ((after o log).counter + n)) (set views id w)
      claimed-run w single known blocks =
          kept-with first o log heap words views r id v at w (event note (Claim n) ∷ []) (put heap (after o log).counter (Claimed (replicate n 0))) (set words 3 ((after o log).counter + n)) (after o (event note (Claim n) ∷ log)) refl
          (r.run, (some-words, let s = same-size in omega arith)) (once-more log (event note (Claim n)) refl r.once) ((λ one. absurd (omega arith)), r.small)
          (length-set words 3 ((after o log).counter + n))
          (get_or-set_same words 3 ((after o log).counter + n) 0 three-inside)
          (λ i low other. get_or-set_other words 3 i ((after o log).counter + n) 0 other)
          (header_laid (put heap (after o log).counter (Claimed (replicate n 0))) (memory_of words) (memory_of (set words 3 ((after o log).counter + n))) ((after o log).counter + n) 3 ((after o log).counter + n) (omega arith)
          (let l = given-least in let g = given-is in omega arith) (wrote_set words 3 ((after o log).counter + n) three-inside)
          (claim heap (put heap (after o log).counter (Claimed (replicate n 0))) (memory_of words) (after o log).counter n laid-there (omega arith) placed))
          (let g = goes_claim heap (put heap (after o log).counter (Claimed (replicate n 0))) (after o log) (replicate n 0) (after o log).counter r.goes was-free placed in record { places = g.places; rows = g.rows; cells = g.cells; blocks = g.blocks })
          (λ q c h. mine q c (blocks q c h))
          (λ j u q b off e h. let old = r.mine j u q b e h in record { here = placed.same q (λ is. no-ones j u b e (ap (block_at (all_blocks u)) (sym is) ∙ h)) ∙ old.here; claimed = inr old.claimed })
          single stays (known-stay heap (put heap (after o log).counter (Claimed (replicate n 0))) w.known stays known)
        where
          mine : (q : ℕ) (c : OpenBlock) → ((q ≡ (after o log).counter) × (new_block (after o log).counter note.who n ≡ c)) ⊎ ((q ≢ (after o log).counter) × (block_at (all_blocks v) q ≡ Some c))
              → IsMine (put heap (after o log).counter (Claimed (replicate n 0))) (after o (event note (Claim n) ∷ log)) q c × WasOr v views q
          mine q c (inl t) = (
            subst (λ (x : OpenBlock). IsMine (put heap (after o log).counter (Claimed (replicate n 0))) (after o (event note (Claim n) ∷ log)) q x) t.1
                (subst (λ (k : ℕ). IsMine (put heap (after o log).counter (Claimed (replicate n 0))) (after o (event note (Claim n) ∷ log)) k (new_block (after o log).counter note.who n)) (sym t.0) new-mine),
            inr (subst (IsNoOnes views) (sym t.0) no-ones),
          )
          mine q c (inr t) = let old = r.mine id v q c at t.1 in (record { here = placed.same q t.0 ∙ old.here; claimed = inr old.claimed }, inl (c, t.1))

-- ---- the steps

module _ (key : Key) (seen : IsSeen key.primary.value) (s : State (Unit {0}) SeatView) (h : Holds key s) (id : ℕ) (v : SeatView) (at : get_elem? s.views id ≡ some v) where
  pub finds : FindsCounter (origin key) v (slice_index s.words 3) (h.3.begins id v at).0
  finds =
      let whole = (h.3.begins id v at).1 in
      record {
        others = strangers h.0 s.views h.3 id v at (h.3.begins id v at).0 whole;
        counter = h.2.counter ∙ ap (λ l. (after (origin key) l).counter) whole;
        most = within-limit key.primary.value.words (origin key) seen.start h.0 h.1 s.words s.views h.2;
      }

  pub run-here : IsRun (origin key) ((h.3.begins id v at).0 ++ v.seen)
  run-here = subst (IsRun (origin key)) (h.3.begins id v at).1 h.2.run

  -- a step after which the seat has seen all, and no more
  pub holds-seeing : Holds key record { words = s.words; homes = s.homes; views = set s.views id (seeing v ((h.3.begins id v at).0 ++ v.seen)) }
  holds-seeing =
      let whole = (h.3.begins id v at).1 in (
        h.0,
        h.1,
        quiet-step key.primary.value.words (origin key) h.0 h.1 s.words s.views h.2 id v at (seeing v ((h.3.begins id v at).0 ++ v.seen)) [] refl h.2.run h.2.once h.2.small refl (h.2.known id v at),
        go-step h.0 s.views h.3 id v (seeing v ((h.3.begins id v at).0 ++ v.seen)) [] at (sym whole) refl refl refl (none-of v.numbers),
      )

  module _ (note : Note) (n : ℕ) (asks : AsksFor note n v) (has : Has note.who.session v.numbers) where
    holds-refused : (key.primary.value.tables).size < slice_index s.words 3 + n → Holds key record { words = s.words; homes = s.homes; views = set s.views id (seeing v (event note (Room n false) ∷ (h.3.begins id v at).0 ++ v.seen)) }
    holds-refused full =
        let whole = (h.3.begins id v at).1 in (
          event note (Room n false) ∷ h.0,
          h.1,
          refused-run key.primary.value.words (origin key) seen.start h.0 h.1 s.words s.views h.2 id v at note n asks.1 full (seeing v (event note (Room n false) ∷ (h.3.begins id v at).0 ++ v.seen)) refl (h.2.known id v at),
          go-step h.0 s.views h.3 id v (seeing v (event note (Room n false) ∷ (h.3.begins id v at).0 ++ v.seen)) (event note (Room n false) ∷ []) at (ap (λ l. event note (Room n false) ∷ l) (sym whole)) refl refl refl (one-of v.numbers (event note (Room n false)) has),
        )

    unmoved : FoundRoom (origin key) n v → moves_in (events_of note.who.session h.0) ≡ 0
    unmoved room =
        let before = lawful-before (origin key).upstream (origin key).start (h.3.begins id v at).0 v.seen run-here in
        let none-seen : moves_in v.seen ≡ 0 = quiet (origin key).upstream (origin key).start v.seen before (omega arith) in
        let fewer = moves-of note.who.session v.seen in
        ap moves_in (h.3.own id v at note.who.session has) ∙ (omega arith)

    holds-moved : FoundRoom (origin key) n v → (key.primary.value.tables).size < slice_index s.words 3 + n
        → Holds key record { words = set s.words 3 (slice_index s.words 3 + n); homes = s.homes; views = set s.views id (seeing v (event note (Room n true) ∷ (h.3.begins id v at).0 ++ v.seen)) }
    holds-moved found full =
        let whole = (h.3.begins id v at).1 in (
          event note (Room n true) ∷ h.0,
          h.1,
          moved-run key.primary.value.words (origin key) seen.start h.0 h.1 s.words s.views h.2 id v at note n asks.1 full (h.3.most id v at note.who.session has) asks.2 (unmoved found)
              (seeing v (event note (Room n true) ∷ (h.3.begins id v at).0 ++ v.seen)) refl (h.2.known id v at),
          go-step h.0 s.views h.3 id v (seeing v (event note (Room n true) ∷ (h.3.begins id v at).0 ++ v.seen)) (event note (Room n true) ∷ []) at (ap (λ l. event note (Room n true) ∷ l) (sym whole)) refl refl refl (one-of v.numbers (event note (Room n true)) has),
        )

    holds-claimed : (hold : Hold) → (after (origin key) h.0).counter + n ≤ (key.primary.value.tables).size
        → Holds key record { words = set s.words 3 ((after (origin key) h.0).counter + n); homes = s.homes; views = set s.views id (claiming hold v (event note (Claim n) ∷ (h.3.begins id v at).0 ++ v.seen) (after (origin key) h.0).counter note n) }
    holds-claimed hold room =
        let whole = (h.3.begins id v at).1 in
        let p : ℕ = (after (origin key) h.0).counter in
        let events : List Event = event note (Claim n) ∷ (h.3.begins id v at).0 ++ v.seen in
        let none = none-open (cases-at (all_blocks v) (after (origin key) h.0).counter) in (
          event note (Claim n) ∷ h.0,
          put h.1 (after (origin key) h.0).counter (Claimed (replicate n 0)),
          claimed-run key.primary.value.words (origin key) seen.start h.0 h.1 s.words s.views h.2 id v at note n asks.1 room
              (claiming hold v (event note (Claim n) ∷ (h.3.begins id v at).0 ++ v.seen) (after (origin key) h.0).counter note n)
              (claiming-single v (event note (Claim n) ∷ (h.3.begins id v at).0 ++ v.seen) (after (origin key) h.0).counter note n hold none (h.2.single id v at))
              (subst (AreKnown h.1) (sym (claiming-known v (event note (Claim n) ∷ (h.3.begins id v at).0 ++ v.seen) (after (origin key) h.0).counter note n hold)) (h.2.known id v at))
              (λ q c o. claiming-at v (event note (Claim n) ∷ (h.3.begins id v at).0 ++ v.seen) (after (origin key) h.0).counter note n hold q c none o),
          go-step h.0 s.views h.3 id v (claiming hold v (event note (Claim n) ∷ (h.3.begins id v at).0 ++ v.seen) (after (origin key) h.0).counter note n) (event note (Claim n) ∷ []) at
              (claiming-seen v (event note (Claim n) ∷ (h.3.begins id v at).0 ++ v.seen) (after (origin key) h.0).counter note n hold ∙ ap (λ l. event note (Claim n) ∷ l) (sym whole))
              (claiming-numbers v (event note (Claim n) ∷ (h.3.begins id v at).0 ++ v.seen) (after (origin key) h.0).counter note n hold)
              (claiming-given v (event note (Claim n) ∷ (h.3.begins id v at).0 ++ v.seen) (after (origin key) h.0).counter note n hold)
              (claiming-heard v (event note (Claim n) ∷ (h.3.begins id v at).0 ++ v.seen) (after (origin key) h.0).counter note n hold)
              (one-of v.numbers (event note (Claim n)) has),
        )
      where
        none-open : ((b : OpenBlock) × (block_at (all_blocks v) (after (origin key) h.0).counter ≡ Some b)) ⊎ (block_at (all_blocks v) (after (origin key) h.0).counter ≡ None) → block_at (all_blocks v) (after (origin key) h.0).counter ≡ None
        none-open (inl t) = absurd (no-ones key.primary.value.words (origin key) seen.start h.0 h.1 s.words s.views h.2 id v at note n asks.1 room id v t.0 at t.1)
        none-open (inr e) = e

-- a load of the counter
pub loads : (key : Key) → IsSeen key.primary.value → (slots id : ℕ) (me : Me (Unit {0}) SeatView) (note : Note) (n : ℕ) → AsksFor note n me.0 → Has note.who.session me.0.numbers
    → Allows (Holds key) slots id me 3 (λ x. x) (loads_counter (origin key) note n (step slots 3 0 0 none) me)
loads key seen slots id me note n asks has s h len at fits =
    elim (cases_lt (key.primary.value.tables).size (slice_index s.words 3 + n)) [
      | inl full ↦ (
        seeing me.0 (event note (Room n false) ∷ between ++ me.0.seen),
        keeps,
        tt,
        still (seeing me.0 (event note (Room n false) ∷ between ++ me.0.seen)) (holds-refused key seen s h id me.0 at note n asks has full),
        (record { between = between; finds = found; run = (run-here key seen s h id me.0 at, (asks.1, needs full)); limit = low; then = inr (full, refl) }, refl),
      )
      | inr room ↦ (
        seeing me.0 (between ++ me.0.seen),
        keeps,
        tt,
        still (seeing me.0 (between ++ me.0.seen)) (holds-seeing key seen s h id me.0 at),
        (record { between = between; finds = found; run = run-here key seen s h id me.0 at; limit = low; then = inl (room, refl) }, refl),
      )
    ]
  where
    between : List Event
    between = (h.3.begins id me.0 at).0

    found : FindsCounter (origin key) me.0 (slice_index s.words 3) (h.3.begins id me.0 at).0
    found = finds key seen s h id me.0 at

    low : (after (origin key) ((h.3.begins id me.0 at).0 ++ me.0.seen)).counter ≤ counter_limit (key.primary.value.tables).size
    low = let c = found.counter in let m = found.most in omega arith

    still : (w : SeatView) → Holds key record { words = s.words; homes = s.homes; views = set s.views id w } → Holds key (stepped s 3 (slice_index s.words 3) id me.1 w keeps)
    still w = subst (λ ws. Holds key record { words = ws; homes = s.homes; views = set s.views id w }) (sym (set-get_or s.words 3 0))

    needs : (key.primary.value.tables).size < slice_index s.words 3 + n → (after (origin key) ((h.3.begins id me.0 at).0 ++ me.0.seen)).size < (after (origin key) ((h.3.begins id me.0 at).0 ++ me.0.seen)).counter + n
    needs full = let c = found.counter in let z = size-same (origin key).upstream (origin key).start ((h.3.begins id me.0 at).0 ++ me.0.seen) (run-here key seen s h id me.0 at) in omega arith

-- an addition to the counter, after a load that found room
pub adds : (key : Key) → IsSeen key.primary.value → (slots id : ℕ) (me : Me (Unit {0}) SeatView) (hold : Hold) (note : Note) (n : ℕ) → AsksFor note n me.0 → Has note.who.session me.0.numbers → FoundRoom (origin key) n me.0
    → Allows (Holds key) slots id me 3 (λ x. (x + n) % 2 ^ 64) (adds_to_counter (origin key) hold note n (step slots 3 n 0 none) me)
adds key seen slots id me hold note n asks has had s h len at fits =
    elim (cases_lt (key.primary.value.tables).size (slice_index s.words 3 + n)) [
      | inl full ↦ (
        seeing me.0 (event note (Room n true) ∷ between ++ me.0.seen),
        keeps,
        tt,
        wide (seeing me.0 (event note (Room n true) ∷ between ++ me.0.seen)) (holds-moved key seen s h id me.0 at note n asks has had full),
        (record { between = between; finds = found; run = (run-here key seen s h id me.0 at, (asks.1, needs full)); limit = moved-limit full; then = inr (full, refl) }, refl),
      )
      | inr room ↦ (
        claiming hold me.0 (event note (Claim n) ∷ between ++ me.0.seen) (slice_index s.words 3) note n,
        keeps,
        tt,
        wide (claiming hold me.0 (event note (Claim n) ∷ between ++ me.0.seen) (slice_index s.words 3) note n) (claimed room),
        (record { between = between; finds = found; run = subst (IsRun (origin key)) (sym (claiming-seen me.0 (event note (Claim n) ∷ between ++ me.0.seen) (slice_index s.words 3) note n hold)) (run-here key seen s h id me.0 at, (asks.1, has-room room)); limit = claimed-limit room; then = inl (room, refl) }, refl),
      )
    ]
  where
    between : List Event
    between = (h.3.begins id me.0 at).0

    found : FindsCounter (origin key) me.0 (slice_index s.words 3) (h.3.begins id me.0 at).0
    found = finds key seen s h id me.0 at

    moved-limit : (key.primary.value.tables).size < slice_index s.words 3 + n → (after (origin key) ((h.3.begins id me.0 at).0 ++ me.0.seen)).counter + n ≤ counter_limit (key.primary.value.tables).size
    moved-limit full =
        let next = holds-moved key seen s h id me.0 at note n asks has had full in
        let m = within-limit key.primary.value.words (origin key) seen.start next.0 next.1 (set s.words 3 (slice_index s.words 3 + n)) (set s.views id (seeing me.0 (event note (Room n true) ∷ (h.3.begins id me.0 at).0 ++ me.0.seen))) next.2 in
        let w = get_or-set_same s.words 3 (slice_index s.words 3 + n) 0 (three-inside key.primary.value.words (origin key) seen.start h.0 h.1 s.words s.views h.2) in
        let c = found.counter in
        omega arith

    claimed-limit : slice_index s.words 3 + n ≤ (key.primary.value.tables).size → (after (origin key) (claiming hold me.0 (event note (Claim n) ∷ (h.3.begins id me.0 at).0 ++ me.0.seen) (slice_index s.words 3) note n).seen).counter ≤ counter_limit (key.primary.value.tables).size
    claimed-limit room = subst (λ (es : List Event). (after (origin key) es).counter ≤ counter_limit (key.primary.value.tables).size) (sym (claiming-seen me.0 (event note (Claim n) ∷ (h.3.begins id me.0 at).0 ++ me.0.seen) (slice_index s.words 3) note n hold))
        (let c = found.counter in omega arith)

    sum-fits : slice_index s.words 3 + n < 2 ^ 64
    sum-fits = let m = found.most in let z = seen.start.most in let k = asks.2 in omega arith

    wide : (w : SeatView) → Holds key record { words = set s.words 3 (slice_index s.words 3 + n); homes = s.homes; views = set s.views id w } → Holds key (stepped s 3 ((slice_index s.words 3 + n) % 2 ^ 64) id me.1 w keeps)
    wide w = subst (λ (x : ℕ). Holds key record { words = set s.words 3 x; homes = s.homes; views = set s.views id w }) (sym (mod-eq_of_lt sum-fits))

    claimed : slice_index s.words 3 + n ≤ (key.primary.value.tables).size
        → Holds key record { words = set s.words 3 (slice_index s.words 3 + n); homes = s.homes; views = set s.views id (claiming hold me.0 (event note (Claim n) ∷ (h.3.begins id me.0 at).0 ++ me.0.seen) (slice_index s.words 3) note n) }
    claimed room = subst (λ (k : ℕ). Holds key record { words = set s.words 3 (k + n); homes = s.homes; views = set s.views id (claiming hold me.0 (event note (Claim n) ∷ (h.3.begins id me.0 at).0 ++ me.0.seen) k note n) }) (sym h.2.counter)
        (holds-claimed key seen s h id me.0 at note n asks has hold (let c = h.2.counter in omega arith))

    needs : (key.primary.value.tables).size < slice_index s.words 3 + n → (after (origin key) ((h.3.begins id me.0 at).0 ++ me.0.seen)).size < (after (origin key) ((h.3.begins id me.0 at).0 ++ me.0.seen)).counter + n
    needs full = let c = found.counter in let z = size-same (origin key).upstream (origin key).start ((h.3.begins id me.0 at).0 ++ me.0.seen) (run-here key seen s h id me.0 at) in omega arith

    has-room : slice_index s.words 3 + n ≤ (key.primary.value.tables).size → (after (origin key) ((h.3.begins id me.0 at).0 ++ me.0.seen)).counter + n ≤ (after (origin key) ((h.3.begins id me.0 at).0 ++ me.0.seen)).size
    has-room room = let c = found.counter in let z = size-same (origin key).upstream (origin key).start ((h.3.begins id me.0 at).0 ++ me.0.seen) (run-here key seen s h id me.0 at) in omega arith
