-- The plain insertion, by the laws of the single changes.
use Rattle.std.proofs.Common.{◌≡◌, ◌≢◌, ℕ, ◌+◌, ◌-◌, ◌*◌, ◌/◌, ◌%◌, ◌<◌, ◌≤◌, List, [], ◌∷◌, ◌++◌, length, get_or, set, length-set, replicate, zero, suc, inl, inr, refl, sym, ap, ◌∙◌, subst, arith, cond, ◌==◌}
use Rattle.std.specs.List.{sum}
use Rattle.std.proofs.lemmas.List.Sums.{sum_by-cons}
use Rattle.std.proofs.lemmas.List.Folds.{sum_by-replicate}
use Rattle.std.proofs.lemmas.Bool.{cases_eq, cases_lt, eq-eqb, ne_eqb, cond-true, cond-false}
use Rattle.std.proofs.lemmas.List.{length-append, get_or-replicate, get_or-set_same, get_or-set_other, get_or_append_left, ext_get_or}
use Rattle.cas_model.specs.declared.digest.Digest.{Digest}
use Rattle.cas_model.specs.declared.place.Full.{Full}
use Rattle.cas_model.specs.declared.place.Space.{Space}
use Rattle.cas_model.specs.declared.place.Space.TheVariants.{Actions}
use Rattle.cas_model.specs.Trie.{IsDigest, path, index_of, sharing, new_subtries}
use Rattle.region_core.specs.declared.insertion.BuildError.{BuildError}
use Rattle.region_core.specs.declared.insertion.BuildError.TheVariants as errors
use Rattle.region_core.specs.Words.{root, width, words_of, HasWords, no_slots, one_slot}
use Rattle.region_core.specs.Heap.{Block, Free, Table, Record, Claimed, extent, NamesRecord, Laid, memory_of}
use Rattle.region_core.specs.Change.{Wrote, Placed}
use Rattle.cas_model.specs.Claims.{record_claims}
use Rattle.region_core.specs.Claims.{Refuses}
use Rattle.region_core.specs.Inserts.{IsData, SameData, TablesStay, IsReady, Inserted, Descent, IsUnder, IsTightFor, RefusesClaim, RefusesStep, SameHead}
use Rattle.region_core.proofs.Heap.{wide, stay, came}
use Rattle.region_core.proofs.Claim.{append, free_at_counter}
use Rattle.region_core.proofs.Sink.{sink}
use Rattle.region_core.proofs.Bind.{bind}
use Rattle.region_core.proofs.Finding.{index_within, table_there, record_there, named_at, slot_below, record_below, own_words, length-path}
use Rattle.region_core.proofs.Tightness.{RecordsStay, tight_first, tight_down, tight_sink, tight_bind, empty_shares, record_shares, table_shares, subtries_same, subtries_more, subtries_end, subtries_least}

abbrev pub put : (ℕ → Block) → ℕ → Block → ℕ → Block
put heap q b p = cond (p == q) b (heap p)

pub placed_put : (heap : ℕ → Block) (q : ℕ) (b : Block) → Placed heap (put heap q b) q b
placed_put heap q b = record {
  now = cond-true (q == q) b (heap q) (eq-eqb q q refl);
  same = λ p h. cond-false (p == q) b (heap p) (ne_eqb p q h);
}

pub wrote_set : (ws : List ℕ) (a w : ℕ) → a < length ws → Wrote (memory_of ws) (memory_of (set ws a w)) a w
wrote_set ws a w h = record {
  now = get_or-set_same ws a w 0 h;
  same = λ i ne. get_or-set_other ws a i w 0 ne;
}

-- a change between two blocks that are no data
pub plain_data : (heap heap' : ℕ → Block) (q : ℕ) (old new : Block) → Placed heap heap' q new → heap q ≡ old → (IsData old → ⊥) → (IsData new → ⊥) → SameData heap heap'
plain_data heap heap' q old new placed was o n = λ p b data_. (
  λ h. stay heap heap' q p old new b placed was h (λ e. o (subst IsData e data_)),
  λ h. came heap heap' q p new b placed h (λ e. n (subst IsData e data_)),
)

chained : (a b c : ℕ → Block) → SameData a b → SameData b c → SameData a c
chained a b c f g = λ p x data_. (λ h. (g p x data_).0 ((f p x data_).0 h), λ h. (f p x data_).1 ((g p x data_).1 h))

pub records_stay : (heap heap' : ℕ → Block) → SameData heap heap' → RecordsStay heap heap'
records_stay heap heap' same = λ p s d c h. (c, (same p (Record s d c) tt).0 h)

-- a block is claimed at the end
pub claimed_end : (heap : ℕ → Block) (ws xs : List ℕ) → Laid heap (memory_of ws) (length ws) → 0 < length xs → Laid (put heap (length ws) (Claimed xs)) (memory_of (ws ++ xs)) (length (ws ++ xs))
claimed_end heap ws xs laid some = append heap (put heap (length ws) (Claimed xs)) ws xs laid some (placed_put heap (length ws) (Claimed xs))

pub descent_start : (heap : ℕ → Block) (known : List Digest) (ws : List ℕ) (d : Digest) (s : Space) → IsReady heap known ws s d → Descent heap known (ws ++ (words_of d.bytes ++ 0 ∷ [])) s d 0 (root s) (length ws)
descent_start heap known ws d s ready =
    let xs : List ℕ = words_of d.bytes ++ 0 ∷ [] in
    let was : heap (length ws) ≡ Free = free_at_counter heap (length ws) ready.laid.shape in
    let placed = placed_put heap (length ws) (Claimed xs) in
    let same : SameData heap (put heap (length ws) (Claimed xs)) = plain_data heap (put heap (length ws) (Claimed xs)) (length ws) Free (Claimed xs) placed was (λ h. h) (λ h. h) in
    record {
      after = put heap (length ws) (Claimed xs);
      laid = claimed_end heap ws xs ready.laid (omega arith);
      here = stay heap (put heap (length ws) (Claimed xs)) (length ws) (root s) Free (Claimed xs) (Table s []) placed was (ready.laid.tries.roots s) (λ e. cc);
      mine = placed.now;
      same = same;
      tables = λ p r π h. stay heap (put heap (length ws) (Claimed xs)) (length ws) p Free (Claimed xs) (Table r π) placed was h (λ e. cc);
      subtries = λ l h shared. absurd (omega arith);
      tight = tight_first heap (put heap (length ws) (Claimed xs)) s d.bytes (records_stay heap (put heap (length ws) (Claimed xs)) same)
          (λ p r π h. came heap (put heap (length ws) (Claimed xs)) (length ws) p (Claimed xs) (Table r π) placed h (λ e. cc)) ready.tight;
      grown = omega (arith, length-append ws xs);
    }

pub descent_down : (heap : ℕ → Block) (known : List Digest) (first ws : List ℕ) (d : Digest) (s : Space) (level table own j t : ℕ) → IsReady heap known first s d → Descent heap known ws s d level table own → j ≡ index_of d.bytes level → j < width (path d.bytes level) → 4 * t + 2 ≡ get_or ws (table + j) 0 → Descent heap known ws s d (suc level) t own
descent_down heap known first ws d s level table own j t ready x j_is hj word =
    let here : x.after t ≡ Table s (path d.bytes (suc level)) =
    table_there x.after (memory_of ws) s (path d.bytes level) j table t x.laid.tries x.here hj (sym word) ∙ ap (λ k. Table s (k ∷ path d.bytes level)) j_is in
    let shares = table_shares heap x.after (memory_of ws) known s d level table ready.known_are x.same x.laid.tries x.here x.tight t here in
    record {
      after = x.after;
      laid = x.laid;
      here = here;
      mine = x.mine;
      same = x.same;
      tables = x.tables;
      subtries = λ l h shared. elim (cases_eq l level) [
        | inl is ↦ absurd (shares (ap (λ n. sharing known d (suc n)) (sym is) ∙ shared))
        | inr ne ↦ x.subtries l (omega arith) shared
      ];
      tight = tight_down x.after s d.bytes level x.tight;
      grown = omega (arith, x.grown, subtries_same known d level shares);
    }

pub descent_end : (heap : ℕ → Block) (known : List Digest) (first ws : List ℕ) (d : Digest) (s : Space) (level table own j : ℕ) → IsReady heap known first s d → Descent heap known ws s d level table own → IsDigest d.bytes → j ≡ index_of d.bytes level → j < width (path d.bytes level) → 0 ≡ get_or ws (table + j) 0 → level ≤ 62 → Inserted heap known (set ws (table + j) (4 * own + 1)) s d own
descent_end heap known first ws d s level table own j ready x digest j_is hj word shallow =
    let inside : table + j < length ws = slot_below x.after (length ws) s (path d.bytes level) table j x.laid.shape x.here hj in
    let placed = placed_put x.after own (Record s d.bytes 0) in
    let leads : path d.bytes (suc (length (path d.bytes level))) ≡ j ∷ path d.bytes level = ap (λ l. path d.bytes (suc l)) (length-path d.bytes level) ∙ ap (λ k. k ∷ path d.bytes level) (sym j_is) in
    let empty : get_or ws (table + index_of d.bytes level) 0 ≡ 0 = ap (λ i. get_or ws (table + i) 0) (sym j_is) ∙ sym word in
    let none = empty_shares heap x.after (memory_of ws) known s d level table ready.known_are x.same x.laid.tries x.here empty in
    let rest : ℕ = 62 - level in
    let all : level + rest ≡ 62 = omega arith in
    let bound : TablesStay x.after (put x.after own (Record s d.bytes 0)) = λ p r π h. stay x.after (put x.after own (Record s d.bytes 0)) own p (Claimed (words_of d.bytes ++ 0 ∷ [])) (Record s d.bytes 0) (Table r π) placed x.mine h (λ e. cc) in
    record {
      after = put x.after own (Record s d.bytes 0);
      laid = rw length-set (bind x.after (put x.after own (Record s d.bytes 0)) (memory_of ws) (memory_of (set ws (table + j) (4 * own + 1))) (length ws) s (path d.bytes level) table j own d.bytes x.laid x.here hj leads (sym word) x.mine digest (wrote_set ws (table + j) (4 * own + 1) inside) placed);
      here = placed.now;
      same = λ p b data_. (
        λ h. stay x.after (put x.after own (Record s d.bytes 0)) own p (Claimed (words_of d.bytes ++ 0 ∷ [])) (Record s d.bytes 0) b placed x.mine ((x.same p b data_).0 h) (λ e. subst IsData e data_),
        λ h ne. (x.same p b data_).1 (sym (placed.same p ne) ∙ h),
      );
      tables = λ p r π h. bound p r π (x.tables p r π h);
      subtries = λ l h shared. elim (cases_lt l level) [
        | inl low ↦ bound (own + 5 + 16 * new_subtries known d l) s (path d.bytes (suc l)) (x.subtries l low shared)
        | inr high ↦ absurd (omega (arith, none (suc l) (omega arith)))
      ];
      tight = tight_bind x.after (put x.after own (Record s d.bytes 0)) s d.bytes (words_of d.bytes ++ 0 ∷ []) own level x.tight x.mine placed;
      grown = omega (arith, x.grown, length-set ws (table + j) (4 * own + 1), ap (new_subtries known d) all, subtries_end known d level rest none);
    }

empty_slots : (i : ℕ) → i < 16 → get_or no_slots i 0 ≡ 0
empty_slots i h = get_or-replicate 16 i 0 0 h

-- the found record goes one level down
pub descent_sink : (heap : ℕ → Block) (known : List Digest) (first ws : List ℕ) (d : Digest) (e : List ℕ) (s : Space) (level table own j r k c : ℕ) → IsReady heap known first s d → (x : Descent heap known ws s d level table own) → j < width (path d.bytes level) → 4 * r + 1 ≡ get_or ws (table + j) 0 → x.after r ≡ Record s e c → path e (suc level) ≡ path d.bytes (suc level) → j ≡ index_of d.bytes level → k ≡ index_of e (suc level) → k < 16 → level ≤ 61 → Descent heap known (set (ws ++ one_slot k (4 * r + 1)) (table + j) (4 * length ws + 2)) s d (suc level) (length ws) own
descent_sink heap known first ws d e s level table own j r k c ready x hj word stands shared j_is k_is hk shallow =
    let block : List ℕ = one_slot k (4 * r + 1) in
    let size : length block ≡ 16 = length-set no_slots k (4 * r + 1) in
    let q : ℕ = length ws in
    let was : x.after q ≡ Free = free_at_counter x.after q x.laid.shape in
    let first = placed_put x.after q (Claimed block) in
    let mid : ℕ → Block = put x.after q (Claimed block) in
    let mid_laid : Laid mid (memory_of (ws ++ block)) (length (ws ++ block)) = append x.after mid ws block x.laid (omega arith) first in
    let mid_here : mid table ≡ Table s (path d.bytes level) = stay x.after mid q table Free (Claimed block) (Table s (path d.bytes level)) first was x.here (λ z. cc) in
    let mid_record : mid r ≡ Record s e c = stay x.after mid q r Free (Claimed block) (Record s e c) first was stands (λ z. cc) in
    let inside : table + j < length ws = slot_below x.after (length ws) s (path d.bytes level) table j x.laid.shape x.here hj in
    let inside_mid : table + j < length (ws ++ block) = omega (arith, length-append ws block) in
    let mid_word : get_or (ws ++ block) (table + j) 0 ≡ 4 * r + 1 = get_or_append_left ws block 0 (table + j) inside ∙ sym word in
    let second = placed_put mid q (Table s (j ∷ path d.bytes level)) in
    let last : ℕ → Block = put mid q (Table s (j ∷ path d.bytes level)) in
    let own_mid : mid own ≡ Claimed (words_of d.bytes ++ 0 ∷ []) = stay x.after mid q own Free (Claimed block) (Claimed (words_of d.bytes ++ 0 ∷ [])) first was x.mine (λ z. cc) in
    let own_other : own ≢ q = λ z. omega (arith, x.laid.shape.high own (rw x.mine (omega arith)), ap extent x.mine) in
    let first_same : SameData x.after mid = plain_data x.after mid q Free (Claimed block) first was (λ h. h) (λ h. h) in
    let here_word : get_or ws (table + index_of d.bytes level) 0 ≡ 4 * r + 1 = ap (λ i. get_or ws (table + i) 0) (sym j_is) ∙ sym word in
    let one = record_shares heap x.after (memory_of ws) known s d level table ready.known_are x.same x.laid.tries x.here r c e here_word stands shared in
    let mid_tight : IsTightFor mid s d.bytes level = λ t i y π h. elim (x.tight t i y π (came x.after mid q t (Claimed block) (Table y (i ∷ π)) first h (λ z. cc))) [
      | inl z ↦ inl record {
        one = z.one;
        two = z.two;
        other = z.other;
        under_one = record { digest = z.under_one.digest; cell = z.under_one.cell; here = (first_same z.one (Record y z.under_one.digest z.under_one.cell) tt).0 z.under_one.here; begins = z.under_one.begins };
        under_two = record { digest = z.under_two.digest; cell = z.under_two.cell; here = (first_same z.two (Record y z.under_two.digest z.under_two.cell) tt).0 z.under_two.here; begins = z.under_two.begins };
      }
      | inr z ↦ inr record {
        place = z.place;
        same = z.same;
        under = record { digest = z.under.digest; cell = z.under.cell; here = (first_same z.place (Record s z.under.digest z.under.cell) tt).0 z.under.here; begins = z.under.begins };
        begins = z.begins;
        high = z.high;
      }
    ] in
    let leads : path d.bytes (suc (length (path d.bytes level))) ≡ j ∷ path d.bytes level = ap (λ l. path d.bytes (suc l)) (length-path d.bytes level) ∙ ap (λ k. k ∷ path d.bytes level) (sym j_is) in
    let under : IsUnder mid s (j ∷ path d.bytes level) r = record {
      digest = e;
      cell = c;
      here = mid_record;
      begins = ap (λ l. path e (suc l)) (length-path d.bytes level) ∙ shared ∙ ap (λ i. i ∷ path d.bytes level) (sym j_is);
    } in
    let kept : TablesStay x.after last = λ p y π h.
    stay mid last q p (Claimed block) (Table s (j ∷ path d.bytes level)) (Table y π) second first.now (stay x.after mid q p Free (Claimed block) (Table y π) first was h (λ z. cc)) (λ z. cc) in
    record {
      after = last;
      laid = rw length-set (sink mid last (memory_of (ws ++ block)) (memory_of (set (ws ++ block) (table + j) (4 * q + 2))) (length (ws ++ block)) s (path d.bytes level) table j r q k e c block mid_laid mid_here hj mid_word mid_record first.now size (k_is ∙ ap (λ l. index_of e (suc l)) (sym (length-path d.bytes level))) (get_or-set_same no_slots k (4 * r + 1) 0 hk) (λ i hi ne. get_or-set_other no_slots k i (4 * r + 1) 0 ne ∙ empty_slots i hi) hk (omega (arith, length-path d.bytes level)) (wrote_set (ws ++ block) (table + j) (4 * q + 2) inside_mid) second);
      here = second.now ∙ ap (λ i. Table s (i ∷ path d.bytes level)) j_is;
      mine = second.same own own_other ∙ own_mid;
      same = chained heap mid last
          (chained heap x.after mid x.same first_same)
          (plain_data mid last q (Claimed block) (Table s (j ∷ path d.bytes level)) second first.now (λ h. h) (λ h. h));
      tables = λ p y π h. kept p y π (x.tables p y π h);
      subtries = λ l h shared. elim (cases_eq l level) [
        | inl is ↦
            ap (λ n. last (own + 5 + 16 * new_subtries known d n)) is ∙ ap last (sym x.grown) ∙ second.now ∙ ap (λ i. Table s (i ∷ path d.bytes level)) j_is ∙ ap (λ n. Table s (path d.bytes (suc n))) (sym is)
        | inr ne ↦ kept (own + 5 + 16 * new_subtries known d l) s (path d.bytes (suc l)) (x.subtries l (omega arith) shared)
      ];
      tight = tight_sink mid last s d.bytes block j r q level (path d.bytes level) mid_tight first.now second under leads (length-path d.bytes level);
      grown = omega (arith, x.grown, length-set (ws ++ block) (table + j) (4 * q + 2), length-append ws block, subtries_more known d level one);
    }

-- paths of all 63 levels tell digests apart
path_at : (d e : List ℕ) (n l : ℕ) → path d n ≡ path e n → l < n → index_of d l ≡ index_of e l
path_at d e zero l h hl = absurd (omega arith)
path_at d e (suc n) l h hl =
    let head : index_of d n ≡ index_of e n = cc in
    let tail : path d n ≡ path e n = cc in
    elim (cases_eq l n) [
      | inl is ↦ ap (index_of d) is ∙ head ∙ ap (index_of e) (sym is)
      | inr ne ↦ path_at d e n l tail (omega arith)
    ]

high_half : (d : List ℕ) (n : ℕ) → index_of d (suc (2 * n)) ≡ get_or d (n + 1) 0 / 16
unfolding index_of
high_half d n =
    let even : (2 * n + 2) % 2 ≡ 0 = omega arith in
    let at : (2 * n + 2) / 2 ≡ n + 1 = omega arith in
    cond-true ((2 * n + 2) % 2 == 0) _ _ (eq-eqb ((2 * n + 2) % 2) 0 even) ∙ ap (λ i. get_or d i 0 / 16) at

low_half : (d : List ℕ) (n : ℕ) → index_of d (suc (2 * n + 1)) ≡ get_or d (n + 1) 0 % 16
unfolding index_of
low_half d n =
    let odd : (2 * n + 1 + 2) % 2 ≢ 0 = λ e. omega arith in
    let at : (2 * n + 1 + 2) / 2 ≡ n + 1 = omega arith in
    cond-false ((2 * n + 1 + 2) % 2 == 0) _ _ (ne_eqb ((2 * n + 1 + 2) % 2) 0 odd) ∙ ap (λ i. get_or d i 0 % 16) at

first_byte : (d : List ℕ) → index_of d 0 ≡ get_or d 0 0
unfolding index_of
first_byte d = refl

pub same_path : (d e : List ℕ) → IsDigest d → IsDigest e → path d 63 ≡ path e 63 → d ≡ e
same_path d e hd he h =
    ext_get_or 0 d e (hd.long ∙ sym he.long) (λ i hi. elim (cases_eq i 0) [
      | inl z ↦ ap (λ x. get_or d x 0) z ∙ sym (first_byte d) ∙ path_at d e 63 0 h (omega arith) ∙ first_byte e ∙ ap (λ x. get_or e x 0) (sym z)
      | inr z ↦
          let n : ℕ = i - 1 in
          let i_is : n + 1 ≡ i = omega arith in
          let hi_same = sym (high_half d n) ∙ path_at d e 63 (suc (2 * n)) h (omega (arith, hd.long)) ∙ high_half e n in
          let lo_same = sym (low_half d n) ∙ path_at d e 63 (suc (2 * n + 1)) h (omega (arith, hd.long)) ∙ low_half e n in
          let same : get_or d (n + 1) 0 ≡ get_or e (n + 1) 0 = omega (arith, hi_same, lo_same) in
          ap (λ x. get_or d x 0) (sym i_is) ∙ same ∙ ap (λ x. get_or e x 0) i_is
    ])

-- what `insert_record` asks at each slot
pub slot_in : (heap : ℕ → Block) (known : List Digest) (ws : List ℕ) (d : Digest) (s : Space) (level table own j : ℕ) → Descent heap known ws s d level table own → j < width (path d.bytes level) → table + j < length ws
slot_in heap known ws d s level table own j x hj = slot_below x.after (length ws) s (path d.bytes level) table j x.laid.shape x.here hj

-- the record that a slot names, in any layout of these words
pub the_record : (heap : ℕ → Block) (known : List Digest) (ws : List ℕ) (d : Digest) (s : Space) (level table own j r : ℕ) → (x : Descent heap known ws s d level table own) → j < width (path d.bytes level) → 4 * r + 1 ≡ get_or ws (table + j) 0 → NamesRecord x.after s (j ∷ path d.bytes level) (4 * r + 1)
the_record heap known ws d s level table own j r x hj word = record_there x.after (memory_of ws) s (path d.bytes level) j table r x.laid.tries x.here hj (sym word)

pub record_in : (heap : ℕ → Block) (known : List Digest) (ws : List ℕ) (d : Digest) (s : Space) (level table own j r : ℕ) → (x : Descent heap known ws s d level table own) → j < width (path d.bytes level) → 4 * r + 1 ≡ get_or ws (table + j) 0 → r + 4 < length ws
record_in heap known ws d s level table own j r x hj word =
    let n = the_record heap known ws d s level table own j r x hj word in
    omega (arith, record_below x.after (length ws) s n.digest n.cell r x.laid.shape (named_at x.after s (j ∷ path d.bytes level) r n))

-- it shares the indexes of the digest down to its slot
pub shared_down : (heap : ℕ → Block) (d : Digest) (s : Space) (level j r : ℕ) → (n : NamesRecord heap s (j ∷ path d.bytes level) (4 * r + 1)) → j ≡ index_of d.bytes level → path n.digest (suc level) ≡ path d.bytes (suc level)
shared_down heap d s level j r n j_is = ap (λ l. path n.digest (suc l)) (sym (length-path d.bytes level)) ∙ n.leads ∙ ap (λ i. i ∷ path d.bytes level) j_is

-- below the last level, since two digests part there
pub parts_before : (heap : ℕ → Block) (known : List Digest) (first ws : List ℕ) (d : Digest) (s : Space) (level table own j r : ℕ) → IsReady heap known first s d → (x : Descent heap known ws s d level table own) → IsDigest d.bytes → j ≡ index_of d.bytes level → j < width (path d.bytes level) → 4 * r + 1 ≡ get_or ws (table + j) 0 → level < 63 → level ≤ 61
parts_before heap known first ws d s level table own j r ready x digest j_is hj word below =
    elim (cases_lt 61 level) [
      | inl h ↦
          let last : level ≡ 62 = omega arith in
          let n = the_record heap known ws d s level table own j r x hj word in
          let stands = named_at x.after s (j ∷ path d.bytes level) r n in
          let paths : path n.digest 63 ≡ path d.bytes 63 = ap (λ l. path n.digest (suc l)) (sym last) ∙ shared_down x.after d s level j r n j_is ∙ ap (λ l. path d.bytes (suc l)) last in
          let same : n.digest ≡ d.bytes = same_path n.digest d.bytes (x.laid.tries.digests r s n.digest n.cell stands) digest paths in
          absurd (ready.absent r n.cell ((x.same r (Record s d.bytes n.cell) tt).1 (stands ∙ ap (λ y. Record s y n.cell) same)))
      | inr h ↦ h
    ]

pub no_more : (heap : ℕ → Block) (known : List Digest) (ws : List ℕ) (d : Digest) (s : Space) (level table own : ℕ) → Descent heap known ws s d level table own → 63 ≤ level → ⊥
no_more heap known ws d s level table own x h = omega (arith, x.laid.tries.levels table s (path d.bytes level) x.here, length-path d.bytes level)

-- one more level, over what `push_down` says
pub descent_push : (heap : ℕ → Block) (known : List Digest) (first ws ws' : List ℕ) (d : Digest) (s : Space) (level table own j r p : ℕ) → IsReady heap known first s d → Descent heap known ws s d level table own → j ≡ index_of d.bytes level → j < width (path d.bytes level) → 4 * r + 1 ≡ get_or ws (table + j) 0 → level ≤ 61 → p ≡ length ws → ((e : List ℕ) → IsDigest e → HasWords ws r (words_of e) → ws' ≡ set (ws ++ one_slot (index_of e (level + 1)) (4 * r + 1)) (table + j) (4 * length ws + 2)) → Descent heap known ws' s d (suc level) p own
descent_push heap known first ws ws' d s level table own j r p ready x j_is hj word shallow p_is words =
    let n = the_record heap known ws d s level table own j r x hj word in
    let stands = named_at x.after s (j ∷ path d.bytes level) r n in
    let digest = x.laid.tries.digests r s n.digest n.cell stands in
    let next : level + 1 ≡ suc level = omega arith in
    let ws_is = words n.digest digest (own_words x.after ws n.digest s n.cell r x.laid.keeps stands) in
    rw (ws_is, p_is, next) (descent_sink heap known first ws d n.digest s level table own j r (index_of n.digest (suc level)) n.cell ready x hj word stands (shared_down x.after d s level j r n j_is) j_is refl (index_within n.digest (suc level) digest) shallow)

-- ---- claims that are refused

sum_replicate : (n k : ℕ) → sum (replicate n k) ≡ n * k
sum_replicate n k = sum_by-replicate (λ m. m) n k

sum_five : (n : ℕ) → sum (5 ∷ replicate n 16) ≡ 5 + 16 * n
sum_five n = sum_by-cons (λ m. m) 5 (replicate n 16) ∙ ap (λ m. 5 + m) (sum_replicate n 16) ∙ omega arith

below_all : (known : List Digest) (d : Digest) (level rest : ℕ) → suc level + rest ≡ 62 → sharing known d (suc level) ≡ 1 → suc (new_subtries known d level) ≤ new_subtries known d 62
below_all known d level rest all one =
    let least : new_subtries known d (suc level) ≤ new_subtries known d 62 = subst (λ n. new_subtries known d (suc level) ≤ new_subtries known d n) all (subtries_least known d (suc level) rest) in
    subst (λ n. n ≤ new_subtries known d 62) (subtries_more known d level one) least

-- a step's claim is the one for the subtrie of the next level
pub refused_step : (heap : ℕ → Block) (known : List Digest) (first ws : List ℕ) (d : Digest) (s : Space) (level table own size : ℕ) (error : BuildError) → IsReady heap known first s d → (x : Descent heap known ws s d level table own) → IsDigest d.bytes → level < 63 → length ws ≤ size → RefusesStep ws d level table size error → Refuses size own (record_claims known d) error
refused_step heap known first ws d s level table own size errors.Memory ready x digest deep fits refused = tt
refused_step heap known first ws d s level table own size (errors.Full full) ready x digest deep fits refused =
    let hj : index_of d.bytes level < width (path d.bytes level) = index_within d.bytes level digest in
    let word : 4 * refused.2.0 + 1 ≡ get_or ws (table + index_of d.bytes level) 0 = sym refused.2.1 in
    let n = the_record heap known ws d s level table own (index_of d.bytes level) refused.2.0 x hj word in
    let shallow = parts_before heap known first ws d s level table own (index_of d.bytes level) refused.2.0 ready x digest refl hj word deep in
    let one = record_shares heap x.after (memory_of ws) known s d level table ready.known_are x.same x.laid.tries x.here refused.2.0 n.cell n.digest refused.2.1 (named_at x.after s (index_of d.bytes level ∷ path d.bytes level) refused.2.0 n) (shared_down x.after d s level (index_of d.bytes level) refused.2.0 n refl) in
    let rest : ℕ = 61 - level in
    let all : suc level + rest ≡ 62 = omega arith in
    let fits_in : suc (new_subtries known d level) ≤ new_subtries known d 62 = below_all known d level rest all one in
    let more : ℕ = new_subtries known d 62 - suc (new_subtries known d level) in
    let split : new_subtries known d 62 ≡ new_subtries known d level + suc more = omega (arith, fits_in) in
    record {
      earlier = 5 ∷ replicate (new_subtries known d level) 16;
      later = replicate more 16;
      is = ap (λ n. 5 ∷ replicate n 16) split ∙ ap (λ xs. 5 ∷ xs) (replicate_split (new_subtries known d level) more 16) ∙ ap (λ n. (5 ∷ replicate (new_subtries known d level) 16) ++ n ∷ replicate more 16) (sym (ap (λ (f : Full). f.asked) refused.0));
      at_is = ap (λ (f : Full). f.at) refused.0 ∙ x.grown ∙ omega (arith, sum_five (new_subtries known d level));
      fits = omega (arith, ap (λ (f : Full). f.at) refused.0);
      past = omega (arith, ap (λ (f : Full). f.at) refused.0, ap (λ (f : Full). f.asked) refused.0, refused.1);
      size_is = ap (λ (f : Full). f.size) refused.0;
    }
  where
    replicate_split : (n m : ℕ) (k : ℕ) → replicate (n + suc m) k ≡ replicate n k ++ k ∷ replicate m k
    replicate_split zero m k = ap (λ i. replicate i k) (let e : 0 + suc m ≡ suc m = omega arith in e)
    replicate_split (suc n) m k = ap (λ i. replicate i k) (let e : suc n + suc m ≡ suc (n + suc m) = omega arith in e) ∙ ap (λ xs. k ∷ xs) (replicate_split n m k)

-- what `push_down` refuses
pub refused_push : (words : List ℕ) (d : Digest) (level table r size : ℕ) (error : BuildError) → 4 * r + 1 ≡ get_or words (table + index_of d.bytes level) 0 → RefusesClaim (length words) 16 size error → RefusesStep words d level table size error
refused_push words d level table r size errors.Memory word refused = tt
refused_push words d level table r size (errors.Full full) word refused = (refused.0, refused.1, (r, sym word))

-- the claim of the record itself
pub refused_record : (known : List Digest) (d : Digest) (start size : ℕ) (error : BuildError) → start ≤ size → RefusesClaim start 5 size error → Refuses size start (record_claims known d) error
refused_record known d start size errors.Memory fits refused = tt
refused_record known d start size (errors.Full full) fits refused = record {
  earlier = [];
  later = replicate (new_subtries known d 62) 16;
  is = ap (λ n. n ∷ replicate (new_subtries known d 62) 16) (sym (ap (λ (f : Full). f.asked) refused.0));
  at_is = ap (λ (f : Full). f.at) refused.0 ∙ omega arith;
  fits = omega (arith, ap (λ (f : Full). f.at) refused.0);
  past = omega (arith, ap (λ (f : Full). f.at) refused.0, ap (λ (f : Full). f.asked) refused.0, refused.1);
  size_is = ap (λ (f : Full). f.size) refused.0;
}

-- ---- the first eight words

pub head_append : (ws xs : List ℕ) → 8 ≤ length ws → SameHead ws (ws ++ xs)
head_append ws xs long i h = get_or_append_left ws xs 0 i (omega arith)

pub head_set : (ws : List ℕ) (a w : ℕ) → 8 ≤ a → SameHead ws (set ws a w)
head_set ws a w low i h = get_or-set_other ws a i w 0 (λ e. omega arith)

pub head_then : (a b c : List ℕ) → SameHead a b → SameHead b c → SameHead a c
head_then a b c f g i h = g i h ∙ f i h

-- a slot stands past them
pub slot_low : (heap : ℕ → Block) (known : List Digest) (ws : List ℕ) (d : Digest) (s : Space) (level table own : ℕ) → Descent heap known ws s d level table own → 8 ≤ table
slot_low heap known ws d s level table own x = x.laid.shape.low table (rw x.here (omega (arith, wide (path d.bytes level))))

pub laid_long : (heap : ℕ → Block) (ws : List ℕ) → Laid heap (memory_of ws) (length ws) → 520 ≤ length ws
laid_long heap ws laid =
    let size : extent (heap 264) ≡ 256 = ap extent (laid.tries.roots Actions) in
    omega (arith, laid.shape.high 264 (omega arith))

pub ready_long : (heap : ℕ → Block) (known : List Digest) (ws : List ℕ) (s : Space) (d : Digest) → IsReady heap known ws s d → 8 ≤ length ws
ready_long heap known ws s d ready = omega (arith, laid_long heap ws ready.laid)
