-- The first open block at a place.
use Rattle.std.proofs.Common.{◌≡◌, ℕ, suc, ◌<◌, ◌≤◌, List, [], ◌∷◌, Bool, true, false, cond, ◌==◌, Some, None, length, get_or, set, refl, ap, sym, ◌∙◌, arith, slice_set, IsSome, OnSome, IfSome}
use Rattle.std.specs.declared.option.Option.{Option}
use Rattle.std.specs.List.{remove}
use Rattle.cas_port.specs.declared.block.OpenBlock.{OpenBlock}
use Rattle.cas_port.specs.View.{open_words, write_word, close_block}
use Rattle.cell_port.specs.Tables.{first_at}

pub open-at : (os : List OpenBlock) (at : ℕ) (d : OpenBlock) → first_at os at < length os → open_words os at ≡ (get_or os (first_at os at) d).words
open-at [] at d lt = absurd (omega arith)
open-at (o ∷ os) at d lt = by_test (o.place == at) lt (λ h. open-at os at d h) where
  by_test : (b : Bool) → cond b 0 (suc (first_at os at)) < suc (length os) → (first_at os at < length os → open_words os at ≡ (get_or os (first_at os at) d).words)
      → cond b o.words (open_words os at) ≡ (get_or (o ∷ os) (cond b 0 (suc (first_at os at))) d).words
  by_test true lt below = refl
  by_test false lt below = below (omega arith)

pub write-at : (os : List OpenBlock) (at i w : ℕ) (d : OpenBlock) → first_at os at < length os
    → set os (first_at os at) (record (get_or os (first_at os at) d) { words = slice_set (get_or os (first_at os at) d).words i (Some w) }) ≡ write_word os at i w
write-at [] at i w d lt = absurd (omega arith)
write-at (o ∷ os) at i w d lt = by_test (o.place == at) lt (λ h. write-at os at i w d h) where
  by_test : (b : Bool) → cond b 0 (suc (first_at os at)) < suc (length os)
      → (first_at os at < length os → set os (first_at os at) (record (get_or os (first_at os at) d) { words = slice_set (get_or os (first_at os at) d).words i (Some w) }) ≡ write_word os at i w)
      → set (o ∷ os) (cond b 0 (suc (first_at os at))) (record (get_or (o ∷ os) (cond b 0 (suc (first_at os at))) d) { words = slice_set (get_or (o ∷ os) (cond b 0 (suc (first_at os at))) d).words i (Some w) })
      ≡ cond b (record o { words = slice_set o.words i (Some w) } ∷ os) (o ∷ write_word os at i w)
  by_test true lt below = refl
  by_test false lt below = ap (λ (rest : List OpenBlock). o ∷ rest) (below (omega arith))

pub close-at : (os : List OpenBlock) (at : ℕ) → first_at os at < length os → remove os (first_at os at) ≡ close_block os at
close-at [] at lt = absurd (omega arith)
close-at (o ∷ os) at lt = by_test (o.place == at) lt (λ h. close-at os at h) where
  by_test : (b : Bool) → cond b 0 (suc (first_at os at)) < suc (length os) → (first_at os at < length os → remove os (first_at os at) ≡ close_block os at)
      → remove (o ∷ os) (cond b 0 (suc (first_at os at))) ≡ cond b os (o ∷ close_block os at)
  by_test true lt below = refl
  by_test false lt below = ap (λ (rest : List OpenBlock). o ∷ rest) (below (omega arith))

pub close-none : (os : List OpenBlock) (at : ℕ) → length os ≤ first_at os at → os ≡ close_block os at
close-none [] at le = refl
close-none (o ∷ os) at le = by_test (o.place == at) le (λ h. close-none os at h) where
  by_test : (b : Bool) → suc (length os) ≤ cond b 0 (suc (first_at os at)) → (length os ≤ first_at os at → os ≡ close_block os at) → o ∷ os ≡ cond b os (o ∷ close_block os at)
  by_test true le below = absurd (omega arith)
  by_test false le below = ap (λ (rest : List OpenBlock). o ∷ rest) (below (omega arith))

pub open-none : (os : List OpenBlock) (at : ℕ) → length os ≤ first_at os at → open_words os at ≡ []
open-none [] at le = refl
open-none (o ∷ os) at le = by_test (o.place == at) le (λ h. open-none os at h) where
  by_test : (b : Bool) → suc (length os) ≤ cond b 0 (suc (first_at os at)) → (length os ≤ first_at os at → open_words os at ≡ []) → cond b o.words (open_words os at) ≡ []
  by_test true le below = absurd (omega arith)
  by_test false le below = below (omega arith)

-- ---- what the searches find

pub room-at : (os : List OpenBlock) (at n i : ℕ) (d : OpenBlock) → i ≡ first_at os at → i < length os → n < length (open_words os at) → d ≡ get_or os i d → n < length d.words
room-at os at n i d first lt room is =
    let here : first_at os at < length os = omega arith in
    let words : open_words os at ≡ d.words = open-at os at d here ∙ ap (λ k. (get_or os k d).words) (sym first) ∙ ap (λ (o : OpenBlock). o.words) (sym is) in
    omega (arith, ap length words)

pub write-done : (os : List OpenBlock) (at i w k : ℕ) (d : OpenBlock) (ws : List (Option ℕ)) → k ≡ first_at os at → k < length os → d ≡ get_or os k d → ws ≡ set d.words i (Some w)
    → set os k (record { place = d.place; who = d.who; words = ws }) ≡ write_word os at i w
write-done os at i w k d ws first lt is wrote =
    let here : first_at os at < length os = omega arith in
    let same : d ≡ get_or os (first_at os at) d = is ∙ ap (λ k. get_or os k d) first in
    ap (λ (ws : List (Option ℕ)). set os k (record { place = d.place; who = d.who; words = ws })) wrote
    ∙ ap (λ k. set os k (record d { words = set d.words i (Some w) })) first
    ∙ ap (λ (o : OpenBlock). set os (first_at os at) (record o { words = set o.words i (Some w) })) same
    ∙ write-at os at i w d here

pub write-none : (os : List OpenBlock) (at i k : ℕ) → k ≡ first_at os at → length os ≤ k → i < length (open_words os at) → ⊥
write-none os at i k first le room = omega (arith, ap length (open-none os at (omega arith)))

pub taken : (r : Option OpenBlock) (os : List OpenBlock) (at k : ℕ) (new : List OpenBlock) → k ≡ first_at os at → k < length os → IsSome r → OnSome r (new ≡ remove os k) → new ≡ close_block os at
taken (Some o) os at k new first lt some is =
    let here : first_at os at < length os = omega arith in
    is ∙ ap (remove os) first ∙ close-at os at here
taken None os at k new first lt some is = absurd (cc some)

pub taken-words : (r : Option OpenBlock) (os : List OpenBlock) (at k : ℕ) → k ≡ first_at os at → k < length os → IfSome r (λ o. o ≡ get_or os k o) → IfSome r (λ o. o.words ≡ open_words os at)
taken-words (Some o) os at k first lt is =
    let here : first_at os at < length os = omega arith in
    ap (λ (x : OpenBlock). x.words) (is ∙ ap (λ j. get_or os j o) first) ∙ sym (open-at os at o here)
taken-words None os at k first lt is = tt
