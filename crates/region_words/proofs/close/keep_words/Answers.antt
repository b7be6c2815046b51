use Rattle.std.proofs.Common.{◌≡◌, ◌≤◌, ◌+◌, ℕ, zero, suc, List, [], ◌∷◌, ◌++◌, get_or, take, min, sym, ap, ◌∙◌, subst, arith}
use Rattle.std.specs.Prelude.{slice_set, slice_index}
use Rattle.std.specs.Slots.{slots_items}
use mathlib.Core.Option.{some, some-injective, some-ne-none}
use lib.ListN.{get_elem?}
use Rattle.region_words.proofs.close.keep_words.Goals as goal

at-get : (l : List ℕ) (i a : ℕ) → get_elem? l i ≡ some a → get_or l i 0 ≡ a
at-get [] i a e = absurd (some-ne-none a (sym e))
at-get (x ∷ xs) zero a e = some-injective x a e
at-get (x ∷ xs) (suc i) a e = at-get xs i a e

take-snoc : (l : List ℕ) (i a : ℕ) → get_elem? l i ≡ some a → take i l ++ a ∷ [] ≡ take (suc i) l
take-snoc [] i a e = absurd (some-ne-none a (sym e))
take-snoc (x ∷ xs) zero a e = ap (λ (y : ℕ). y ∷ []) (sym (some-injective x a e))
take-snoc (x ∷ xs) (suc i) a e = ap (λ (l : List ℕ). x ∷ l) (take-snoc xs i a e)

pub loop-i-preserved : goal.loop-i-preserved
loop-i-preserved c =
    let next : suc c.loop-i.i ≡ c.loop-i.i + 1 = omega arith in (
      c.push_reserved.ensures.items ∙ ap (λ (l : List ℕ). l ++ c.word-in-loop-i.result ∷ []) c.loop-i.invariant.0 ∙ take-snoc (slots_items c.args.rows.now.words) c.loop-i.i c.word-in-loop-i.result c.word-in-loop-i.ensures
          ∙ ap (λ (k : ℕ). take k (slots_items c.args.rows.now.words)) next,
      subst (λ (k : ℕ). c.args.size ≤ k) (sym c.push_reserved.ensures.capacity) c.loop-i.invariant.1,
    )

pub returns : goal.returns
returns c =
    let items = slots_items c.args.rows.now.words in
    let word = at-get (slots_items c.args.rows.now.words) 3 c.word.result c.word.ensures in
    let count : c.min-count.result ≡ min (slice_index (slots_items c.args.rows.now.words) 3) c.args.size = c.min-count.ensures ∙ ap (λ (w : ℕ). min w c.args.size) (sym word) in
    let done : c.loop-i.i ≡ c.min-count.result = omega arith in
    ap (λ (l : List ℕ). slice_set l 3 c.min-count.result) (c.loop-i.invariant.0 ∙ ap (λ (k : ℕ). take k (slots_items c.args.rows.now.words)) done)
    ∙ ap (λ (k : ℕ). slice_set (take k (slots_items c.args.rows.now.words)) 3 k) count
